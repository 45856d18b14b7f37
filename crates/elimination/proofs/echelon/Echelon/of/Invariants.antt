-- `elimination::echelon::Echelon::of` meets its contract. The loop's invariant: the entries are those after the first j columns. Assumes nothing.
use mathlib.Core.Path.{◌≡◌}
use Rattle.bank.specs.Limits.{ROWS}
use Rattle.algebra.specs.Elimination.{built}
use Rattle.elimination.specs.Echelon.{echelon_of}
use Rattle.elimination.proofs.echelon.Echelon.of.Given as goal

abbrev pub invariant-loop-j : goal.invariant-loop-j
invariant-loop-j l = echelon_of l.entries ≡ built ROWS l.columns l.j
