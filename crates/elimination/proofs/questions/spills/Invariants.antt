-- `elimination::questions::spills` meets its contract. The loop's invariant: the entries are those after the first j columns of the middle rows, and below 2^j
-- the lower rows send to zero all that the middle rows do. Assumes nothing.
use mathlib.Core.Path.{◌≡◌}
use Prim.Native.Nat.{◌-◌}
use lib.ListN.{drop, length, take}
use Rattle.bank.specs.Limits.{ROWS}
use Rattle.algebra.specs.Elimination.{built}
use Rattle.algebra.specs.Matrix.{columns}
use Rattle.algebra.proofs.Spill.{Through}
use Rattle.elimination.specs.Echelon.{echelon_of}
use Rattle.elimination.proofs.questions.spills.Given as goal

abbrev pub invariant-loop-j : goal.invariant-loop-j
invariant-loop-j l =
    (echelon_of l.entries ≡ built ROWS (columns l.m (take (l.m - l.b) (drop l.b l.rows))) l.j)
    × Through (take (l.m - l.b) (drop l.b l.rows)) (take (length l.rows - l.m) (drop l.m l.rows)) l.j
