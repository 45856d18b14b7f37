-- `rounds::erases` meets its contract. The loop's invariant: e holds the columns of E before j, and the identity's from j on. Assumes nothing.
use mathlib.Core.Path.{◌≡◌}
use mathlib.Core.List.{◌++◌}
use Prim.Native.Nat.{◌-◌, ◌≤◌}
use lib.ListN.{replicate}
use Rattle.bank.specs.Limits.{ROWS}
use Rattle.planning.specs.Columns.{adding}
use Rattle.rounds.proofs.Erasing.{erased}
use Rattle.rounds.proofs.erases.Given as goal

abbrev pub invariant-loop-j : goal.invariant-loop-j
invariant-loop-j l = (l.b ≤ l.j) × (l.e ≡ adding (erased l.n l.b l.m l.columns l.j) l.n ++ replicate (ROWS - l.n) 0)
