-- `rounds::swaps` meets its contract. The loop's invariant: the nonzero columns below x have changed places with as many zero columns of b..from-1.
-- Assumes nothing.
use mathlib.Core.Bool.{not}
use Prim.Native.Nat.{◌-◌, ◌≤◌}
use lib.ListN.{length}
use Rattle.bank.specs.Limits.{ROWS}
use Rattle.planning.specs.Columns.{phi, zero_column}
use Rattle.rounds.proofs.Swapping.{Exchanged}
use Rattle.rounds.proofs.swaps.Given as goal

abbrev pub invariant-loop-x : goal.invariant-loop-x
invariant-loop-x l = (l.b ≤ l.from) × (l.from ≤ l.m) × Exchanged (λ j. not (zero_column (phi l.m l.columns) j)) (zero_column (phi l.m l.columns)) l.b (length l.columns) (ROWS - length l.columns) l.x l.from l.s
