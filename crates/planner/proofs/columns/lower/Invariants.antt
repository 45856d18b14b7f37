-- `planner::columns::lower` meets its contract. The loop's invariant: the first i columns are in place. Assumes nothing.
use mathlib.Core.Path.{◌≡◌}
use mathlib.Core.List.{map}
use Prim.Native.Nat.{◌/◌, ◌^◌}
use Rattle.bank.specs.Limits.{ROWS}
use Rattle.matrix.proofs.Filled.{filled}
use Rattle.planner.proofs.columns.lower.Given as goal

abbrev pub invariant-loop-i : goal.invariant-loop-i
invariant-loop-i l = l.part ≡ filled ROWS (map (λ v. v / 2 ^ l.m) l.columns) l.i
