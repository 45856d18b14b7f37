-- `planner::operations::step2` meets its contract. The loop's invariant: the first j columns are in place. Assumes nothing.
use mathlib.Core.Path.{◌≡◌}
use lib.ListN.{length}
use Rattle.bank.specs.Limits.{ROWS}
use Rattle.matrix.proofs.Filled.{filled}
use Rattle.planning.specs.Making.{step2}
use Rattle.planner.proofs.operations.step2.Given as goal

abbrev pub invariant-loop-j : goal.invariant-loop-j
invariant-loop-j l = l.out ≡ filled ROWS (step2 (length l.columns) l.m l.columns) l.j
