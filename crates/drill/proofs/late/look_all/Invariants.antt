-- `drill::late::look_all` is safe: no more keys are right than were looked for. Assumes nothing.
use Rattle.std.proofs.Common.{◌≤◌}
use Rattle.drill.proofs.late.look_all.Given as goal

abbrev pub invariant-loop-key : goal.invariant-loop-key
invariant-loop-key g l = l.right ≤ l.key
