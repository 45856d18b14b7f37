-- `runs::moment::Moment::twice` is safe: no more steps are counted than were sent. Assumes nothing.
use Rattle.std.proofs.Common.{◌≤◌}
use Rattle.runs.proofs.moment.Moment.twice.Given as goal

abbrev pub invariant-loop-k : goal.invariant-loop-k
invariant-loop-k l = l.right ≤ l.k
