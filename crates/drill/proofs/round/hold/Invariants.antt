-- `drill::round::hold` is safe: no more questions are counted than there were turns. Assumes nothing.
use Rattle.std.proofs.Common.{◌≤◌}
use Rattle.drill.proofs.round.hold.Given as goal

abbrev pub invariant-loop-turn : goal.invariant-loop-turn
invariant-loop-turn g l = (l.asked ≤ l.turn) × (l.right ≤ l.asked)
