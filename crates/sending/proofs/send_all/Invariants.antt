-- `sending::send_all`: k steps are sent.
use Rattle.std.proofs.Common.{◌≡◌}
use Rattle.moving.specs.Step.{buffers_of}
use Rattle.moving.specs.Call.{begun, lent}
use Rattle.sending.specs.Sent.{asked_in_turn}
use Rattle.sending.proofs.send_all.Given as goal

abbrev pub invariant-loop-k : goal.invariant-loop-k
invariant-loop-k g l =
    lent l.s l.area0 l.area1 l.memory ≡ asked_in_turn l.plan l.again l.k (begun (buffers_of l.initial.area0 l.initial.area1 l.initial.memory))
