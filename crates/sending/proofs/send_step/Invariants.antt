-- `sending::send_step`: as many times more are asked as the loop has come to.
use Rattle.std.proofs.Common.{◌≡◌}
use Rattle.moving.specs.Call.{lent}
use Rattle.sending.specs.Sent.{asked_times}
use Rattle.sending.proofs.send_step.Given as goal

abbrev pub invariant-loop : goal.invariant-loop
invariant-loop l =
    lent l.s l.area0 l.area1 l.memory ≡ asked_times l.plan l.k l.counter (lent l.initial.s l.initial.area0 l.initial.area1 l.initial.memory)
