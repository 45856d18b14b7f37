-- `sending::send_step` meets its contract: the step is asked, and then so many times more. Assumes nothing.
use Rattle.std.proofs.Common.{◌≡◌, ℕ, ap, ◌∙◌, arith}
use Rattle.moving.specs.Step.{buffers_of}
use Rattle.moving.specs.Call.{lent}
use Rattle.sending.specs.Sent.{asked_times}
use Rattle.sending.proofs.Sent.{call_moment, first_and, none_asked, one_more}
use Rattle.sending.proofs.send_step.Goals as goal

pub loop-init : goal.loop-init
loop-init c =
    let once = lent c.state-s.result c.step-first.new.area0 c.step-first.new.area1 c.step-first.new.memory in
    none_asked c.args.plan c.args.k once

-- `found` is the moment as an iteration finds it
pub loop-preserved : goal.loop-preserved
loop-preserved c =
    let once = lent c.state-s.result c.step-first.new.area0 c.step-first.new.area1 c.step-first.new.memory in
    let found = lent c.loop.s c.loop.area0 c.loop.area1 c.loop.memory in
    let after = buffers_of c.step-answer.new.area0 c.step-answer.new.area1 c.step-answer.new.memory in
    let asked = call_moment c.args.plan c.args.k {before = found} {after = after} c.step-answer.ensures c.state-s-in-loop.ensures in
    one_more c.args.plan c.args.k c.loop.counter once {here = found} asked c.loop.invariant

pub returns : goal.returns
returns c =
    let began = lent c.args.state c.args.area0.now c.args.area1.now c.args.memory.now in
    let once = lent c.state-s.result c.step-first.new.area0 c.step-first.new.area1 c.step-first.new.memory in
    let after = buffers_of c.step-first.new.area0 c.step-first.new.area1 c.step-first.new.memory in
    let asked = call_moment c.args.plan c.args.k {before = began} {after = after} c.step-first.ensures c.state-s.ensures in
    let times = asked_times c.args.plan c.args.k in
    let all : c.loop.counter ≡ c.args.again = omega arith in
    c.loop.invariant ∙ ap (λ (i : ℕ). times i once) all ∙ ap (times c.args.again) asked ∙ first_and c.args.plan c.args.k c.args.again began
