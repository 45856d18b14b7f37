-- `sending::send_all` meets its contract: k steps are sent. Assumes nothing.
use Rattle.std.proofs.Common.{ap, ◌∙◌}
use Rattle.planning.specs.declared.state.State.{State}
use Rattle.moving.specs.Step.{buffers_of}
use Rattle.moving.specs.Call.{begun, lent}
use Rattle.demands.specs.Chain.{moment_of}
use Rattle.sending.proofs.Sent.{none_sent, one_sent}
use Rattle.sending.proofs.send_all.Goals as goal

pub loop-k-init : goal.loop-k-init
loop-k-init g c =
    let v = buffers_of c.args.area0.now c.args.area1.now c.args.memory.now in
    ap (λ (t : State). moment_of t v) c.fresh-s.ensures ∙ none_sent c.args.plan c.args.again (begun v)

pub loop-k-preserved : goal.loop-k-preserved
loop-k-preserved g c =
    let v = buffers_of c.args.area0.now c.args.area1.now c.args.memory.now in
    let found = lent c.loop-k.s c.loop-k.area0 c.loop-k.area1 c.loop-k.memory in
    let after = lent c.send_step-s.result c.send_step-s.new.area0 c.send_step-s.new.area1 c.send_step-s.new.memory in
    one_sent c.args.plan c.args.again c.loop-k.k (begun v) {here = found} {there = after} c.send_step-s.ensures c.loop-k.invariant
