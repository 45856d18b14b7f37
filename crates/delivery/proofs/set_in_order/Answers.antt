-- `delivery::set_in_order` meets its contract: all the steps were sent, the result goes to area 0, and what it leaves may be cleared. Assumes nothing.
use Rattle.std.proofs.Common.{Bool, List, ℕ, sym, ap, ap₂, ◌∙◌}
use Rattle.order.proofs.Accepted.{judgement→accepted}
use Rattle.moving.specs.Step.{buffers_of}
use Rattle.delivery.proofs.InOrder.{sent→set}
use Rattle.delivery.specs.Delivery.{taken_from}
use Rattle.delivery.proofs.set_in_order.Goals as goal

-- an order that is taken is one that `plan_for` asks for
pub plan_for-plan-requires : goal.plan_for-plan-requires
plan_for-plan-requires g c =
    let k = judgement→accepted c.args.order c.requires.order_value.0 in (k.inside, k.regular)

pub copy_into-requires : goal.copy_into-requires
copy_into-requires g c =
    let sent = sent→set c.args.again c.requires.order_value c.requires.memory_value c.plan_for-plan.ensures c.send_all.ensures in
    sent.fits.area0_long ∙ sym sent.fits.area1_long

pub returns-then-blanks : goal.returns-then-blanks
returns-then-blanks g c =
    let w = buffers_of c.send_all.new.area0 c.send_all.new.area1 c.send_all.new.memory in
    let sent = sent→set c.args.again c.requires.order_value c.requires.memory_value c.plan_for-plan.ensures c.send_all.ensures in
    ap₂ (λ (x y : List ℕ). buffers_of x y w.memory) c.copy_into.ensures
    (c.clear.ensures ∙ sym (ap (λ (b : Bool). taken_from 1 b w.area1) c.if-blanks.true)) ∙ sent.first (sym c.result_area.ensures ∙ c.if-result_area-eq1.true)

pub returns-else-blanks : goal.returns-else-blanks
returns-else-blanks g c =
    let w = buffers_of c.send_all.new.area0 c.send_all.new.area1 c.send_all.new.memory in
    let sent = sent→set c.args.again c.requires.order_value c.requires.memory_value c.plan_for-plan.ensures c.send_all.ensures in
    ap₂ (λ (x y : List ℕ). buffers_of x y w.memory) c.copy_into.ensures
    (sym (ap (λ (b : Bool). taken_from 1 b w.area1) c.if-blanks.false)) ∙ sent.first (sym c.result_area.ensures ∙ c.if-result_area-eq1.true)

pub returns-else-result_area-eq1 : goal.returns-else-result_area-eq1
returns-else-result_area-eq1 g c =
    let sent = sent→set c.args.again c.requires.order_value c.requires.memory_value c.plan_for-plan.ensures c.send_all.ensures in
    sent.zeroth (λ e. c.if-result_area-eq1.false (c.result_area.ensures ∙ e))
