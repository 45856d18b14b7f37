-- What does a planning call answer? Assumes nothing.
use Rattle.std.specs.Prelude.{Bool}
use Rattle.bank.specs.Checks.{handed}
use Rattle.order.specs.Order.{matrix_of, judgement, z_with}
use Rattle.order.specs.declared.Order.{Order}
use Rattle.planning.specs.Stored.{empty_plan, plan_for}
use Rattle.plan.specs.declared.make.Planned.{Planned}

-- the order's judgement; its plan with 0, which keeps whether the spent area is to be blanked, the empty plan with a refusal
unfoldable pub planned_for : Order → Bool → Planned
planned_for order blanks =
    record {
      number = judgement order;
      plan = handed (judgement order) (plan_for order.geometry (matrix_of order) order.complement blanks) empty_plan;
      z = record { 0 = z_with (judgement order) order };
    }
