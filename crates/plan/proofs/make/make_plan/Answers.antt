-- `plan::make::make_plan` meets its contract: an order that is taken is one that `plan_for` asks for. Assumes nothing.
use borrow.Author.Rules.{rules}
use Rattle.plan.proofs.Answered.{answer_refused, answer_taken, taken_asks}
use Rattle.plan.proofs.make.make_plan.Goals as goal

pub plan_for-requires : goal.plan_for-requires
plan_for-requires c = taken_asks c.args.order (search rules)

pub returns-in-Ok : goal.returns-in-Ok
returns-in-Ok c = answer_taken c.args.order c.args.blanks _ (search rules) (search rules)

pub returns-in-Err : goal.returns-in-Err
returns-in-Err c =
    answer_refused c.args.order c.args.blanks c.in-Err.refusal c.number.result _ c.z.result
    c.in-Err.ensures c.number.ensures (search rules) c.z.ensures
