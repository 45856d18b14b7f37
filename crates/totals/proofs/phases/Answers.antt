-- `totals::phases` meets its contract: the blanks come where they are asked for. Assumes nothing.
use mathlib.Core.Path.{◌∙◌, ap, sym}
use mathlib.Core.Bool.{Bool, cond}
use Rattle.planning.specs.Stored.{route_of}
use Rattle.planning.proofs.Phases.{phases_are}
use Rattle.totals.proofs.phases.Goals as goal

pub returns-then-plan : goal.returns-then-plan
unfolding route_of
returns-then-plan c = ap (λ (b : Bool). cond b 3 2) (sym c.if-plan.true) ∙ sym (phases_are (route_of c.args.plan))

pub returns : goal.returns
unfolding route_of
returns c = ap (λ (b : Bool). cond b 3 2) (sym c.if-plan.false) ∙ sym (phases_are (route_of c.args.plan))
