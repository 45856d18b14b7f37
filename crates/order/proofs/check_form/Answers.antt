-- `order::check_form` meets its contract: 1 outside the limits, and inside them what the form says. Assumes nothing.
use mathlib.Core.Path.{ap, sym, ◌∙◌}
use mathlib.Core.Bool.{Bool}
use Rattle.bank.specs.Checks.{refuse}
use Rattle.bank.proofs.Limits.{limits→allowed}
use Rattle.order.proofs.Judged.{form_outside, form_inside}
use Rattle.order.proofs.check_form.Goals as goal

pub returns-then-not-in_limits : goal.returns-then-not-in_limits
returns-then-not-in_limits c = sym (form_outside c.args.order (sym c.in_limits.ensures ∙ c.if-not-in_limits.true))

pub bad_form-requires : goal.bad_form-requires
bad_form-requires c = (limits→allowed _ (sym c.in_limits.ensures ∙ c.if-not-in_limits.false)).n_high

pub returns-then-bad_form : goal.returns-then-bad_form
returns-then-bad_form c =
    sym (form_inside c.args.order (sym c.in_limits.ensures ∙ c.if-not-in_limits.false)
    ∙ ap (λ (t : Bool). refuse t 2 0) (sym c.bad_form.ensures ∙ c.if-bad_form.true))

pub returns : goal.returns
returns c =
    sym (form_inside c.args.order (sym c.in_limits.ensures ∙ c.if-not-in_limits.false)
    ∙ ap (λ (t : Bool). refuse t 2 0) (sym c.bad_form.ensures ∙ c.if-bad_form.false))
