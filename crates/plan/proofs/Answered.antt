-- What does a planning call answer, refused or not? Assumes nothing.
use mathlib.Core.Path.{◌∙◌, ◌≡◌, ap, refl, sym}
use mathlib.Core.Bool.{Bool, false, true}
use Prim.Native.Nat.{suc, zero, ℕ}
use Rattle.bank.specs.Checks.{handed}
use Rattle.std.specs.Prelude.{Ok, Err}
use Rattle.bank.specs.Geometry.{in_limits}
use Rattle.bank.specs.Refusal.{number_of, z_of}
use Rattle.bank.specs.declared.Address.{Address}
use Rattle.bank.specs.declared.refusal.Refusal.{Refusal}
use Rattle.bank.proofs.Refusals.{refuses}
use Rattle.algebra.specs.Matrix.{singular}
use Rattle.order.specs.Order.{judgement, matrix_of, verdict, z_with}
use Rattle.order.specs.Checked.{verdict_of}
use Rattle.order.proofs.Accepted.{judgement→accepted}
use Rattle.order.specs.declared.Order.{Order}
use Rattle.order.specs.declared.Verdict.{Verdict}
use Rattle.planning.specs.Stored.{empty_plan, plan_for}
use Rattle.planning.specs.declared.Plan.{Plan}
use Rattle.plan.specs.Answer.{planned_for}
use Rattle.plan.specs.declared.make.Planned.{Planned}

module _ (order : Order) (blanks : Bool) where
  abbrev made : Plan
  made = plan_for order.geometry (matrix_of order) order.complement blanks

  -- a verdict, and a plan with it
  abbrev with_plan : Verdict → Plan → Planned
  with_plan v plan = record { number = v.number; plan = plan; z = v.z }

  -- refused: the empty plan
  pub planned-refused : (judgement order ≡ 0 → ⊥) → planned_for order blanks ≡ with_plan (verdict order) empty_plan
  unfolding planned_for
  planned-refused h = ap (with_plan (verdict order)) (go (judgement order) h)
    where
      go : (k : ℕ) → (k ≡ 0 → ⊥) → handed k made empty_plan ≡ empty_plan
      go zero h = absurd (h refl)
      go (suc k) h = refl

  -- taken: 0, and the plan
  pub planned_taken : judgement order ≡ 0 → planned_for order blanks ≡ record { number = 0; plan = made; z = record { 0 = 0 } }
  unfolding planned_for z_with
  planned_taken e = rw e

  -- as the code makes it
  pub answer_taken : (plan : Plan) → verdict_of (Ok tt) ≡ verdict order → plan ≡ made
      → record { number = 0; plan = plan; z = record { 0 = 0 } } ≡ planned_for order blanks
  answer_taken plan is e =
      ap (with_plan (verdict_of (Ok tt))) e ∙ sym (planned_taken (sym (ap (λ (v : Verdict). v.number) is)))

  pub answer_refused : (r : Refusal) (number : ℕ) (plan : Plan) (z : Address) → verdict_of (Err r) ≡ verdict order
      → number ≡ number_of r → plan ≡ empty_plan → z ≡ z_of r → record { number = number; plan = plan; z = z } ≡ planned_for order blanks
  answer_refused r number plan z is en ep ez =
      (λ i. record { number = en i; plan = ep i; z = ez i }) ∙ ap (λ (v : Verdict). with_plan v empty_plan) is
      ∙ sym (planned-refused (λ e. refuses r (ap (λ (v : Verdict). v.number) is ∙ e)))

-- and what a plan asks of an order is there where it is taken
pub taken_asks : (order : Order) → verdict_of (Ok tt) ≡ verdict order
    → (in_limits order.geometry ≡ true) × (singular order.geometry.n (matrix_of order) ≡ false)
taken_asks order is = let k = judgement→accepted order (sym (ap (λ (v : Verdict). v.number) is)) in (k.inside, k.regular)
