-- What does a refusal of an order hand back? Assumes nothing.
use mathlib.Core.Path.{◌≡◌, sym, ap, ap₂, ◌∙◌}
use mathlib.Core.Bool.{Bool, not}
use Prim.Native.Nat.{ℕ}
use native.Mathlib.Omega.{arith}
use borrow.Author.Tests.{eq-eqb, ne_eqb}
use lib.Dec.{eqb}
use Rattle.std.specs.Prelude.{Ok, Err}
use Rattle.bank.specs.Checks.{refuse}
use Rattle.bank.specs.Refusal.{number_of}
use Rattle.bank.specs.declared.refusal.Refusal.{Refusal}
use Rattle.bank.specs.declared.refusal.Refusal.TheVariants.{Singular}
use Rattle.bank.proofs.Refusals.{refuses, z_else}
use Rattle.algebra.specs.Matrix.{kernel}
use Rattle.algebra.proofs.Singular.{kernel_tells}
use Rattle.order.specs.Order.{form_number, judgement, matrix_of, verdict, z_with}
use Rattle.order.specs.Checked.{verdict_of}
use Rattle.order.specs.declared.Order.{Order}
use Rattle.order.specs.declared.Verdict.{Verdict}
use Rattle.order.proofs.Judged.{form_other, form_z, formed_z, judgement_form, judgement_formed}

module _ (order : Order) where
  judged : {k z : ℕ} → k ≡ judgement order → z ≡ z_with (judgement order) order
      → ◌≡◌ {A = Verdict} (record { number = k; z = record { 0 = z } }) (verdict order)
  judged p q = ap₂ {C = Verdict} (λ (k z : ℕ). record { number = k; z = record { 0 = z } }) p q

  -- a refusal by the form's number is the judgement
  pub form_refused : (r : Refusal) → number_of r ≡ form_number order → verdict_of (Err r) ≡ verdict order
  form_refused r e =
      let number = sym (judgement_form order (λ z. refuses r (e ∙ z))) in
      let none = sym (form_z order) ∙ ap (λ (k : ℕ). z_with k order) number in
      judged (e ∙ number) (z_else r (λ t. form_other order (sym e ∙ t)) ∙ none)

  module _ (formed : form_number order ≡ 0) (k : ℕ) (is : k ≡ kernel order.geometry.n (matrix_of order)) where
    number : refuse (not (eqb k 0)) 3 0 ≡ judgement order
    number =
        ap (λ (z : ℕ). refuse (not (eqb z 0)) 3 0) is
        ∙ ap (λ (t : Bool). refuse t 3 0) (kernel_tells order.geometry.n (matrix_of order)) ∙ sym (judgement_formed order formed)

    z : k ≡ z_with (judgement order) order
    z =
        is ∙ sym (formed_z order 0 (λ e. omega (arith, e)))
        ∙ ap (λ (k : ℕ). z_with k order) (sym (judgement_formed order formed))

    -- in good form, an order whose matrix sends nothing but 0 to zero is taken
    pub none_taken : k ≡ 0 → verdict_of (Ok tt) ≡ verdict order
    none_taken e = judged (sym (ap (λ (t : Bool). refuse (not t) 3 0) (eq-eqb k 0 e)) ∙ number) (sym e ∙ z)

    -- and another is refused by 3, with the least address that is sent to zero
    pub some_refused : (k ≡ 0 → ⊥) → verdict_of (Err (Singular (record { 0 = k }))) ≡ verdict order
    some_refused f = judged (sym (ap (λ (t : Bool). refuse (not t) 3 0) (ne_eqb k 0 f)) ∙ number) z
