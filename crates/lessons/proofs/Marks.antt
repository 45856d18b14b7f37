-- Which mark follows from the target and from what the answer says? Assumes nothing.
use Rattle.std.specs.Prelude.{Option, Some, None}
use Rattle.std.specs.Option.{option_eq}
use mathlib.Core.Path.{◌≡◌, refl, sym, ap, ◌∙◌}
use mathlib.Core.Bool.{true, false}
use mathlib.Core.List.{List}
use Prim.Native.Nat.{ℕ, zero, suc, ◌^◌, ◌<◌}
use native.Mathlib.Nat.{lt_of_lt_of_le}
use native.Mathlib.Omega.{arith}
use borrow.Author.Tests.{eqb-true, eqb-false}
use lib.Dec.{eqb}
use lib.Pow.{pow_mono}
use Rattle.bank.specs.Limits.{ROWS}
use Rattle.order.specs.declared.Order.{Order}
use Rattle.addresses.specs.declared.Target.{Target}
use Rattle.order.specs.Order.{z_with}
use Rattle.addresses.specs.Address.{question_number, sent_to, target_of}
use Rattle.addresses.proofs.Asked.{settled, sent_below, target_number, target_address}
use Rattle.text.specs.Lines.{decimal}
use Rattle.text.proofs.Decimals.{decimal_same}
use Rattle.words.specs.Says.{Says, DIGITS}
use Rattle.words.proofs.Numbers.{says_number, says_none}
use Rattle.lessons.specs.Mark.{Marked, OneMark, refused, right, wrong}
use Rattle.lessons.specs.declared.Mark.TheVariants.{Right, Wrong, Refused}

module _ (order : Order) (x : ℕ) (answer : List ℕ) (t : Target) (is : t ≡ target_of order x) where
  refused_by : (k : ℕ) → question_number order x ≡ k → (k ≡ 0 → ⊥) → Marked order x answer (Refused k (record { 0 = z_with k order }))
  refused_by zero e f = absurd (f refl)
  refused_by (suc k) e f = refused k e

  pub mark_refused : (t.number ≡ 0 → ⊥) → Marked order x answer (Refused t.number t.z)
  unfolding target_of
  mark_refused f = rw is (refused_by (question_number order x) refl (λ e. f (target_number order x t is ∙ e)))

  module _ (taken : t.number ≡ 0) where
    none : question_number order x ≡ 0
    none = sym (target_number order x t is) ∙ taken

    -- every address is a number of so few digits that an answer can say it
    sent_small : sent_to order x < 10 ^ DIGITS
    sent_small =
        let few = (settled order x none).0 in
        let small = lt_of_lt_of_le (sent_below order x none) (pow_mono {i = order.geometry.n} {j = ROWS} few) in
        omega (arith, small)

    mark_no_number : Says answer None → Marked order x answer Wrong
    mark_no_number s = wrong none (says_none answer s (sent_to order x) sent_small)

    module _ (v : ℕ) (said : Says answer (Some v)) where
      mark_right : v ≡ t.address.0 → Marked order x answer Right
      mark_right e = right none ((says_number answer v said).1 ∙ ap decimal (e ∙ target_address order x t is none))

      mark_wrong : (v ≡ t.address.0 → ⊥) → Marked order x answer Wrong
      mark_wrong f =
          let s = says_number answer v said in
          wrong none (λ e. f (decimal_same v (sent_to order x) (omega (arith, s.0)) (omega (arith, sent_small)) (sym s.1 ∙ e)
          ∙ sym (target_address order x t is none)))

    -- what the answer says, held against the target
    pub mark_same : (r : Option ℕ) → Says answer r → option_eq eqb r (Some t.address.0) ≡ true → Marked order x answer Right
    mark_same None s e = absurd (cc)
    mark_same (Some v) s e = mark_right v s (eqb-true v t.address.0 e)

    pub mark_other : (r : Option ℕ) → Says answer r → option_eq eqb r (Some t.address.0) ≡ false → Marked order x answer Wrong
    mark_other None s e = mark_no_number s
    mark_other (Some v) s e = mark_wrong v s (eqb-false v t.address.0 e)

-- ---- one mark

pub one_mark : OneMark
one_mark order x answer (Refused k y) (Refused j z) (refused k' e) (refused j' f) = ap (λ (i : ℕ). Refused i (record { 0 = z_with i order })) (sym e ∙ f)
one_mark order x answer (Refused k z) Right (refused k' e) (right f g) = absurd (omega (arith, e, f))
one_mark order x answer (Refused k z) Wrong (refused k' e) (wrong f g) = absurd (omega (arith, e, f))
one_mark order x answer Right (Refused j z) (right e g) (refused j' f) = absurd (omega (arith, e, f))
one_mark order x answer Right Right (right e g) (right f h) = refl
one_mark order x answer Right Wrong (right e g) (wrong f h) = absurd (h g)
one_mark order x answer Wrong (Refused j z) (wrong e g) (refused j' f) = absurd (omega (arith, e, f))
one_mark order x answer Wrong Right (wrong e g) (right f h) = absurd (g h)
one_mark order x answer Wrong Wrong (wrong e g) (wrong f h) = refl
