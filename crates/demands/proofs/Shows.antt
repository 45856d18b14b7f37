-- Why is an order singular? What goes with 3 in our calls shows it, and no other address does. Assumes nothing.
use mathlib.Core.Path.{◌≡◌, refl, sym, ap, ◌∙◌, subst}
use mathlib.Core.Logic.{⊎_elim}
use mathlib.Core.List.{List}
use Prim.Native.Nat.{ℕ, ◌<◌, ◌≤◌}
use native.Mathlib.Nat.{eq-or-lt_of_le}
use native.Mathlib.Omega.{arith}
use lib.Bits.{bit_xor, xor_lt, xor_self, xor_zero_l, xor_zero_r}
use lib.Pow.{pow_pos}
use Rattle.algebra.proofs.Digits.{xor_cancel}
use Rattle.algebra.proofs.Search.{le_or_lt, same_or}
use Rattle.algebra.proofs.Singular.{kernel_killed, kernel-least, target_inj, target_stays}
use Rattle.algebra.specs.Matrix.{applied, kernel}
use Rattle.bank.specs.declared.Geometry.{Geometry}
use Rattle.order.specs.declared.Order.{Order}
use Rattle.addresses.specs.Address.{Source}
use Rattle.order.specs.Order.{judgement, matrix_of, z_with}
use Rattle.addresses.specs.Address.{Found, found_for, meaning_of, question_number, sent_to, target_of}
use Rattle.addresses.proofs.Asked.{question_three}
use Rattle.order.proofs.Judged.{three_singular, z_other, z_three}
use Rattle.plan.specs.Answer.{planned_for}
use Rattle.reading.specs.Reading.{Reads, Whole}
use Rattle.reading.specs.Reading.Reads.{no_first_line, outside, no_rest, singular, taken}
use Rattle.reading.proofs.Main.{same_order}
use Rattle.demands.specs.Numbers.{Inside}
use Rattle.demands.specs.Ours.{ours}
use Rattle.demands.specs.Shows.{Explains, Gives, GoesWith, Shows, SitesAgree}
use Rattle.demands.specs.Shows.Gives.{judging, forwards, backwards, planning, reading}

module _ (order : Order) where
  abbrev n : ℕ
  n = order.geometry.n

  abbrev z : ℕ
  z = kernel n (matrix_of order)

  -- ---- the least vector that a singular matrix sends to zero
  z_shows : judgement order ≡ 3 → Shows order z
  z_shows e =
      let k = kernel_killed n (matrix_of order) (three_singular order e) in
      let stays : (x : ℕ) → sent_to order (bit_xor x z) ≡ sent_to order x = λ x. target_stays (matrix_of order) order.complement x z k.2 in
      record {
        nonzero = k.0;
        with_0 = record {
          x_below = k.1;
          y_below = pow_pos n;
          different = λ q. omega (arith, k.0, q);
          shared = ap (sent_to order) (sym (xor_zero_l z)) ∙ stays 0;
        };
        smallest = λ y p l q.
            kernel-least n (matrix_of order) y p l
            (ap (applied (matrix_of order)) (sym (xor_zero_r y)) ∙ target_inj (matrix_of order) order.complement y 0 q);
        in_pairs = λ x h.
            record {
              x_below = h;
              y_below = xor_lt n x z h k.1;
              different = λ q. omega (arith, k.0, sym (xor_self x) ∙ ap (bit_xor x) q ∙ xor_cancel x z);
              shared = sym (stays x);
            };
      }

  -- ---- a number that is 3 only where the order's is, and its z
  goes_with : (number shown : ℕ) → (number ≡ 3 → judgement order ≡ 3) → shown ≡ z_with number order → GoesWith order number shown
  goes_with number shown three is =
      record {
        with_3 = λ e. subst (Shows order) (sym (is ∙ z_three order e)) (z_shows (three e));
        else_0 = λ f. is ∙ z_other order f;
      }

  asked_with : (x shown : ℕ) → shown ≡ z_with (question_number order x) order → GoesWith order (question_number order x) shown
  asked_with x shown is = goes_with (question_number order x) shown (question_three order x) is

  back_with : (y : ℕ) (a : Source) → meaning_of a ≡ found_for order y → GoesWith order (meaning_of a).number (meaning_of a).z
  unfolding found_for
  back_with y a p = subst (λ (f : Found). GoesWith order f.number f.z) (sym p) (asked_with y (found_for order y).z refl)

-- ---- a text

-- the one order that the text is
read_shows : (text : List ℕ) (k : ℕ) (order : Order) (z : ℕ) → Reads text k order z → k ≡ 3
    → (g : Geometry) (written : Order) → Inside text g → Whole text g written → Shows written z
read_shows text k order z (no_first_line f) e = absurd (omega (arith, e))
read_shows text k order z (outside h c m) e = absurd (omega (arith, e))
read_shows text k order z (no_rest h c m f) e = absurd (omega (arith, e))
read_shows text k order z (singular h o c m v j) e = λ g written i w.
    let same = same_order text h g c i.0 o written m v w in
    subst (λ (a : Order). Shows a (z_with 3 o)) same (subst (Shows o) (sym (z_three o refl)) (z_shows o j))
read_shows text k order z (taken h o c m v j) e = absurd (omega (arith, e))

no_z : (text : List ℕ) (k : ℕ) (order : Order) (z : ℕ) → Reads text k order z → (k ≡ 3 → ⊥) → z ≡ 0
no_z text k order z (no_first_line f) h = refl
no_z text k order z (outside g b i) h = refl
no_z text k order z (no_rest g b i f) h = refl
no_z text k order z (singular g o b i w j) h = absurd (h refl)
no_z text k order z (taken g o b i w j) h = refl

-- ---- each call

of_order : (order : Order) (k z : ℕ) → Gives ours order k z → GoesWith order k z
unfolding target_of planned_for
of_order order k z judging = goes_with order (judgement order) (z_with (judgement order) order) (λ e. e) refl
of_order order k z (forwards x) = asked_with order x (z_with (question_number order x) order) refl
of_order order k z (backwards y a p) = back_with order y a p
of_order order k z (planning blanks) = goes_with order (judgement order) (z_with (judgement order) order) (λ e. e) refl
of_order order k z (reading text g i w k' answer z' r) =
    record { with_3 = λ e. read_shows text k' answer z' r e g order i w; else_0 = no_z text k' answer z' r }

pub ours_explains : Explains ours
ours_explains = record { of_order = of_order; of_text = no_z }

-- ---- no other address shows it

one_shown : (order : Order) (y z : ℕ) → Shows order y → Shows order z → y ≡ z
one_shown order y z s t =
    ⊎_elim (λ (h : y ≤ z). ⊎_elim (λ q. q) (λ (l : y < z). absurd (t.smallest y s.nonzero l s.with_0.shared)) (eq-or-lt_of_le h))
    (λ (l : z < y). absurd (s.smallest z t.nonzero l t.with_0.shared)) (le_or_lt y z)

-- and nothing else goes with the number
pub one_with : (order : Order) (k y z : ℕ) → GoesWith order k y → GoesWith order k z → y ≡ z
one_with order k y z a b =
    ⊎_elim (λ (e : k ≡ 3). one_shown order y z (a.with_3 e) (b.with_3 e)) (λ (f : k ≡ 3 → ⊥). a.else_0 f ∙ sym (b.else_0 f)) (same_or k 3)

pub sites_agree : SitesAgree
sites_agree M M' h h' order k z z' a b = one_with order k z z' (h.of_order order k z a) (h'.of_order order k z' b)
