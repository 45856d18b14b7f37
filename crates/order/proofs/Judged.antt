-- Which judgement follows from which checks? Assumes nothing.
use mathlib.Core.Path.{◌≡◌, refl, sym, ap, ◌∙◌}
use mathlib.Core.Bool.{Bool, true, false, cond, not, ◌&&◌, ◌||◌}
use Prim.Native.Nat.{ℕ, zero, suc, ◌≤◌, ◌<◌}
use native.Mathlib.Omega.{arith}
use borrow.Author.Tests.{eq-eqb, leb-true, lt-leb, ne_eqb, not-false}
use lib.Dec.{eqb, leb}
use lib.ListN.{get_or}
use Rattle.bank.specs.Limits.{ROWS}
use Rattle.bank.specs.Geometry.{in_limits, records}
use Rattle.bank.specs.Checks.{refuse, or_later}
use Rattle.algebra.specs.Vector.{WORD}
use Rattle.algebra.specs.Search.{any_below}
use Rattle.algebra.specs.Matrix.{kernel, singular}
use Rattle.algebra.proofs.Search.{by_test, none_intro}
use Rattle.algebra.proofs.Singular.{kernel_none}
use Rattle.order.specs.Order.{Words, matrix_of, stray_row, stray_complement, spare_row, bad_form, form_number, judgement, z_with}
use Rattle.order.specs.declared.Order.{Order}

-- ---- the form, as code tests it: size is N, t what the search for stray rows says, and s what that for places says
module _ (order : Order) (size : ℕ) (is : size ≡ records order.geometry) where
  form_tested : (t s : Bool) → t ≡ any_below (λ i. leb size (get_or order.rows i 0)) order.geometry.n
      → s ≡ any_below (λ i. leb order.geometry.n i && not (eqb (get_or order.rows i 0) 0)) ROWS
      → bad_form order ≡ (t || leb size order.complement) || s
  unfolding bad_form stray_row stray_complement spare_row
  form_tested t s rows places = rw (rows, places, is)

-- ---- checks one after the other: a number that refuses is not passed by, and 0 says that none applies
pub or_later_stops : (k later : ℕ) → (k ≡ 0 → ⊥) → or_later k later ≡ k
or_later_stops zero later f = absurd (f refl)
or_later_stops (suc k) later f = refl

pub or_later_refuse : (t : Bool) (k later : ℕ) → or_later (refuse t (suc k) 0) later ≡ refuse t (suc k) later
or_later_refuse true k later = refl
or_later_refuse false k later = refl

pub or_later_none : (k later : ℕ) → or_later k later ≡ 0 → (k ≡ 0) × (later ≡ 0)
or_later_none zero later e = (refl, e)
or_later_none (suc k) later e = absurd (omega (arith, e))

pub refuse_none : (t : Bool) (k later : ℕ) → refuse t (suc k) later ≡ 0 → (t ≡ false) × (later ≡ 0)
refuse_none true k later e = absurd (omega (arith, e))
refuse_none false k later e = (refl, e)

-- ---- the form's number, and the judgement after it
module _ (order : Order) where
  pub form_outside : in_limits order.geometry ≡ false → form_number order ≡ 1
  unfolding form_number
  form_outside e = rw e

  pub form_inside : in_limits order.geometry ≡ true → form_number order ≡ refuse (bad_form order) 2 0
  unfolding form_number
  form_inside e = rw e

  pub form_none : form_number order ≡ 0 → (in_limits order.geometry ≡ true) × (bad_form order ≡ false)
  unfolding form_number
  form_none e =
      let o = refuse_none (not (in_limits order.geometry)) 0 (refuse (bad_form order) 2 0) e in
      (not-false (in_limits order.geometry) o.0, (refuse_none (bad_form order) 1 0 o.1).0)

  pub judgement_form : (form_number order ≡ 0 → ⊥) → judgement order ≡ form_number order
  unfolding judgement
  judgement_form f = or_later_stops (form_number order) (refuse (singular order.geometry.n (matrix_of order)) 3 0) f

  pub judgement_formed : form_number order ≡ 0 → judgement order ≡ refuse (singular order.geometry.n (matrix_of order)) 3 0
  unfolding judgement
  judgement_formed e = ap (λ (k : ℕ). or_later k (refuse (singular order.geometry.n (matrix_of order)) 3 0)) e

  pub outside_limits : in_limits order.geometry ≡ false → judgement order ≡ 1
  unfolding judgement
  outside_limits e = rw (form_outside e)

  module _ (inside : in_limits order.geometry ≡ true) where
    pub formless : bad_form order ≡ true → judgement order ≡ 2
    unfolding judgement
    formless e = rw (form_inside inside, e)

    in_form : bad_form order ≡ false → judgement order ≡ refuse (singular order.geometry.n (matrix_of order)) 3 0
    in_form f = judgement_formed (form_inside inside ∙ ap (λ (t : Bool). refuse t 2 0) f)

    pub singular_three : bad_form order ≡ false → singular order.geometry.n (matrix_of order) ≡ true → judgement order ≡ 3
    singular_three f e = in_form f ∙ ap (λ (t : Bool). refuse t 3 0) e

    pub regular_none : bad_form order ≡ false → singular order.geometry.n (matrix_of order) ≡ false → judgement order ≡ 0
    regular_none f e = in_form f ∙ ap (λ (t : Bool). refuse t 3 0) e

-- ---- z
module _ (order : Order) where
  pub z_three : {k : ℕ} → k ≡ 3 → z_with k order ≡ kernel order.geometry.n (matrix_of order)
  unfolding z_with
  z_three e = rw e

  pub z_other : {k : ℕ} → (k ≡ 3 → ⊥) → z_with k order ≡ 0
  unfolding z_with
  z_other {k} f = ap (λ (t : Bool). cond t (kernel order.geometry.n (matrix_of order)) 0) (ne_eqb k 3 f)

  -- the form's number isn't 3, and has no z
  pub form_other : form_number order ≡ 3 → ⊥
  unfolding form_number
  form_other = go (not (in_limits order.geometry)) (bad_form order)
    where
      go : (s t : Bool) → refuse s 1 (refuse t 2 0) ≡ 3 → ⊥
      go true t e = omega (arith, e)
      go false true e = omega (arith, e)
      go false false e = omega (arith, e)

  pub form_z : z_with (form_number order) order ≡ 0
  form_z = z_other form_other

  -- 3 is given for a singular matrix alone
  pub three_singular : judgement order ≡ 3 → singular order.geometry.n (matrix_of order) ≡ true
  unfolding judgement
  three_singular e = go (form_number order) (singular order.geometry.n (matrix_of order)) refl e
    where
      go : (k : ℕ) (s : Bool) → form_number order ≡ k → or_later k (refuse s 3 0) ≡ 3 → s ≡ true
      go zero true f e = refl
      go zero false f e = absurd (omega (arith, e))
      go (suc k) s f e = absurd (form_other (f ∙ e))

  -- in good form, the least vector that A sends to zero is z: where there is none, no later check gives 3
  pub formed_z : (later : ℕ) → (later ≡ 3 → ⊥)
      → z_with (refuse (singular order.geometry.n (matrix_of order)) 3 later) order ≡ kernel order.geometry.n (matrix_of order)
  formed_z later f =
      by_test (singular order.geometry.n (matrix_of order)) (λ s. z_three (ap (λ (t : Bool). refuse t 3 later) s))
      (λ s. z_other (λ e. f (sym (ap (λ (t : Bool). refuse t 3 later) s) ∙ e)) ∙ sym (kernel_none order.geometry.n (matrix_of order) s))

-- ---- rows and a complement below N, and zeros at the places beyond the rows, are good form
module _ (order : Order) (below : (i : ℕ) → i < order.geometry.n → get_or order.rows i 0 < records order.geometry)
    (complement : order.complement < records order.geometry)
    (spare : (i : ℕ) → order.geometry.n ≤ i → i < ROWS → get_or order.rows i 0 ≡ 0) where
  at_zero : (i : ℕ) (t : Bool) → leb order.geometry.n i ≡ t → i < ROWS → t && not (eqb (get_or order.rows i 0) 0) ≡ false
  at_zero i true e h = rw (eq-eqb (get_or order.rows i 0) 0 (spare i (leb-true order.geometry.n i e) h))
  at_zero i false e h = refl

  pub good_form : bad_form order ≡ false
  good_form =
      let size = records order.geometry in
      form_tested order size refl false false
      (sym (none_intro (λ i. leb size (get_or order.rows i 0)) order.geometry.n (λ k h. lt-leb size (get_or order.rows k 0) (below k h))))
      (sym (none_intro (λ i. leb order.geometry.n i && not (eqb (get_or order.rows i 0) 0)) ROWS (λ k h. at_zero k (leb order.geometry.n k) refl h)))
      ∙ ap (λ (b : Bool). b || false) (lt-leb size order.complement complement)

-- words are below N where n is WORD, and no place is beyond the rows
pub word_form : (order : Order) → Words order → order.geometry.n ≡ WORD → bad_form order ≡ false
word_form order w e = good_form order (λ i h. rw e (w.row i)) (rw e w.complement) (λ i h l. absurd (omega arith))
