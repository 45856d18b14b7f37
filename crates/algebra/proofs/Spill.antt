-- When does an elimination show that a pass spills? Assumes nothing.
use mathlib.Core.Path.{◌∙◌, ◌≡◌, ap, ap₂, refl, sym}
use mathlib.Core.Bool.{Bool, ◌&&◌, false, not, true}
use mathlib.Core.Logic.{⊎_elim}
use mathlib.Core.List.{List}
use Prim.Native.Nat.{◌-◌, ◌<◌, ◌^◌, suc, ℕ}
use native.Mathlib.Nat.{lt_trans}
use lib.Arith.{lt-one}
use lib.Pow.{pow-lt}
use lib.Dec.{eqb}
use lib.ListN.{drop, get_or, take}
use lib.Bits.{bit_xor, xor_lt, xor_self, xor_zero_r}
use borrow.Author.Tests.{eq-eqb, eqb-true, ne_eqb}
use Rattle.algebra.proofs.Digits.{top_digit, xor4}
use Rattle.algebra.proofs.Kernel.{marked_elim, top_sum}
use Rattle.algebra.proofs.Linear.{apply_columns, apply_xor, apply_zero}
use Rattle.algebra.proofs.Search.{none_intro, any_intro}
use Rattle.algebra.specs.Matrix.{applied, columns, marked, spills}
use Rattle.algebra.specs.Vector.{comb}

-- mid sends z to zero, low does not
pub spill_witness : (b m : ℕ) (rows : List ℕ) (z : ℕ) → z < 2 ^ m
    → applied (take (m - b) (drop b rows)) z ≡ 0 → (applied (drop m rows) z ≡ 0 → ⊥) → spills b m rows ≡ true
unfolding spills
spill_witness b m rows z h e f =
    any_intro (λ z. eqb (applied (take (m - b) (drop b rows)) z) 0 && not (eqb (applied (drop m rows) z) 0)) (2 ^ m) z h
    (ap₂ (λ (x y : Bool). x && not y) (eq-eqb (applied (take (m - b) (drop b rows)) z) 0 e) (ne_eqb (applied (drop m rows) z) 0 f))

-- low sends to zero all that mid does, below 2 ^ j
unfoldable pub Through : List ℕ → List ℕ → ℕ → Type 0
Through mid low j = (z : ℕ) → z < 2 ^ j → applied mid z ≡ 0 → applied low z ≡ 0

module _ (m : ℕ) (mid low : List ℕ) where
  -- a vector with top digit j that mid sends to zero makes column j a sum of those to its left
  mid_sum : (j s : ℕ) → j < m → s < 2 ^ j → applied mid (bit_xor (2 ^ j) s) ≡ 0 → comb (columns m mid) s ≡ get_or (columns m mid) j 0
  mid_sum j s l hs e =
      top_sum (columns m mid) j s (apply_columns m mid (bit_xor (2 ^ j) s) (xor_lt m (2 ^ j) s (pow-lt l) (lt_trans hs (pow-lt l))) ∙ e)

  pub through_zero : Through mid low 0
  unfolding Through
  through_zero z h e = ap (applied low) (lt-one h) ∙ apply_zero low

  -- a marked column brings nothing new
  pub through_marked : (j : ℕ) → j < m → marked (columns m mid) j ≡ true → Through mid low j → Through mid low (suc j)
  unfolding Through
  through_marked j l k ih z h e =
      ⊎_elim (λ (q : z < 2 ^ j). ih z q e)
      (λ (q : (s : ℕ) × (s < 2 ^ j) × (z ≡ bit_xor (2 ^ j) s)).
      absurd (marked_elim (columns m mid) j q.0 k q.1 (mid_sum j q.0 l q.1 (ap (applied mid) (sym q.2) ∙ e))))
      (top_digit j z h)

  -- an unmarked one brings its own vector, 2 ^ j over t: with what lies below, it is enough that low sends that one to zero
  pub through_unmarked : (j t : ℕ) → t < 2 ^ j → applied mid (bit_xor (2 ^ j) t) ≡ 0 → applied low (bit_xor (2 ^ j) t) ≡ 0
      → Through mid low j → Through mid low (suc j)
  unfolding Through
  through_unmarked j t ht a b ih z h e =
      let v = bit_xor (2 ^ j) t in
      ⊎_elim (λ (q : z < 2 ^ j). ih z q e)
      (λ (q : (s : ℕ) × (s < 2 ^ j) × (z ≡ bit_xor (2 ^ j) s)).
      let s = q.0 in
      let split : z ≡ bit_xor v (bit_xor s t) =
      q.2 ∙ sym (xor4 (2 ^ j) t s t ∙ ap (bit_xor (bit_xor (2 ^ j) s)) (xor_self t) ∙ xor_zero_r (bit_xor (2 ^ j) s)) in
      let small : applied mid (bit_xor s t) ≡ 0 = sym (ap₂ bit_xor a refl) ∙ sym (apply_xor mid v (bit_xor s t)) ∙ ap (applied mid) (sym split) ∙ e in
      ap (applied low) split ∙ apply_xor low v (bit_xor s t) ∙ ap₂ bit_xor b (ih (bit_xor s t) (xor_lt j s t q.1 ht) small))
      (top_digit j z h)

pub through→no_spill : (b m : ℕ) (rows : List ℕ) → Through (take (m - b) (drop b rows)) (drop m rows) m → spills b m rows ≡ false
unfolding spills Through
through→no_spill b m rows f = none_intro (λ z. eqb (applied mid z) 0 && not (eqb (applied low z) 0)) (2 ^ m) (λ z h. go z h (eqb (applied mid z) 0) refl)
  where
    mid : List ℕ
    mid = take (m - b) (drop b rows)

    low : List ℕ
    low = drop m rows

    go : (z : ℕ) → z < 2 ^ m → (x : Bool) → eqb (applied mid z) 0 ≡ x → x && not (eqb (applied low z) 0) ≡ false
    go z h true e = ap not (eq-eqb (applied low z) 0 (f z h (eqb-true (applied mid z) 0 e)))
    go z h false e = refl
