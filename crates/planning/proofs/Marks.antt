-- Which sums of marked columns are there, and how many ways? Assumes nothing.
use mathlib.Core.Path.{◌∙◌, ◌≡◌, ap, ap₂, refl, subst, sym}
use mathlib.Core.Bool.{Bool, ◌&&◌, and-false, false, not, true, true≢false}
use mathlib.Core.Logic.{⊎_elim}
use mathlib.Core.List.{List}
use Prim.Native.Nat.{◌<◌, ◌^◌, ◌≤◌, suc, zero, ℕ}
use native.Mathlib.Nat.{eq-zero-or-pos, le_refl, le-suc, le_trans, lt_of_lt_of_le}
use native.Mathlib.Omega.{arith}
use lib.Arith.{lt-one}
use lib.Pow.{pow-lt, pow_mono, pow_pos}
use lib.Dec.{eqb}
use lib.ListN.{get_or}
use lib.Bits.{bit_xor, xor_comm, xor_lt, xor_self}
use borrow.Author.Tests.{eqb-false, not-true}
use Rattle.algebra.proofs.Digits.{bit_above, bit-lt, bit-xor, top_bit, top_digit, under_bit, xor_assoc, xor-eq, xor4}
use Rattle.algebra.proofs.Kernel.{comb_top, marked_elim, unmarked_elim}
use Rattle.algebra.proofs.Linear.{comb-xor, comb-zero}
use Rattle.algebra.proofs.Search.{below_suc, by_test, le_or_lt, none_elim, none_intro}
use Rattle.algebra.specs.Matrix.{marked}
use Rattle.algebra.specs.Search.{any_below}
use Rattle.algebra.specs.Vector.{bit, comb}
use Rattle.planning.specs.Columns.{only_marked}

-- s picks none of the first k columns that fail p
abbrev pub Only : (ℕ → Bool) → ℕ → ℕ → Type 0
Only p k s = (i : ℕ) → i < k → p i ≡ false → bit s i ≡ 0

pub only_xor : (p : ℕ → Bool) (k x y : ℕ) → Only p k x → Only p k y → Only p k (bit_xor x y)
only_xor p k x y hx hy i l e = bit-xor x y i ∙ ap₂ bit_xor (hx i l e) (hy i l e)

only_fewer : (p : ℕ → Bool) (j k x : ℕ) → j ≤ k → Only p k x → Only p j x
only_fewer p j k x h f i l e = f i (le_trans l h) e

pub only_more : (p : ℕ → Bool) (j k x : ℕ) → x < 2 ^ j → Only p j x → Only p k x
only_more p j k x h f i l e = ⊎_elim (λ (q : j ≤ i). bit_above x j i h q) (λ (q : i < j). f i q e) (le_or_lt j i)

module _ (vs : List ℕ) (p : ℕ → Bool) (R : ℕ → Type 0) (r0 : R 0) (rx : (x y : ℕ) → R x → R y → R (bit_xor x y)) (k : ℕ)
    (off : (j : ℕ) → j < k → p j ≡ false → (s : ℕ) × (s < 2 ^ j) × R (bit_xor (comb vs s) (get_or vs j 0)))
    (on : (j s : ℕ) → j < k → p j ≡ true → s < 2 ^ j → R (bit_xor (comb vs s) (get_or vs j 0)) → ⊥) where
  pub indep : (j z : ℕ) → j ≤ k → z < 2 ^ j → Only p j z → R (comb vs z) → z ≡ 0
  indep zero z hj h o r = lt-one h
  indep (suc j) z hj h o r =
      ⊎_elim (λ (l : z < 2 ^ j). indep j z (omega arith) l (only_fewer p j (suc j) z (le-suc j) o) r)
      (λ (t : (s : ℕ) × (s < 2 ^ j) × (z ≡ bit_xor (2 ^ j) s)).
      absurd (by_test (p j)
      (λ e. on j t.0 hj e t.1 (subst R (ap (comb vs) t.2 ∙ comb_top vs j t.0 ∙ xor_comm (get_or vs j 0) (comb vs t.0)) r))
      (λ e. let q : ◌≡◌ {A = ℕ} 0 1 = sym (o j (le_refl (suc j)) e) ∙ ap (λ (x : ℕ). bit x j) t.2 ∙ top_bit j t.0 t.1 in omega arith)))
      (top_digit j z h)

  pub spans : (j s : ℕ) → j ≤ k → s < 2 ^ j → (z : ℕ) × (z < 2 ^ j) × Only p j z × R (bit_xor (comb vs z) (comb vs s))
  spans zero s hj h = (0, pow_pos 0, (λ i l e. absurd (omega arith)), rw (lt-one h, xor_self (comb vs 0)) r0)
  spans (suc j) s hj h =
      ⊎_elim
      (λ (l : s < 2 ^ j).
      let t = spans j s (omega arith) l in
      (t.0, lt_of_lt_of_le t.1 (pow_mono (le-suc j)), only_more p j (suc j) t.0 t.1 t.2, t.3))
      (λ (t : (u : ℕ) × (u < 2 ^ j) × (s ≡ bit_xor (2 ^ j) u)). go (λ s l. spans j s (omega arith) l) t (p j) refl)
      (top_digit j s h)
    where
      go : ((s : ℕ) → s < 2 ^ j → (z : ℕ) × (z < 2 ^ j) × Only p j z × R (bit_xor (comb vs z) (comb vs s)))
          → (u : ℕ) × (u < 2 ^ j) × (s ≡ bit_xor (2 ^ j) u) → (b : Bool) → p j ≡ b
          → (z : ℕ) × (z < 2 ^ suc j) × Only p (suc j) z × R (bit_xor (comb vs z) (comb vs s))
      go ih t true e =
          let w = ih t.0 t.1 in (
            bit_xor (2 ^ j) w.0,
            xor_lt (suc j) (2 ^ j) w.0 (pow-lt (le_refl (suc j))) (lt_of_lt_of_le w.1 (pow_mono (le-suc j))),
            below_suc (λ (i : ℕ). p i ≡ false → bit (bit_xor (2 ^ j) w.0) i ≡ 0) j (λ i l q. under_bit j w.0 i l ∙ w.2 i l q)
                (λ q. absurd (true≢false (sym e ∙ q))),
            subst R (sym (ap₂ bit_xor (comb_top vs j w.0) (ap (comb vs) t.2 ∙ comb_top vs j t.0)
                ∙ xor4 (get_or vs j 0) (comb vs w.0) (get_or vs j 0) (comb vs t.0)
                ∙ ap (λ (x : ℕ). bit_xor x (bit_xor (comb vs w.0) (comb vs t.0))) (xor_self (get_or vs j 0)))) w.3,
          )
      go ih t false e =
          let f = off j hj e in
          let w = ih (bit_xor f.0 t.0) (xor_lt j f.0 t.0 f.1 t.1) in (
            w.0,
            lt_of_lt_of_le w.1 (pow_mono (le-suc j)),
            only_more p j (suc j) w.0 w.1 w.2,
            subst R
                (ap (λ (x : ℕ). bit_xor (bit_xor (comb vs w.0) x) (bit_xor (comb vs f.0) (get_or vs j 0))) (comb-xor vs f.0 t.0)
                ∙ xor_assoc (comb vs w.0) (bit_xor (comb vs f.0) (comb vs t.0)) (bit_xor (comb vs f.0) (get_or vs j 0))
                ∙ ap (bit_xor (comb vs w.0))
                (xor4 (comb vs f.0) (comb vs t.0) (comb vs f.0) (get_or vs j 0)
                ∙ ap (λ (x : ℕ). bit_xor x (bit_xor (comb vs t.0) (get_or vs j 0))) (xor_self (comb vs f.0))
                ∙ xor_comm (comb vs t.0) (get_or vs j 0) ∙ sym (ap (comb vs) t.2 ∙ comb_top vs j t.0)))
                (rx (bit_xor (comb vs w.0) (comb vs (bit_xor f.0 t.0))) (bit_xor (comb vs f.0) (get_or vs j 0)) w.3 f.2),
          )

-- ---- the marked columns of a part
module _ (part : List ℕ) (k : ℕ) where
  m_off : (j : ℕ) → j < k → marked part j ≡ false → (s : ℕ) × (s < 2 ^ j) × (bit_xor (comb part s) (get_or part j 0) ≡ 0)
  m_off j h e = let t = unmarked_elim part j e in (t.0, t.1, ap (λ (x : ℕ). bit_xor x (get_or part j 0)) t.2 ∙ xor_self (get_or part j 0))

  m_on : (j s : ℕ) → j < k → marked part j ≡ true → s < 2 ^ j → bit_xor (comb part s) (get_or part j 0) ≡ 0 → ⊥
  m_on j s h e l q = marked_elim part j s e l (xor-eq (comb part s) (get_or part j 0) q)

  pub marks_indep : (z : ℕ) → z < 2 ^ k → Only (marked part) k z → comb part z ≡ 0 → z ≡ 0
  marks_indep z h o e = indep part (marked part) (λ x. x ≡ 0) refl (λ x y a b. ap₂ bit_xor a b) k m_off m_on k z (le_refl k) h o e

  pub marks_span : (j s : ℕ) → j ≤ k → s < 2 ^ j → (z : ℕ) × (z < 2 ^ j) × Only (marked part) j z × (comb part z ≡ comb part s)
  marks_span j s l h =
      let t = spans part (marked part) (λ x. x ≡ 0) refl (λ x y a b. ap₂ bit_xor a b) k m_off m_on j s l h in
      (t.0, t.1, t.2, xor-eq (comb part t.0) (comb part s) t.3)

  -- two sums of marked columns that are equal are the same sum
  pub marks_one : (x y : ℕ) → x < 2 ^ k → y < 2 ^ k → Only (marked part) k x → Only (marked part) k y → comb part x ≡ comb part y → x ≡ y
  marks_one x y hx hy ox oy e =
      xor-eq x y (marks_indep (bit_xor x y) (xor_lt k x y hx hy) (only_xor (marked part) k x y ox oy)
      (comb-xor part x y ∙ ap (λ (u : ℕ). bit_xor u (comb part y)) e ∙ xor_self (comb part y)))

  -- a marked column is not zero
  pub marked-nonzero : (j : ℕ) → marked part j ≡ true → get_or part j 0 ≡ 0 → ⊥
  marked-nonzero j e q = marked_elim part j 0 e (pow_pos j) (comb-zero part ∙ sym q)

-- ---- the test of the definition
zero_of : (d : ℕ) → d < 2 → eqb d 1 ≡ false → d ≡ 0
zero_of d l q = let r = eqb-false d 1 q in ⊎_elim (λ (z : d ≡ 0). z) (λ (z : 0 < d). absurd (r (omega arith))) (eq-zero-or-pos d)

and_left : (a b : Bool) → b ≡ true → a && b ≡ false → a ≡ false
and_left true b e q = absurd (true≢false (sym e ∙ q))
and_left false b e q = refl

pub only_elim : (f : List ℕ) (m s : ℕ) → only_marked f m s ≡ true → Only (marked f) m s
unfolding only_marked
only_elim f m s o i h u =
    let p : ℕ → Bool = λ i. eqb (bit s i) 1 && not (marked f i) in
    let q = none_elim p m i (not-true (any_below p m) o) h in
    zero_of (bit s i) (bit-lt s i) (and_left (eqb (bit s i) 1) (not (marked f i)) (ap not u) q)

pub only_intro : (f : List ℕ) (m s : ℕ) → Only (marked f) m s → only_marked f m s ≡ true
unfolding only_marked
only_intro f m s o =
    ap not (none_intro (λ i. eqb (bit s i) 1 && not (marked f i)) m (λ i h.
    by_test (marked f i) (λ e. rw e (and-false (eqb (bit s i) 1))) (λ e. rw (o i h e) refl)))
