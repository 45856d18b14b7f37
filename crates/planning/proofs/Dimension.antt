-- How many vectors can be told apart in so many bits? Assumes nothing.
use mathlib.Core.Path.{◌∙◌, ◌≡◌, ap, ap₂, refl, subst, sym}
use mathlib.Core.Bool.{Bool, cond, false, true}
use mathlib.Core.List.{List, [], ◌∷◌, map}
use Prim.Native.Nat.{◌%◌, ◌*◌, ◌+◌, ◌/◌, ◌<◌, ◌^◌, ◌≤◌, suc, zero, ℕ}
use native.Mathlib.Nat.{add-suc, add-zero, mul-one, pow-suc, zero-add, zero-mul}
use native.Mathlib.Omega.{arith}
use lib.Arith.{digits_div, digits_lt, digits_mod, lt-one}
use lib.Pow.{pow-lt, pow_pos}
use lib.ListN.{length}
use lib.Bits.{bit_xor, xor_lt, xor_zero_r}
use Rattle.algebra.proofs.Digits.{bin_ext, bit_here, bit-pow, bit-pow_other, bit-suc, bit_unless, bit-xor, unless_no}
use Rattle.algebra.proofs.Digits.{bit-zero, digit, half_lt, unless_lt, unless_one, unless_zero_lem}
use Rattle.algebra.proofs.Linear.{comb_inj, digit_split}
use Rattle.algebra.proofs.Listed.{which_from, which_off, which_upto}
use Rattle.algebra.proofs.Lists.{All, off_above}
use Rattle.algebra.specs.Matrix.{marked, rank}
use Rattle.algebra.specs.Search.{which}
use Rattle.algebra.specs.Vector.{bit, comb, unless_zero}
use Rattle.planning.proofs.Marks.{Only, marks_one}
use Rattle.algebra.proofs.Pigeon.{span_le}
use Rattle.algebra.proofs.Rank.{rank-which}

-- ---- a number spread over listed places
abbrev pub powers : List ℕ → List ℕ
powers l = map (λ i. 2 ^ i) l

powers_off : (l : List ℕ) (z i : ℕ) → All (λ x. i ≡ x → ⊥) l → bit (comb (powers l) z) i ≡ 0
unfolding comb
powers_off [] z i h = bit-zero i
powers_off (x ∷ l) z i h =
    bit-xor (unless_zero (z % 2) (2 ^ x)) (comb (powers l) (z / 2)) i
    ∙ ap₂ bit_xor (bit_unless (z % 2) (2 ^ x) i ∙ ap (unless_zero (z % 2)) (bit-pow_other x i h.0) ∙ unless_zero_lem (z % 2)) (powers_off l (z / 2) i h.1)

powers_lt : (l : List ℕ) (m z : ℕ) → All (λ x. x < m) l → comb (powers l) z < 2 ^ m
unfolding comb
powers_lt [] m z h = pow_pos m
powers_lt (x ∷ l) m z h =
    xor_lt m (unless_zero (z % 2) (2 ^ x)) (comb (powers l) (z / 2)) (unless_lt m (z % 2) (2 ^ x) (pow-lt h.0)) (powers_lt l m (z / 2) h.1)

module _ (p : ℕ → Bool) where
  above : (k j : ℕ) → All (λ x. j ≡ x → ⊥) (which p k (suc j))
  above k j = off_above j (suc j) (which p k (suc j)) (omega arith) (which_from p k (suc j))

  spread_zero : (k j z : ℕ) → z < 2 ^ length (which p k j) → comb (powers (which p k j)) z ≡ 0 → z ≡ 0
  unfolding which comb
  spread_zero zero j z h e = lt-one h
  spread_zero (suc k) j z h e = go (p j) h e (spread_zero k (suc j))
    where
      go : (b : Bool) → z < 2 ^ length {A = ℕ} (cond b (j ∷ which p k (suc j)) (which p k (suc j)))
          → comb (powers (cond b (j ∷ which p k (suc j)) (which p k (suc j)))) z ≡ 0
          → ((z : ℕ) → z < 2 ^ length (which p k (suc j)) → comb (powers (which p k (suc j))) z ≡ 0 → z ≡ 0) → z ≡ 0
      go false h e ih = ih z h e
      go true h e ih =
          let d : z % 2 ≡ 0
          = sym (bit-xor (unless_zero (z % 2) (2 ^ j)) (comb (powers (which p k (suc j))) (z / 2)) j
          ∙ ap₂ bit_xor (bit_unless (z % 2) (2 ^ j) j ∙ ap (unless_zero (z % 2)) (bit-pow j) ∙ unless_one (z % 2) (digit z))
          (powers_off (which p k (suc j)) (z / 2) j (above k j)) ∙ xor_zero_r (z % 2))
          ∙ ap (λ (x : ℕ). bit x j) e ∙ bit-zero j in
          let r : comb (powers (which p k (suc j))) (z / 2) ≡ 0
          = sym (ap (λ (x : ℕ). bit_xor x (comb (powers (which p k (suc j))) (z / 2))) (ap (λ (x : ℕ). unless_zero x (2 ^ j)) d ∙ unless_no 0 (2 ^ j) refl)) ∙ e in
          bin_ext z 0 (ih (z / 2) (half_lt (length (which p k (suc j))) h) r) d

  spread_onto : (k j x : ℕ) → x < 2 ^ k → ((i : ℕ) → i < k → p (j + i) ≡ false → bit x i ≡ 0)
      → (z : ℕ) × (z < 2 ^ length (which p k j)) × (comb (powers (which p k j)) z ≡ x * 2 ^ j)
  unfolding which comb
  spread_onto zero j x h o = (0, pow_pos 0, sym (ap (λ (u : ℕ). u * 2 ^ j) (lt-one h) ∙ zero-mul (2 ^ j)))
  spread_onto (suc k) j x h o =
      go (p j) refl (spread_onto k (suc j) (x / 2) (half_lt k h)
      (λ i l e. sym (bit-suc x i) ∙ o (suc i) (omega arith) (ap p (add-suc j i ∙ omega arith) ∙ e)))
    where
      go : (b : Bool) → p j ≡ b → (z : ℕ) × (z < 2 ^ length (which p k (suc j))) × (comb (powers (which p k (suc j))) z ≡ x / 2 * 2 ^ suc j)
          → (z : ℕ) × (z < 2 ^ length {A = ℕ} (cond b (j ∷ which p k (suc j)) (which p k (suc j))))
          × (comb (powers (cond b (j ∷ which p k (suc j)) (which p k (suc j)))) z ≡ x * 2 ^ j)
      go false e t =
          let d : x % 2 ≡ 0 = sym (bit_here x) ∙ o 0 (omega arith) (ap p (add-zero j) ∙ e) in
          (t.0, t.1, t.2 ∙ sym (ap (λ (u : ℕ). bit_xor u (x / 2 * 2 ^ suc j)) (unless_no (x % 2) (2 ^ j) d)) ∙ digit_split x j)
      go true e t = (
        t.0 * 2 + x % 2,
        subst (λ (u : ℕ). t.0 * 2 + x % 2 < u) (sym (pow-suc 2 (length (which p k (suc j))))) (digits_lt t.1 (digit x)),
        ap₂ (λ (u v : ℕ). bit_xor (unless_zero u (2 ^ j)) (comb (powers (which p k (suc j))) v)) (digits_mod t.0 (digit x)) (digits_div t.0 (digit x))
            ∙ ap (bit_xor (unless_zero (x % 2) (2 ^ j))) t.2 ∙ digit_split x j,
      )

-- ---- numbers that pick only places below k that pass p, from numbers below 2 ^ (how many there are)
module _ (p : ℕ → Bool) (k : ℕ) where
  unfoldable pub spread : ℕ → ℕ
  spread z = comb (powers (which p k 0)) z

  pub spread_lt : (z : ℕ) → spread z < 2 ^ k
  unfolding spread
  spread_lt z = powers_lt (which p k 0) k z (which_upto p k 0 k (omega arith))

  pub spread_only : (z : ℕ) → Only p k (spread z)
  unfolding spread
  spread_only z i h e = powers_off (which p k 0) z i (which_off p k 0 i e)

  pub spread_inj : (x y : ℕ) → x < 2 ^ length (which p k 0) → y < 2 ^ length (which p k 0) → spread x ≡ spread y → x ≡ y
  unfolding spread
  spread_inj = comb_inj (powers (which p k 0)) (length (which p k 0)) (spread_zero p k 0)

  pub spread_all : (x : ℕ) → x < 2 ^ k → Only p k x → (z : ℕ) × (z < 2 ^ length (which p k 0)) × (spread z ≡ x)
  unfolding spread
  spread_all x h o =
      let t = spread_onto p k 0 x h (λ i l e. o i l (ap p (sym (zero-add i)) ∙ e)) in (t.0, t.1, t.2 ∙ mul-one x)

-- a part whose sums are all among what h makes of 2 ^ l numbers has a rank of at most l
pub rank_span : (part : List ℕ) (k l : ℕ) (h : ℕ → ℕ) → ((z : ℕ) → z < 2 ^ k → (s : ℕ) × (s < 2 ^ l) × (h s ≡ comb part z)) → rank part k ≤ l
rank_span part k l h w =
    let S = spread (marked part) k in
    let lt = spread_lt (marked part) k in
    let only = spread_only (marked part) k in
    rw rank-which (span_le (length (which (marked part) k 0)) l (λ z. comb part (S z)) h (λ z q. w (S z) (lt z))
    (λ x y hx hy e. spread_inj (marked part) k x y hx hy (marks_one part k (S x) (S y) (lt x) (lt y) (only x) (only y) e)))
