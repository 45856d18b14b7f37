-- Which bits has a set of columns, and what is left of it without the lowest? Assumes nothing.
use mathlib.Core.Path.{◌∙◌, ◌≡◌, ap, ap₂, refl, sym}
use mathlib.Core.Bool.{Bool, ◌&&◌, false, true}
use mathlib.Core.List.{[], ◌∷◌}
use Prim.Native.Nat.{◌%◌, ◌+◌, ◌-◌, ◌/◌, ◌<◌, ◌^◌, ◌≤◌, suc, zero, ℕ}
use native.Mathlib.Nat.{le_refl, le-suc, lt_of_lt_of_le, not-suc-le-zero}
use native.Mathlib.Numerals.{add-one}
use native.Mathlib.Omega.{arith}
use lib.Bits.{bit_xor, xor_lt, xor_zero_r}
use lib.Count.{count_trailing_zeros, under}
use lib.Dec.{eqb, ltb}
use lib.Pow.{pow-lt, pow_mono, pow_pos}
use borrow.Author.Tests.{le-leb, le-ltb, lt-leb, lt-ltb}
use Rattle.algebra.proofs.Built.{lowest_on}
use Rattle.algebra.proofs.Digits.{bit_above, bit_cases, bit_here, bit-lt, bit_place, bit-pow, unless_no}
use Rattle.algebra.proofs.Digits.{bit-pow_other, bit-suc, bit_unless, bit-xor, bit-zero, unless_lt, unless_zero_lem}
use Rattle.algebra.proofs.Listed.{which_first, which_none}
use Rattle.algebra.proofs.Loops.{unless_not}
use Rattle.algebra.proofs.Search.{below_suc}
use Rattle.algebra.specs.Matrix.{one_if}
use Rattle.algebra.specs.Vector.{WORD, bit, unless_zero}
use Rattle.planner.specs.Marks.{bare, lowest_of, mask_of, places_of}

-- ---- the set of those that pass a test
pub mask_lt : (p : ℕ → Bool) (k : ℕ) → mask_of p k < 2 ^ k
unfolding mask_of
mask_lt p zero = pow_pos 0
mask_lt p (suc k) =
    xor_lt (suc k) (mask_of p k) (unless_zero (one_if (p k)) (2 ^ k)) (lt_of_lt_of_le (mask_lt p k) (pow_mono (le-suc k)))
    (unless_lt (suc k) (one_if (p k)) (2 ^ k) (pow-lt (le_refl (suc k))))

unless_one_if : (b : Bool) → unless_zero (one_if b) 1 ≡ one_if b
unfolding unless_zero
unless_one_if true = refl
unless_one_if false = refl

pub mask_bit : (p : ℕ → Bool) (k j : ℕ) → j < k → bit (mask_of p k) j ≡ one_if (p j)
unfolding mask_of
mask_bit p zero j h = absurd (not-suc-le-zero h)
mask_bit p (suc k) j h = below_suc (λ (j : ℕ). bit (bit_xor (mask_of p k) (unless_zero (one_if (p k)) (2 ^ k))) j ≡ one_if (p j)) k (low (mask_bit p k)) top j h
  where
    at : (j : ℕ) → bit (bit_xor (mask_of p k) (unless_zero (one_if (p k)) (2 ^ k))) j ≡ bit_xor (bit (mask_of p k) j) (unless_zero (one_if (p k)) (bit (2 ^ k) j))
    at j = bit-xor (mask_of p k) (unless_zero (one_if (p k)) (2 ^ k)) j ∙ ap (bit_xor (bit (mask_of p k) j)) (bit_unless (one_if (p k)) (2 ^ k) j)

    low : ((j : ℕ) → j < k → bit (mask_of p k) j ≡ one_if (p j)) → (j : ℕ) → j < k → bit (bit_xor (mask_of p k) (unless_zero (one_if (p k)) (2 ^ k))) j ≡ one_if (p j)
    low ih j l =
        at j ∙ ap₂ bit_xor (ih j l) (ap (unless_zero (one_if (p k))) (bit-pow_other k j (λ q. omega (arith, q))) ∙ unless_zero_lem (one_if (p k)))
        ∙ xor_zero_r (one_if (p j))

    top : bit (bit_xor (mask_of p k) (unless_zero (one_if (p k)) (2 ^ k))) k ≡ one_if (p k)
    top = at k ∙ ap₂ bit_xor (bit_above (mask_of p k) k k (mask_lt p k) (le_refl k)) (ap (unless_zero (one_if (p k))) (bit-pow k) ∙ unless_one_if (p k))

pub mask_next : (p : ℕ → Bool) (k d : ℕ) → unless_zero d (2 ^ k) ≡ unless_zero (one_if (p k)) (2 ^ k)
    → bit_xor (mask_of p k) (unless_zero d (2 ^ k)) ≡ mask_of p (k + 1)
unfolding mask_of
mask_next p k d e = ap (bit_xor (mask_of p k)) e ∙ ap (mask_of p) (sym (add-one k))

-- a test, read back
pub one_if_is : (b : Bool) → eqb (one_if b) 1 ≡ b
one_if_is true = refl
one_if_is false = refl

-- ---- the lowest
low_under : (d t i : ℕ) → i < under d t → (d ≡ 0) × (i < suc t)
low_under zero t i h = (refl, h)
low_under (suc d) t i h = absurd (not-suc-le-zero h)

below_lowest : (k n i : ℕ) → i < count_trailing_zeros k n → bit n i ≡ 0
unfolding count_trailing_zeros
below_lowest zero n i h = absurd (not-suc-le-zero h)
below_lowest (suc k) n zero h = bit_here n ∙ (low_under (n % 2) (count_trailing_zeros k (n / 2)) 0 h).0
below_lowest (suc k) n (suc i) h = bit-suc n i ∙ below_lowest k (n / 2) i (let q = (low_under (n % 2) (count_trailing_zeros k (n / 2)) (suc i) h).1 in omega arith)

pub places_none : (k : ℕ) → places_of k 0 ≡ []
unfolding places_of
places_none k = which_none (λ i. eqb (bit 0 i) 1) k 0 (λ i a b. ap (λ (d : ℕ). eqb d 1) (bit-zero i))

module _ (k set : ℕ) (some : 0 < set) (small : set < 2 ^ k) (fits : k ≤ WORD) where
  abbrev t : ℕ
  t = count_trailing_zeros WORD set

  on : bit set t ≡ 1
  on = lowest_on WORD set some (lt_of_lt_of_le small (pow_mono fits))

  pub lowest_place : t < k
  lowest_place = bit_place k set t small on

  pub places_first : places_of k set ≡ t ∷ places_of k (bit_xor set (2 ^ t))
  unfolding places_of
  places_first =
      which_first (λ i. eqb (bit set i) 1) (λ i. eqb (bit (bit_xor set (2 ^ t)) i) 1) t k 0 (omega arith) (omega (arith, lowest_place))
      (λ i l. ap (λ (d : ℕ). eqb d 1) (below_lowest WORD set i l)) (ap (λ (d : ℕ). eqb d 1) on)
      (ap (λ (d : ℕ). eqb d 1) (bit-xor set (2 ^ t) t ∙ ap₂ bit_xor on (bit-pow t)))
      (λ i f. ap (λ (d : ℕ). eqb d 1) (sym (bit-xor set (2 ^ t) i ∙ ap (bit_xor (bit set i)) (bit-pow_other t i f) ∙ xor_zero_r (bit set i))))

pub lowest_nil : (set : ℕ) → set ≡ 0 → 0 ≡ lowest_of set
unfolding lowest_of
lowest_nil set e = sym (unless_no set (2 ^ count_trailing_zeros WORD set) e)

pub lowest_one : (set : ℕ) → (set ≡ 0 → ⊥) → 2 ^ count_trailing_zeros WORD set ≡ lowest_of set
unfolding lowest_of
lowest_one set f = unless_not set (2 ^ count_trailing_zeros WORD set) f

-- ---- columns that are not in the set
pub bare_low : (set from to j : ℕ) → j < from → bare set from to j ≡ false
unfolding bare
bare_low set from to j h = ap (λ (b : Bool). b && (ltb j to && eqb (bit set (j - from)) 0)) (lt-leb from j h)

pub bare_in : (set from to j : ℕ) → from ≤ j → j < to → bare set from to j ≡ eqb (bit set (j - from)) 0
unfolding bare
bare_in set from to j h l = ap₂ (λ (b c : Bool). b && (c && eqb (bit set (j - from)) 0)) (le-leb from j h) (lt-ltb j to l)

pub bare_high : (set from to j : ℕ) → from ≤ j → to ≤ j → bare set from to j ≡ false
unfolding bare
bare_high set from to j h l = ap₂ (λ (b c : Bool). b && (c && eqb (bit set (j - from)) 0)) (le-leb from j h) (le-ltb j to l)

pub bare_one : (set from to j d : ℕ) → from ≤ j → j < to → d ≡ bit set (j - from) → bit_xor 1 d ≡ one_if (bare set from to j)
bare_one set from to j d h l e =
    ap (bit_xor 1) e ∙ bit_cases (λ (d : ℕ). bit_xor 1 d ≡ one_if (eqb d 0)) refl refl (bit set (j - from)) (bit-lt set (j - from))
    ∙ ap one_if (sym (bare_in set from to j h l))
