-- Why has every matrix and complement a number, and every number a matrix and complement? Assumes nothing.
use mathlib.Core.Path.{◌∙◌, ◌≡◌, ap, ap₂, refl, subst, sym}
use mathlib.Core.List.{List, [], ◌∷◌}
use Prim.Native.Nat.{◌*◌, ◌+◌, ◌/◌, ◌<◌, ◌^◌, suc, zero, ℕ}
use native.Mathlib.Nat.{le_of_suc-le-suc, mod-lt, not-suc-le-zero, pow-suc, pow-zero}
use native.Mathlib.Omega.{arith}
use lib.Arith.{digits_div, digits_lt, digits_mod}
use lib.ListN.{get_or, length}
use lib.Pow.{pow_pos}
use Rattle.lists.specs.Targets.{complement_in, digits_of, rows_in}
use Rattle.lists.specs.Given.{OfBits}

-- ---- digits
pub digits_length : (s k v : ℕ) → length (digits_of s k v) ≡ k
unfolding digits_of
digits_length s zero v = refl
digits_length s (suc k) v = ap suc (digits_length s k (v / s))

pub digits_below : (s k v : ℕ) → 0 < s → (i : ℕ) → i < k → get_or (digits_of s k v) i 0 < s
unfolding digits_of
digits_below s zero v p i h = absurd (not-suc-le-zero h)
digits_below s (suc k) v p zero h = mod-lt v p
digits_below s (suc k) v p (suc i) h = digits_below s k (v / s) p i (le_of_suc-le-suc h)

-- a list of k numbers below s is the digits of a number below s ^ k
digits_of_lem : (s : ℕ) (l : List ℕ) → ((i : ℕ) → i < length l → get_or l i 0 < s) → (v : ℕ) × (v < s ^ length l) × (digits_of s (length l) v ≡ l)
unfolding digits_of
digits_of_lem s [] h = (0, rw (pow-zero s) (pow_pos 0), refl)
digits_of_lem s (x ∷ l) h =
    let rest = digits_of_lem s l (λ i q. h (suc i) (omega arith)) in
    let low : x < s = h 0 (omega arith) in (
      rest.0 * s + x,
      rw (pow-suc s (length l)) (digits_lt rest.1 low),
      ap₂ (λ (y : ℕ) (r : List ℕ). y ∷ r) (digits_mod rest.0 low) (ap (digits_of s (length l)) (digits_div rest.0 low) ∙ rest.2),
    )

-- ---- numbers of matrices and complements
pub number_fits : (n v : ℕ) → OfBits n (rows_in n v) (complement_in n v)
number_fits n v = record {
  long = digits_length (2 ^ n) n (v / 2 ^ n);
  below = digits_below (2 ^ n) n (v / 2 ^ n) (pow_pos n);
  complement = mod-lt v (pow_pos n);
}

pub numbered : (n : ℕ) (rows : List ℕ) (c : ℕ) → OfBits n rows c
    → (v : ℕ) × (v < (2 ^ n) ^ suc n) × (rows_in n v ≡ rows) × (complement_in n v ≡ c)
numbered n rows c f =
    let s = 2 ^ n in
    let all = digits_of_lem s rows (λ i h. f.below i (omega (arith, f.long))) in (
      all.0 * s + c,
      rw (pow-suc s n) (digits_lt (subst (λ (k : ℕ). all.0 < s ^ k) f.long all.1) f.complement),
      ap (digits_of s n) (digits_div all.0 f.complement) ∙ ap (λ (k : ℕ). digits_of s k all.0) (sym f.long) ∙ all.2,
      digits_mod all.0 f.complement,
    )
