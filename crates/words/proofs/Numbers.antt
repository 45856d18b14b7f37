-- Which number does a word say, read digit by digit? Assumes nothing.
use Rattle.std.specs.Prelude.{Some, None}
use mathlib.Core.Path.{◌≡◌, refl, sym, ap, ◌∙◌}
use mathlib.Core.Logic.{⊎_elim}
use mathlib.Core.List.{List}
use Prim.Native.Nat.{ℕ, ◌+◌, ◌*◌, ◌^◌, ◌<◌, ◌≤◌}
use native.Mathlib.Nat.{eq-zero-or-pos, pow-le-pow_right, pow-suc}
use native.Mathlib.Numerals.{add-one}
use native.Mathlib.Omega.{arith}
use lib.ListN.{length, get_or, take}
use lib.Seq.{take_all, take-suc}
use Rattle.text.specs.Lines.{decimal}
use Rattle.text.proofs.Decimals.{Digit, decimal_one, decimal_next, decimal_short, decimal_some, decimal_digit, decimal_first, decimal_same}
use Rattle.words.specs.Says.{Says, OneSaid, number, none, DIGITS}

-- ---- no number
module _ (word : List ℕ) where
  pub none_empty : length word ≡ 0 → Says word None
  none_empty h = none (λ v l e. omega (arith, ap length e, decimal_some v (omega arith)))

  pub none_long : DIGITS < length word → Says word None
  none_long h = none (λ v l e. omega (arith, ap length e, decimal_short 9 v (omega arith) l))

  -- one digit may be 0, the first of several is none
  pub none_zero : 1 < length word → get_or word 0 0 ≡ 48 → Says word None
  none_zero h z =
      none (λ v l e. ⊎_elim
      (λ (p : v ≡ 0). omega (arith, ap length (e ∙ decimal_one v (omega arith))))
      (λ (p : 0 < v). omega (arith, ap (λ (w : List ℕ). get_or w 0 0) e, decimal_first v (omega arith) p))
      (eq-zero-or-pos v))

  pub none_byte : (i : ℕ) → i < length word → (Digit (get_or word i 0) → ⊥) → Says word None
  none_byte i h f = none (λ v l e. f (rw e (decimal_digit v i (omega arith) (rw e at h))))

-- ---- what a word says
pub says_number : (word : List ℕ) (v : ℕ) → Says word (Some v) → (v < 10 ^ DIGITS) × (word ≡ decimal v)
says_number word v (number w l e) = (l, e)

pub says_none : (word : List ℕ) → Says word None → (v : ℕ) → v < 10 ^ DIGITS → word ≡ decimal v → ⊥
says_none word (none f) = f

pub one_said : OneSaid
one_said word (Some v) (Some w) (number v' l e) (number w' m f) = ap Some (decimal_same v w (omega arith) (omega arith) (sym e ∙ f))
one_said word (Some v) None (number v' l e) (none f) = absurd (f v l e)
one_said word None (Some w) (none f) (number w' m e) = absurd (f w m e)
one_said word None None (none f) (none h) = refl

-- ---- the first i bytes are read
pub record ReadTo (word : List ℕ) (i value : ℕ) : Type 0 where
  pub within : i ≤ length word
  pub small : value < 10 ^ i
  pub lead : 1 < length word → get_or word 0 0 ≡ 48 → ⊥
  pub some : 0 < i → 1 < length word → 0 < value
  pub is : 0 < i → take i word ≡ decimal value

module _ (word : List ℕ) where
  module _ (i value : ℕ) (r : ReadTo word i value) (short : length word ≤ DIGITS) where
    pub read_small : value < 10 ^ DIGITS
    read_small = omega (arith, r.small, r.within, pow-le-pow_right {n = 10} (omega arith) {i = i} {j = DIGITS} (omega (arith, r.within)))

    pub read_all : 0 < length word → length word ≤ i → Says word (Some value)
    read_all h l = number value read_small (sym (take_all i word l) ∙ r.is (omega arith))

    module _ (d : ℕ) (h : i < length word) (l : d < 10) (e : get_or word i 0 ≡ 48 + d) where
      -- before the first byte the value is 0
      first_value : i ≡ 0 → value * 10 + d ≡ d
      first_value z = omega (arith, rw z at r.small)

      more_some : 0 < i + 1 → 1 < length word → 0 < value * 10 + d
      more_some p q =
          ⊎_elim
          (λ (z : i ≡ 0). rw (first_value z) (⊎_elim (λ (w : d ≡ 0). absurd (r.lead q (rw z at e ∙ omega arith))) (λ w. w) (eq-zero-or-pos d)))
          (λ (z : 0 < i). omega (arith, r.some z q))
          (eq-zero-or-pos i)

      more_is : 0 < i + 1 → take (i + 1) word ≡ decimal (value * 10 + d)
      more_is p =
          rw (add-one i, take-suc word i 0, e)
          (⊎_elim
          (λ (z : i ≡ 0). rw (z, first_value z) (sym (decimal_one d l)))
          (λ (z : 0 < i). rw (r.is z) (sym (decimal_next value d (r.some z (omega arith)) l (omega (arith, read_small)))))
          (eq-zero-or-pos i))

      pub read_more : ReadTo word (i + 1) (value * 10 + d)
      read_more =
          record { within = omega arith; small = rw (add-one i, pow-suc 10 i) (omega (arith, r.small)); lead = r.lead; some = more_some; is = more_is }
