-- What do the bits that some of many numbers have tell of each of them? Assumes nothing.
use mathlib.Core.Path.{◌≡◌, refl, sym, ap, ap₂, ◌∙◌}
use Prim.Native.Nat.{ℕ, zero, suc, ◌+◌, ◌<◌, ◌≤◌, ◌^◌}
use native.Mathlib.Nat.{not-suc-le-zero, add-zero}
use native.Mathlib.Numerals.{add-one}
use native.Mathlib.Omega.{arith}
use lib.Bits.{bit_or, and_le_l, and_le_r, or_add_and, or_lt, or_zero_r}
use lib.Pow.{pow_pos}
use borrow.Author.Count.{below_more}
use Rattle.algebra.proofs.Digits.{or_assoc}
use Rattle.lists.specs.Apart.{all_bits}

-- the bits of two numbers are at least each of them
or_above_l : (a b : ℕ) → a ≤ bit_or a b
or_above_l a b = omega (arith, or_add_and a b, and_le_r a b)

or_above_r : (a b : ℕ) → b ≤ bit_or a b
or_above_r a b = omega (arith, or_add_and a b, and_le_l a b)

-- each number is at most all of them together
pub all-bits_above : (f : ℕ → ℕ) (k i : ℕ) → i < k → f i ≤ all_bits f k
unfolding all_bits
all-bits_above f zero i h = absurd (not-suc-le-zero h)
all-bits_above f (suc k) i h =
    below_more (λ j. f j ≤ bit_or (all_bits f k) (f k)) k
    (λ j l. omega (arith, all-bits_above f k j l, or_above_l (all_bits f k) (f k))) (or_above_r (all_bits f k) (f k)) i (omega arith)

pub all-bits_below : (f : ℕ → ℕ) (n k : ℕ) → ((i : ℕ) → i < k → f i < 2 ^ n) → all_bits f k < 2 ^ n
unfolding all_bits
all-bits_below f n zero h = pow_pos n
all-bits_below f n (suc k) h = or_lt n (all_bits f k) (f k) (all-bits_below f n k (λ i l. h i (omega arith))) (h k (omega arith))

pub all-bits_none : (f : ℕ → ℕ) (k : ℕ) → ((i : ℕ) → i < k → f i ≡ 0) → all_bits f k ≡ 0
unfolding all_bits
all-bits_none f zero h = refl
all-bits_none f (suc k) h = ap₂ bit_or (all-bits_none f k (λ i l. h i (omega arith))) (h k (omega arith))

pub all-bits_ext : (f g : ℕ → ℕ) (k : ℕ) → ((i : ℕ) → i < k → f i ≡ g i) → all_bits f k ≡ all_bits g k
unfolding all_bits
all-bits_ext f g zero h = refl
all-bits_ext f g (suc k) h = ap₂ bit_or (all-bits_ext f g k (λ i l. h i (omega arith))) (h k (omega arith))

pub all-bits_next : (f : ℕ → ℕ) (k u : ℕ) → u ≡ all_bits f k → bit_or u (f k) ≡ all_bits f (k + 1)
unfolding all_bits
all-bits_next f k u e = ap (λ (v : ℕ). bit_or v (f k)) e ∙ ap (all_bits f) (sym (add-one k))

-- the first a numbers, and then b more
pub all-bits-append : (f : ℕ → ℕ) (a b : ℕ) → bit_or (all_bits f a) (all_bits (λ i. f (a + i)) b) ≡ all_bits f (a + b)
unfolding all_bits
all-bits-append f a zero = or_zero_r (all_bits f a) ∙ ap (all_bits f) (sym (add-zero a))
all-bits-append f a (suc b) =
    let more : a + suc b ≡ suc (a + b) = omega arith in
    sym (or_assoc (all_bits f a) (all_bits (λ i. f (a + i)) b) (f (a + b))) ∙ ap (λ (v : ℕ). bit_or v (f (a + b))) (all-bits-append f a b) ∙ ap (all_bits f) (sym more)
