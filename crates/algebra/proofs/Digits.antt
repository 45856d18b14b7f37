-- What are xor, and, parity on numbers, digit by digit? Assumes nothing.
use mathlib.Core.Path.{◌∙◌, ◌≡◌, ap, ap₂, refl, subst, sym}
use Prim.Native.Nat.{◌%◌, ◌*◌, ◌+◌, ◌-◌, ◌/◌, ◌<◌, ◌^◌, ◌≤◌, suc, suc-le-suc, zero, zero-le, ℕ}
use native.Mathlib.Numerals.{add-one, one-add}
use native.Mathlib.Nat.{add-mod-mod, div-add-mod', div-eq_of_lt, div-one, le_of_suc-le-suc, le_refl}
use native.Mathlib.Nat.{lt_of_lt_of_le, mod-lt, mul-le-mul_right, not-suc-le-zero, one-mul, pow-suc, sub-add_cancel, suc-mul, zero-div}
use native.Mathlib.Omega.{arith}
use lib.Arith.{bin_ind, digits_div, digits_mod, half_le, lt_of_le-ne, lt-one}
use lib.Pow.{field, mod-mod-pow, pow-add, pow-lt, pow_mono, pow_pos, shl_lt, shl-shr, shr_lt, shr-shr, split}
use lib.Bits.{and_comm, and_mod, and_shr, bit_and, bit_or, bit_xor, or_mod, or_shr, shifted_even, shifted_half}
use lib.Bits.{xor_comm, xor_lt, xor_mod, xor_self, xor_shifted, xor_shr, xor_zero_r}
use lib.Count.{ones, ones_step}
use mathlib.Core.Logic.{◌⊎◌, inl, inr, ⊎_elim}
use lib.Dec.{lit<}
use Rattle.algebra.proofs.Search.{le_or_lt}
use Rattle.algebra.specs.Vector.{bit, parity, unless_zero}

-- a statement about a digit, from its two cases
pub bit_cases : (P : ℕ → Type 0) → P 0 → P 1 → (x : ℕ) → x < 2 → P x
bit_cases P p q zero h = p
bit_cases P p q (suc zero) h = q
bit_cases P p q (suc (suc x)) h = absurd (not-suc-le-zero (le_of_suc-le-suc (le_of_suc-le-suc h)))

pub digit : (x : ℕ) → x % 2 < 2
digit x = mod-lt x (lit< tt)

pub half_lt : {a : ℕ} (k : ℕ) → a < 2 ^ suc k → a / 2 < 2 ^ k
half_lt k h = shr_lt k 1 (rw (add-one k) h)

-- two numbers with the same half and the same lowest digit are equal
pub bin_ext : (a b : ℕ) → a / 2 ≡ b / 2 → a % 2 ≡ b % 2 → a ≡ b
bin_ext a b p q = sym (div-add-mod' a 2) ∙ ap₂ (λ (x y : ℕ). x * 2 + y) p q ∙ div-add-mod' b 2

-- ---- an operation of three numbers that works digit by digit is known by what it does on digits
record Digitwise (f : ℕ → ℕ → ℕ → ℕ) : Type 0 where
  pub half : (a b c : ℕ) → f a b c / 2 ≡ f (a / 2) (b / 2) (c / 2)
  pub odd : (a b c : ℕ) → f a b c % 2 ≡ f (a % 2) (b % 2) (c % 2)

digitwise : (f g : ℕ → ℕ → ℕ → ℕ) → Digitwise f → Digitwise g
    → ((x y z : ℕ) → x < 2 → y < 2 → z < 2 → f x y z ≡ g x y z) → (a b c : ℕ) → f a b c ≡ g a b c
digitwise f g hf hg low a b c = go (a + b + c) a b c (omega arith) (omega arith) (omega arith)
  where
    go : (n a b c : ℕ) → a ≤ n → b ≤ n → c ≤ n → f a b c ≡ g a b c
    go zero a b c ha hb hc = low a b c (omega arith) (omega arith) (omega arith)
    go (suc n) a b c ha hb hc =
        bin_ext (f a b c) (g a b c)
        (hf.half a b c ∙ go n (a / 2) (b / 2) (c / 2) (half_le ha) (half_le hb) (half_le hc) ∙ sym (hg.half a b c))
        (hf.odd a b c ∙ low (a % 2) (b % 2) (c % 2) (digit a) (digit b) (digit c) ∙ sym (hg.odd a b c))

-- on digits a law of three is eight computations
on_digits : (P : ℕ → ℕ → ℕ → Type 0)
    → P 0 0 0 → P 0 0 1 → P 0 1 0 → P 0 1 1 → P 1 0 0 → P 1 0 1 → P 1 1 0 → P 1 1 1
    → (x y z : ℕ) → x < 2 → y < 2 → z < 2 → P x y z
on_digits P a b c d e f g h x y z hx hy hz =
    bit_cases (λ (x : ℕ). P x y z)
    (bit_cases (λ (y : ℕ). P 0 y z) (bit_cases (λ (z : ℕ). P 0 0 z) a b z hz) (bit_cases (λ (z : ℕ). P 0 1 z) c d z hz) y hy)
    (bit_cases (λ (y : ℕ). P 1 y z) (bit_cases (λ (z : ℕ). P 1 0 z) e f z hz) (bit_cases (λ (z : ℕ). P 1 1 z) g h z hz) y hy)
    x hx

-- an operation of two numbers that works digit by digit
record Bitwise (f : ℕ → ℕ → ℕ) : Type 0 where
  pub half : (a b : ℕ) → f a b / 2 ≡ f (a / 2) (b / 2)
  pub odd : (a b : ℕ) → f a b % 2 ≡ f (a % 2) (b % 2)

-- such an operation is associative where it is so on digits
bitwise_assoc : (f : ℕ → ℕ → ℕ) → Bitwise f → ((x y z : ℕ) → x < 2 → y < 2 → z < 2 → f (f x y) z ≡ f x (f y z))
    → (a b c : ℕ) → f (f a b) c ≡ f a (f b c)
bitwise_assoc f h =
    digitwise (λ a b c. f (f a b) c) (λ a b c. f a (f b c))
    (record {
      half = λ a b c. h.half (f a b) c ∙ ap (λ (x : ℕ). f x (c / 2)) (h.half a b);
      odd = λ a b c. h.odd (f a b) c ∙ ap (λ (x : ℕ). f x (c % 2)) (h.odd a b);
    })
    (record {
      half = λ a b c. h.half a (f b c) ∙ ap (f (a / 2)) (h.half b c);
      odd = λ a b c. h.odd a (f b c) ∙ ap (f (a % 2)) (h.odd b c);
    })

-- ---- xor, or
pub xor_assoc : (a b c : ℕ) → bit_xor (bit_xor a b) c ≡ bit_xor a (bit_xor b c)
xor_assoc =
    bitwise_assoc bit_xor (record { half = λ a b. xor_shr a b 1; odd = λ a b. xor_mod a b 1 })
    (on_digits (λ a b c. bit_xor (bit_xor a b) c ≡ bit_xor a (bit_xor b c)) refl refl refl refl refl refl refl refl)

pub or_assoc : (a b c : ℕ) → bit_or (bit_or a b) c ≡ bit_or a (bit_or b c)
or_assoc =
    bitwise_assoc bit_or (record { half = λ a b. or_shr a b 1; odd = λ a b. or_mod a b 1 })
    (on_digits (λ a b c. bit_or (bit_or a b) c ≡ bit_or a (bit_or b c)) refl refl refl refl refl refl refl refl)

and_xor : (a b c : ℕ) → bit_and a (bit_xor b c) ≡ bit_xor (bit_and a b) (bit_and a c)
and_xor =
    digitwise (λ a b c. bit_and a (bit_xor b c)) (λ a b c. bit_xor (bit_and a b) (bit_and a c))
    (record {
      half = λ a b c. and_shr a (bit_xor b c) 1 ∙ ap (bit_and (a / 2)) (xor_shr b c 1);
      odd = λ a b c. and_mod a (bit_xor b c) 1 ∙ ap (bit_and (a % 2)) (xor_mod b c 1);
    })
    (record {
      half = λ a b c. xor_shr (bit_and a b) (bit_and a c) 1 ∙ ap₂ bit_xor (and_shr a b 1) (and_shr a c 1);
      odd = λ a b c. xor_mod (bit_and a b) (bit_and a c) 1 ∙ ap₂ bit_xor (and_mod a b 1) (and_mod a c 1);
    })
    (on_digits (λ a b c. bit_and a (bit_xor b c) ≡ bit_xor (bit_and a b) (bit_and a c)) refl refl refl refl refl refl refl refl)

-- x xor (x xor y) is y
pub xor_cancel : (x y : ℕ) → bit_xor x (bit_xor x y) ≡ y
xor_cancel x y = sym (xor_assoc x x y) ∙ ap (λ (k : ℕ). bit_xor k y) (xor_self x)

pub xor_cancel_r : (x y : ℕ) → bit_xor (bit_xor x y) y ≡ x
xor_cancel_r x y = xor_assoc x y y ∙ ap (bit_xor x) (xor_self y) ∙ xor_zero_r x

-- numbers whose xor is zero are equal
pub xor-eq : (x y : ℕ) → bit_xor x y ≡ 0 → x ≡ y
xor-eq x y e = sym (xor_zero_r x) ∙ ap (bit_xor x) (sym e) ∙ xor_cancel x y

-- xor a number over to the other side
pub xor-move : (x y z : ℕ) → bit_xor x y ≡ z → x ≡ bit_xor z y
xor-move x y z e = sym (xor_cancel_r x y) ∙ ap (λ (k : ℕ). bit_xor k y) e

-- two sums, regrouped
pub xor4 : (a b c d : ℕ) → bit_xor (bit_xor a b) (bit_xor c d) ≡ bit_xor (bit_xor a c) (bit_xor b d)
xor4 a b c d =
    xor_assoc a b (bit_xor c d)
    ∙ ap (bit_xor a) (sym (xor_assoc b c d) ∙ ap (λ (k : ℕ). bit_xor k d) (xor_comm b c) ∙ xor_assoc c b d)
    ∙ sym (xor_assoc a c (bit_xor b d))

-- ---- one bit of a number
pub bit-lt : (x i : ℕ) → bit x i < 2
unfolding bit
bit-lt x i = digit (x / 2 ^ i)

pub bit-zero : (i : ℕ) → bit 0 i ≡ 0
unfolding bit
bit-zero i = ap (λ (k : ℕ). k % 2) (zero-div (2 ^ i))

pub bit_here : (x : ℕ) → bit x 0 ≡ x % 2
unfolding bit
bit_here x = ap (λ (k : ℕ). k % 2) (div-one x)

pub bit-suc : (x i : ℕ) → bit x (suc i) ≡ bit (x / 2) i
unfolding bit
bit-suc x i = ap (λ (k : ℕ). k % 2) (ap (λ (k : ℕ). x / 2 ^ k) (sym (one-add i)) ∙ sym (shr-shr x 1 i))

pub bit-xor : (x y i : ℕ) → bit (bit_xor x y) i ≡ bit_xor (bit x i) (bit y i)
unfolding bit
bit-xor x y i = ap (λ (k : ℕ). k % 2) (xor_shr x y i) ∙ xor_mod (x / 2 ^ i) (y / 2 ^ i) 1

-- ---- a digit times a vector
pub unless_zero_lem : (d : ℕ) → unless_zero d 0 ≡ 0
unfolding unless_zero
unless_zero_lem zero = refl
unless_zero_lem (suc d) = refl

pub unless_no : (d v : ℕ) → d ≡ 0 → unless_zero d v ≡ 0
unfolding unless_zero
unless_no d v e = ap (λ (k : ℕ). unless_zero k v) e

pub unless_xor : (d u v : ℕ) → unless_zero d (bit_xor u v) ≡ bit_xor (unless_zero d u) (unless_zero d v)
unfolding unless_zero
unless_xor zero u v = refl
unless_xor (suc d) u v = refl

pub unless_add : (d e v : ℕ) → d < 2 → e < 2 → unless_zero (bit_xor d e) v ≡ bit_xor (unless_zero d v) (unless_zero e v)
unfolding unless_zero
unless_add d e v hd he =
    bit_cases (λ (d : ℕ). unless_zero (bit_xor d e) v ≡ bit_xor (unless_zero d v) (unless_zero e v)) refl
    (bit_cases (λ (e : ℕ). unless_zero (bit_xor 1 e) v ≡ bit_xor v (unless_zero e v)) (sym (xor_zero_r v)) (sym (xor_self v)) e he) d hd

pub unless_lt : (k d v : ℕ) → v < 2 ^ k → unless_zero d v < 2 ^ k
unfolding unless_zero
unless_lt k zero v h = pow_pos k
unless_lt k (suc d) v h = h

-- ---- parity
pub parity-lt : (x : ℕ) → parity x < 2
unfolding parity
parity-lt x = digit (ones x)

pub parity-zero : parity 0 ≡ 0
unfolding parity ones
parity-zero = refl

parity_step : (x : ℕ) → parity x ≡ bit_xor (x % 2) (parity (x / 2))
unfolding parity
parity_step x =
    ap (λ (k : ℕ). k % 2) (ones_step x) ∙ sym (add-mod-mod (x % 2) (ones (x / 2)) 2)
    ∙ bit_cases (λ (d : ℕ). (d + ones (x / 2) % 2) % 2 ≡ bit_xor d (ones (x / 2) % 2))
    (bit_cases (λ (e : ℕ). (0 + e) % 2 ≡ e) refl refl (ones (x / 2) % 2) (digit (ones (x / 2))))
    (bit_cases (λ (e : ℕ). (1 + e) % 2 ≡ bit_xor 1 e) refl refl (ones (x / 2) % 2) (digit (ones (x / 2)))) (x % 2) (digit x)

pub parity_digit : (u d : ℕ) → d < 2 → parity (u * 2 + d) ≡ bit_xor d (parity u)
parity_digit u d h = parity_step (u * 2 + d) ∙ ap₂ (λ (x y : ℕ). bit_xor x (parity y)) (digits_mod u h) (digits_div u h)

pub parity-bit : (d : ℕ) → d < 2 → parity d ≡ d
unfolding parity ones
parity-bit = bit_cases (λ (d : ℕ). parity d ≡ d) refl refl

parity-xor : (a b : ℕ) → parity (bit_xor a b) ≡ bit_xor (parity a) (parity b)
parity-xor a =
    bin_ind (λ (n : ℕ). (b : ℕ) → parity (bit_xor n b) ≡ bit_xor (parity n) (parity b))
    (λ b. ap (λ (k : ℕ). bit_xor k (parity b)) (sym parity-zero))
    (λ n ih b.
    parity_step (bit_xor n b) ∙ ap₂ (λ (x y : ℕ). bit_xor x (parity y)) (xor_mod n b 1) (xor_shr n b 1)
    ∙ ap (bit_xor (bit_xor (n % 2) (b % 2))) (ih (b / 2))
    ∙ xor4 (n % 2) (b % 2) (parity (n / 2)) (parity (b / 2))
    ∙ sym (ap₂ bit_xor (parity_step n) (parity_step b)))
    a

-- the parity of r AND x is linear in x, and in r
pub dot_xor : (r x y : ℕ) → parity (bit_and r (bit_xor x y)) ≡ bit_xor (parity (bit_and r x)) (parity (bit_and r y))
dot_xor r x y = ap parity (and_xor r x y) ∙ parity-xor (bit_and r x) (bit_and r y)

pub dot_xor_l : (r s x : ℕ) → parity (bit_and (bit_xor r s) x) ≡ bit_xor (parity (bit_and r x)) (parity (bit_and s x))
dot_xor_l r s x =
    ap parity (and_comm (bit_xor r s) x) ∙ dot_xor x r s
    ∙ ap₂ (λ (u v : ℕ). bit_xor (parity u) (parity v)) (and_comm x r) (and_comm x s)

pub bit_unless : (d w q : ℕ) → bit (unless_zero d w) q ≡ unless_zero d (bit w q)
unfolding unless_zero
bit_unless zero w q = bit-zero q
bit_unless (suc d) w q = refl

pub unless_one : (d : ℕ) → d < 2 → unless_zero d 1 ≡ d
unfolding unless_zero
unless_one = bit_cases (λ (d : ℕ). unless_zero d 1 ≡ d) refl refl

-- no bit above the top
pub bit_above : (x m i : ℕ) → x < 2 ^ m → m ≤ i → bit x i ≡ 0
unfolding bit
bit_above x m i h l = ap (λ (k : ℕ). k % 2) (div-eq_of_lt (lt_of_lt_of_le h (pow_mono l)))

-- a set bit of a number below 2 ^ n stands below n
pub bit_place : (n x i : ℕ) → x < 2 ^ n → bit x i ≡ 1 → i < n
bit_place n x i h e = ⊎_elim (λ (l : n ≤ i). absurd (omega (arith, sym (bit_above x n i h l) ∙ e))) (λ l. l) (le_or_lt n i)

-- a number with no bit set is zero
pub bits-zero : (n x : ℕ) → x < 2 ^ n → ((i : ℕ) → i < n → bit x i ≡ 0) → x ≡ 0
bits-zero zero x h f = lt-one h
bits-zero (suc n) x h f =
    bin_ext x 0 (bits-zero n (x / 2) (half_lt n h) (λ i l. sym (bit-suc x i) ∙ f (suc i) (suc-le-suc l)))
    (sym (bit_here x) ∙ f 0 (suc-le-suc zero-le))

-- ---- numbers with the same bits
pub bits_same : (n x y : ℕ) → x < 2 ^ n → y < 2 ^ n → ((i : ℕ) → i < n → bit x i ≡ bit y i) → x ≡ y
bits_same n x y hx hy e =
    xor-eq x y (bits-zero n (bit_xor x y) (xor_lt n x y hx hy)
    (λ i l. bit-xor x y i ∙ ap (λ (k : ℕ). bit_xor k (bit y i)) (e i l) ∙ xor_self (bit y i)))

-- ---- shifted numbers
pub bit_shifted : (t m i : ℕ) → i < m → bit (t * 2 ^ m) i ≡ 0
bit_shifted t zero i h = absurd (not-suc-le-zero h)
bit_shifted t (suc m) zero h = bit_here (t * 2 ^ suc m) ∙ shifted_even t m
bit_shifted t (suc m) (suc i) h = bit-suc (t * 2 ^ suc m) i ∙ ap (λ (k : ℕ). bit k i) (shifted_half t m) ∙ bit_shifted t m i (le_of_suc-le-suc h)

pub bit_shl : (t m i : ℕ) → bit (t * 2 ^ m) (m + i) ≡ bit t i
unfolding bit
bit_shl t m i = ap (λ (k : ℕ). k % 2) (sym (shr-shr (t * 2 ^ m) m i) ∙ ap (λ (k : ℕ). k / 2 ^ i) (shl-shr t m))

pub bit_shr : (x k i : ℕ) → bit (x / 2 ^ k) i ≡ bit x (k + i)
unfolding bit
bit_shr x k i = ap (λ (v : ℕ). v % 2) (shr-shr x k i)

pub shl_below : (n m t : ℕ) → m ≤ n → t < 2 ^ (n - m) → t * 2 ^ m < 2 ^ n
shl_below n m t hm h = subst (λ (k : ℕ). t * 2 ^ m < 2 ^ k) (sub-add_cancel hm) (shl_lt (n - m) m h)

pub shr_below : (n m x : ℕ) → m ≤ n → x < 2 ^ n → x / 2 ^ m < 2 ^ (n - m)
shr_below n m x hm h = shr_lt (n - m) m (subst (λ (k : ℕ). x < 2 ^ k) (sym (sub-add_cancel hm)) h)

-- ---- powers of two, and numbers over and under them
-- 2 ^ j over a number below it
pub top_xor : (j s : ℕ) → s < 2 ^ j → bit_xor (2 ^ j) s ≡ 2 ^ j + s
top_xor j s h = subst (λ (k : ℕ). bit_xor k s ≡ k + s) (one-mul (2 ^ j)) (xor_shifted 1 j s h)

-- the highest digit of j + 1: not set, or set over a smaller number
pub top_digit : (j z : ℕ) → z < 2 ^ suc j → (z < 2 ^ j) ⊎ ((s : ℕ) × (s < 2 ^ j) × (z ≡ bit_xor (2 ^ j) s))
top_digit j z h =
    let d : 2 ^ suc j ≡ 2 ^ j * 2 = pow-suc 2 j in
    ⊎_elim
    (λ (l : 2 ^ j ≤ z). inr (z - 2 ^ j, omega arith, sym (top_xor j (z - 2 ^ j) (omega arith) ∙ omega arith)))
    (λ (l : z < 2 ^ j). inl l)
    (le_or_lt (2 ^ j) z)

pub bit-pow : (j : ℕ) → bit (2 ^ j) j ≡ 1
unfolding bit
bit-pow j = ap (λ (k : ℕ). k % 2) (ap (λ (k : ℕ). k / 2 ^ j) (sym (one-mul (2 ^ j))) ∙ shl-shr 1 j)

bit-pow_low : (j i : ℕ) → i < j → bit (2 ^ j) i ≡ 0
bit-pow_low j i h = ap (λ (k : ℕ). bit k i) (sym (one-mul (2 ^ j))) ∙ bit_shifted 1 j i h

pub bit-pow_other : (j i : ℕ) → (i ≡ j → ⊥) → bit (2 ^ j) i ≡ 0
bit-pow_other j i f =
    ⊎_elim (λ (l : j ≤ i). bit_above (2 ^ j) (suc j) i (pow-lt (le_refl (suc j))) (lt_of_le-ne l (λ e. f (sym e)))) (bit-pow_low j i) (le_or_lt j i)

-- 2 ^ j over a smaller number
pub top_bit : (j s : ℕ) → s < 2 ^ j → bit (bit_xor (2 ^ j) s) j ≡ 1
top_bit j s h = bit-xor (2 ^ j) s j ∙ ap₂ bit_xor (bit-pow j) (bit_above s j j h (le_refl j))

pub under_bit : (j s i : ℕ) → i < j → bit (bit_xor (2 ^ j) s) i ≡ bit s i
under_bit j s i h = bit-xor (2 ^ j) s i ∙ ap (λ (k : ℕ). bit_xor k (bit s i)) (bit-pow_low j i h)

-- a number is its low part and its high part
pub parts_xor : (m x : ℕ) → bit_xor (x % 2 ^ m) (x / 2 ^ m * 2 ^ m) ≡ x
parts_xor m x =
    xor_comm (x % 2 ^ m) (x / 2 ^ m * 2 ^ m) ∙ xor_shifted (x / 2 ^ m) m (x % 2 ^ m) (mod-lt x (pow_pos m)) ∙ split x m

-- two summands change places
pub xor_swap : (x y z : ℕ) → bit_xor (bit_xor x y) z ≡ bit_xor (bit_xor x z) y
xor_swap x y z = xor_assoc x y z ∙ ap (bit_xor x) (xor_comm y z) ∙ sym (xor_assoc x z y)

-- ---- a number taken apart

-- one of n shares of k
pub share : (t n k : ℕ) → t < n → t * k + k ≤ n * k
share t n k h = omega (arith, suc-mul t k, mul-le-mul_right k h)

module _ (b m : ℕ) (hb : b ≤ m) where
  pub pow_split : 2 ^ m ≡ 2 ^ (m - b) * 2 ^ b
  pow_split = ap (λ (k : ℕ). 2 ^ k) (omega arith) ∙ pow-add 2 (m - b) b

  -- bits b..m-1
  pub bits_mid : (v : ℕ) → v % 2 ^ m / 2 ^ b ≡ v / 2 ^ b % 2 ^ (m - b)
  bits_mid v = ap (λ (k : ℕ). v % 2 ^ k / 2 ^ b) (omega arith) ∙ field v (m - b) b

  -- the bits from b on are those from m on and those below m
  pub bits_from : (v : ℕ) → v / 2 ^ b ≡ v / 2 ^ m * 2 ^ (m - b) + v % 2 ^ m / 2 ^ b
  bits_from v =
      sym (div-add-mod' (v / 2 ^ b) (2 ^ (m - b)))
      ∙ ap₂ (λ (x y : ℕ). x * 2 ^ (m - b) + y) (shr-shr v b (m - b) ∙ ap (λ (k : ℕ). v / 2 ^ k) (omega arith)) (sym (bits_mid v))

  -- the bits below b
  pub bits_below : (v : ℕ) → v % 2 ^ m % 2 ^ b ≡ v % 2 ^ b
  bits_below v = ap (λ (k : ℕ). v % 2 ^ k % 2 ^ b) (omega arith) ∙ mod-mod-pow v (m - b) b
