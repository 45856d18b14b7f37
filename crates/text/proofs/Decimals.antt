-- Which digits has a number of up to 64 bits, and how long is a line that ends in one? Assumes nothing.
use mathlib.Core.Path.{◌≡◌, refl, sym, ap, ◌∙◌}
use mathlib.Core.Logic.{⊎_elim}
use mathlib.Core.List.{List, [], ◌∷◌, ◌++◌}
use Prim.Native.Nat.{ℕ, zero, suc, ◌+◌, ◌-◌, ◌*◌, ◌/◌, ◌%◌, ◌^◌, ◌<◌, ◌≤◌}
use native.Mathlib.Omega.{arith}
use native.Mathlib.Nat.{pow-suc, pow-zero}
use borrow.Author.Tests.{lt-ltb, le-ltb}
use lib.ListN.{length, get_or, length-append, get_or-append}
use Rattle.algebra.proofs.Lists.{All, all_at}
use Rattle.algebra.proofs.Search.{le_or_lt}
use Rattle.text.specs.Lines.{line, digits_in, decimal}

-- ---- in so many places
digits_last : (k v : ℕ) → v < 10 → digits_in (suc k) v ≡ (48 + v) ∷ []
unfolding digits_in
digits_last k v h = rw (lt-ltb v 10 h, digits_in)

digits_more : (k v : ℕ) → 10 ≤ v → digits_in (suc k) v ≡ digits_in k (v / 10) ++ ((48 + v % 10) ∷ [])
unfolding digits_in
digits_more k v h = rw (le-ltb v 10 h, digits_in)

-- once there are digits enough, more places change nothing
digits_enough : (k v : ℕ) → v < 10 ^ suc k → digits_in (suc (suc k)) v ≡ digits_in (suc k) v
digits_enough zero v h =
    let l : v < 10 = omega (arith, pow-suc 10 0, pow-zero 10) in
    digits_last 1 v l ∙ sym (digits_last 0 v l)
digits_enough (suc k) v h =
    ⊎_elim
    (λ (g : 10 ≤ v).
    let rest = digits_enough k (v / 10) (omega (arith, pow-suc 10 (suc k))) in
    digits_more (suc (suc k)) v g ∙ rw rest (sym (digits_more (suc k) v g)))
    (λ (g : v < 10). digits_last (suc (suc k)) v g ∙ sym (digits_last (suc k) v g))
    (le_or_lt 10 v)

digits_length : (k v : ℕ) → length (digits_in k v) ≤ k
unfolding digits_in
digits_length zero v = omega arith
digits_length (suc k) v =
    ⊎_elim
    (λ (g : 10 ≤ v). omega (arith, simp length-append at (ap length (digits_more k v g)), digits_length k (v / 10)))
    (λ (g : v < 10). omega (arith, ap length (digits_last k v g)))
    (le_or_lt 10 v)

-- what holds of one digit, and of one digit more wherever it held before, holds of every number with digits enough
module _ (P : ℕ → List ℕ → Type 0) (one : (v : ℕ) → v < 10 → P v ((48 + v) ∷ []))
    (more : (v : ℕ) (l : List ℕ) → 10 ≤ v → P (v / 10) l → P v (l ++ ((48 + v % 10) ∷ []))) where
  digits_by : (k v : ℕ) → v < 10 ^ suc k → P v (digits_in (suc k) v)
  digits_by zero v h = let l : v < 10 = omega (arith, pow-suc 10 0, pow-zero 10) in rw (digits_last 0 v l) (one v l)
  digits_by (suc k) v h =
      ⊎_elim
      (λ (g : 10 ≤ v). rw (digits_more (suc k) v g) (more v _ g (digits_by k (v / 10) (omega (arith, pow-suc 10 (suc k))))))
      (λ (g : v < 10). rw (digits_last (suc k) v g) (one v g))
      (le_or_lt 10 v)

  decimal_by : (v : ℕ) → v < 2 ^ 64 → P v (decimal v)
  unfolding decimal
  decimal_by v h = digits_by 19 v (omega arith)

-- ---- the digits of a number
pub decimal_one : (v : ℕ) → v < 10 → decimal v ≡ (48 + v) ∷ []
unfolding decimal
decimal_one v h = digits_last 19 v h

pub decimal_more : (v : ℕ) → 10 ≤ v → v < 2 ^ 64 → decimal v ≡ decimal (v / 10) ++ ((48 + v % 10) ∷ [])
unfolding decimal
decimal_more v g h = digits_more 19 v g ∙ rw (digits_enough 18 (v / 10) (omega arith))

pub decimal_two : (v a b : ℕ) → 1 ≤ a → a < 10 → b < 10 → v ≡ a * 10 + b → decimal v ≡ (48 + a) ∷ (48 + b) ∷ []
decimal_two v a b h i j e =
    let p : v / 10 ≡ a = omega arith in
    let q : v % 10 ≡ b = omega arith in
    decimal_more v (omega arith) (omega arith) ∙ rw (p, q, decimal_one a i)

pub decimal_three : (v a b c : ℕ) → 1 ≤ a → a < 10 → b < 10 → c < 10 → v ≡ a * 100 + b * 10 + c
    → decimal v ≡ (48 + a) ∷ (48 + b) ∷ (48 + c) ∷ []
decimal_three v a b c h i j k e =
    let q : v % 10 ≡ c = omega arith in
    decimal_more v (omega arith) (omega arith) ∙ rw (q, decimal_two (v / 10) a b h i j (omega arith))

pub decimal-length : (v : ℕ) → length (decimal v) ≤ 20
unfolding decimal
decimal-length v = digits_length 20 v

pub decimal_longer : (v : ℕ) → 10 ≤ v → v < 2 ^ 64 → length (decimal v) ≡ length (decimal (v / 10)) + 1
decimal_longer v g h = ap length (decimal_more v g h) ∙ simp length-append

pub decimal_some : (v : ℕ) → v < 2 ^ 64 → 0 < length (decimal v)
decimal_some v h =
    ⊎_elim
    (λ (g : 10 ≤ v). omega (arith, decimal_longer v g h))
    (λ (g : v < 10). omega (arith, ap length (decimal_one v g)))
    (le_or_lt 10 v)

-- a number below a power of ten has no more digits than that
pub decimal_short : (k v : ℕ) → v < 2 ^ 64 → v < 10 ^ suc k → length (decimal v) ≤ suc k
decimal_short k v h i =
    decimal_by (λ v l. (k : ℕ) → v < 10 ^ suc k → length l ≤ suc k) (λ v g k i. omega arith) more v h k i
  where
    more : (v : ℕ) (l : List ℕ) → 10 ≤ v → ((k : ℕ) → v / 10 < 10 ^ suc k → length l ≤ suc k)
        → (k : ℕ) → v < 10 ^ suc k → length (l ++ ((48 + v % 10) ∷ [])) ≤ suc k
    more v l g f zero i = omega (arith, pow-suc 10 0, pow-zero 10)
    more v l g f (suc k) i = omega (arith, length-append l ((48 + v % 10) ∷ []), f k (omega (arith, pow-suc 10 (suc k))))

-- each digit is one of the characters 0 to 9
abbrev pub Digit : ℕ → Type 0
Digit x = (48 ≤ x) × (x < 58)

all_last : (xs : List ℕ) (y : ℕ) → All Digit xs → Digit y → All Digit (xs ++ (y ∷ []))
all_last [] y a d = (d, tt)
all_last (x ∷ xs) y a d = (a.0, all_last xs y a.1 d)

pub decimal_digit : (v i : ℕ) → v < 2 ^ 64 → i < length (decimal v) → Digit (get_or (decimal v) i 0)
decimal_digit v i h =
    all_at 0 Digit (decimal v)
    (decimal_by (λ v l. All Digit l) (λ v g. ((omega arith, omega arith), tt)) (λ v l g a. all_last l (48 + v % 10) a (omega arith, omega arith)) v h) i

-- the first is no 0 unless the number is 0
pub decimal_first : (v : ℕ) → v < 2 ^ 64 → 0 < v → 48 < get_or (decimal v) 0 0
decimal_first v h p =
    (decimal_by (λ v l. 0 < v → (0 < length l) × (48 < get_or l 0 0)) (λ v g p. (omega arith, omega arith)) more v h p).1
  where
    more : (v : ℕ) (l : List ℕ) → 10 ≤ v → (0 < v / 10 → (0 < length l) × (48 < get_or l 0 0)) → 0 < v
        → (0 < length (l ++ ((48 + v % 10) ∷ []))) × (48 < get_or (l ++ ((48 + v % 10) ∷ [])) 0 0)
    more v l g f p =
        let t = f (omega arith) in
        (omega (arith, length-append l ((48 + v % 10) ∷ [])), rw (get_or-append l ((48 + v % 10) ∷ []) 0 0 t.0) t.1)

-- the number that digits say, read on after a
unfoldable value_after : ℕ → List ℕ → ℕ
value_after a [] = a
value_after a (x ∷ xs) = value_after (a * 10 + (x - 48)) xs

value_last : (a : ℕ) (xs : List ℕ) (y : ℕ) → value_after a (xs ++ (y ∷ [])) ≡ value_after a xs * 10 + (y - 48)
unfolding value_after
value_last a [] y = refl
value_last a (x ∷ xs) y = value_last (a * 10 + (x - 48)) xs y

decimal_value : (v : ℕ) → v < 2 ^ 64 → value_after 0 (decimal v) ≡ v
unfolding value_after
decimal_value =
    decimal_by (λ v l. value_after 0 l ≡ v) (λ v g. omega arith) (λ v l g e. omega (arith, value_last 0 l (48 + v % 10)))

-- so that no two numbers have the same digits
pub decimal_same : (v w : ℕ) → v < 2 ^ 64 → w < 2 ^ 64 → decimal v ≡ decimal w → v ≡ w
decimal_same v w h i e = sym (decimal_value v h) ∙ ap (value_after 0) e ∙ decimal_value w i

-- one digit more
pub decimal_next : (v d : ℕ) → 0 < v → d < 10 → v * 10 + d < 2 ^ 64 → decimal (v * 10 + d) ≡ decimal v ++ ((48 + d) ∷ [])
decimal_next v d p g h =
    let a : (v * 10 + d) / 10 ≡ v = omega arith in
    let b : (v * 10 + d) % 10 ≡ d = omega arith in
    decimal_more (v * 10 + d) (omega arith) h ∙ rw (a, b)

-- ---- a line of a word and a number
pub length_word_line : (w d : List ℕ) → length (line (w ++ d)) ≡ length w + length d + 1
length_word_line w d = simp length-append

pub line_short : (w : List ℕ) (v : ℕ) → length (line (w ++ decimal v)) ≤ length w + 21
line_short w v = omega (arith, length_word_line w (decimal v), decimal-length v)
