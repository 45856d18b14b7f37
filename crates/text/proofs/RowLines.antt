-- Which characters has a row, from bit 0 on, and which rows have which lines? Assumes nothing.
use mathlib.Core.Path.{◌≡◌, refl, sym, ap, ◌∙◌}
use mathlib.Core.List.{List, [], ◌∷◌, ◌++◌, append_assoc, append-nil}
use Prim.Native.Nat.{ℕ, zero, suc, ◌+◌, ◌*◌, ◌/◌, ◌%◌, ◌^◌, ◌<◌, ◌≤◌}
use native.Mathlib.Omega.{arith}
use native.Mathlib.Numerals.{add-one}
use native.Mathlib.Nat.{pow-zero, zero-mul, suc-mul, mul-le-mul_right}
use lib.ListN.{length, get_or, take, length-append}
use lib.Seq.{length-take-le, take-suc}
use Rattle.algebra.proofs.Digits.{half_lt, bin_ext}
use Rattle.algebra.proofs.Lists.{same_parts}
use Rattle.text.specs.Lines.{line, bits, row_lines}

-- ---- a row
-- v without its i lowest bits
abbrev pub shifted : ℕ → ℕ → ℕ
shifted v zero = v
shifted v (suc i) = shifted (v / 2) i

pub shifted_more : (v i : ℕ) → shifted v (suc i) ≡ shifted v i / 2
shifted_more v zero = refl
shifted_more v (suc i) = shifted_more (v / 2) i

-- one character more is that of the next bit
pub bits_more : (v i : ℕ) → bits (suc i) v ≡ bits i v ++ ((48 + shifted v i % 2) ∷ [])
unfolding bits
bits_more v zero = refl
bits_more v (suc i) = ap (λ (l : List ℕ). (48 + v % 2) ∷ l) (bits_more (v / 2) i)

pub length-bits : (n v : ℕ) → length (bits n v) ≡ n
unfolding bits
length-bits zero v = refl
length-bits (suc n) v = ap suc (length-bits n (v / 2))

-- a row of n characters has one value below 2 ^ n
bits_inj : (n v w : ℕ) → v < 2 ^ n → w < 2 ^ n → bits n v ≡ bits n w → v ≡ w
unfolding bits
bits_inj zero v w h i e = omega (arith, pow-zero 2)
bits_inj (suc n) v w h i e =
    let p : 48 + v % 2 ≡ 48 + w % 2 = cc in
    bin_ext v w (bits_inj n (v / 2) (w / 2) (half_lt n h) (half_lt n i) (cc)) (omega arith)

pub length-line : (n v : ℕ) → length (line (bits n v)) ≡ n + 1
length-line n v = simp (length-append, length-bits)

pub line_inj : (n v w : ℕ) → v < 2 ^ n → w < 2 ^ n → line (bits n v) ≡ line (bits n w) → v ≡ w
line_inj n v w h i e =
    bits_inj n v w h i (same_parts (bits n v) (bits n w) (10 ∷ []) (10 ∷ []) (length-bits n v ∙ sym (length-bits n w)) e).0

-- ---- rows, a line for each
pub length_row_lines : (n : ℕ) (vs : List ℕ) → length (row_lines n vs) ≡ length vs * (n + 1)
unfolding row_lines
length_row_lines n [] = sym (zero-mul (n + 1))
length_row_lines n (v ∷ vs) =
    length-append (line (bits n v)) (row_lines n vs)
    ∙ omega (arith, length-line n v, length_row_lines n vs, suc-mul (length vs) (n + 1))

-- n rows and one more of n characters
pub square_long : (n : ℕ) (rows : List ℕ) → length rows ≡ n → length (row_lines n rows) + (n + 1) ≡ (n + 1) * (n + 1)
square_long n rows long = omega (arith, rw long at (length_row_lines n rows), rw (← add-one n) at (suc-mul n (n + 1)))

-- as many rows have as many characters
pub same_length : (n : ℕ) (vs ws : List ℕ) → length vs ≡ length ws → length (row_lines n vs) ≡ length (row_lines n ws)
same_length n vs ws e = cc (length_row_lines n vs, length_row_lines n ws)

pub row_lines_append : (n : ℕ) (vs ws : List ℕ) → row_lines n (vs ++ ws) ≡ row_lines n vs ++ row_lines n ws
unfolding row_lines
row_lines_append n [] ws = refl
row_lines_append n (v ∷ vs) ws = rw (row_lines_append n vs ws) (sym (append_assoc (line (bits n v)) (row_lines n vs) (row_lines n ws)))

-- a row at the end
pub row_lines_snoc : (n : ℕ) (vs : List ℕ) (v : ℕ) → row_lines n (vs ++ (v ∷ [])) ≡ row_lines n vs ++ line (bits n v)
unfolding row_lines
row_lines_snoc n vs v = row_lines_append n vs (v ∷ []) ∙ ap (λ (l : List ℕ). row_lines n vs ++ l) (append-nil (line (bits n v)))

pub row_lines_more : (n i : ℕ) (rows : List ℕ) → i < length rows
    → row_lines n (take (i + 1) rows) ≡ row_lines n (take i rows) ++ line (bits n (get_or rows i 0))
row_lines_more n i rows h = rw (add-one i, take-suc rows i 0 h) (row_lines_snoc n (take i rows) (get_or rows i 0))

-- the lines of i rows and one more are no longer than those of n
pub rows_share : (n i : ℕ) (rows : List ℕ) → i < n → n ≤ length rows
    → length (row_lines n (take i rows)) + (n + 1) ≤ length (row_lines n (take n rows))
rows_share n i rows h room =
    let p : length (take i rows) ≡ i = length-take-le i rows (omega arith) in
    let q : length (take n rows) ≡ n = length-take-le n rows room in
    let s : suc i * (n + 1) ≤ n * (n + 1) = mul-le-mul_right (n + 1) h in
    simp (length_row_lines, p, q) (omega (arith, suc-mul i (n + 1)))

-- n rows below 2 ^ n have lines of their own
pub row_lines_inj : (n : ℕ) (vs ws : List ℕ) → length vs ≡ length ws → ((i : ℕ) → i < length vs → get_or vs i 0 < 2 ^ n)
    → ((i : ℕ) → i < length ws → get_or ws i 0 < 2 ^ n) → row_lines n vs ≡ row_lines n ws → vs ≡ ws
unfolding row_lines
row_lines_inj n [] [] l f g e = refl
row_lines_inj n [] (w ∷ ws) l f g e = absurd (omega arith)
row_lines_inj n (v ∷ vs) [] l f g e = absurd (omega arith)
row_lines_inj n (v ∷ vs) (w ∷ ws) l f g e =
    let long : length (line (bits n v)) ≡ length (line (bits n w)) = length-line n v ∙ sym (length-line n w) in
    let parts = same_parts (line (bits n v)) (line (bits n w)) (row_lines n vs) (row_lines n ws) long e in
    let first : v ≡ w = line_inj n v w (f 0 (omega arith)) (g 0 (omega arith)) parts.0 in
    let others : vs ≡ ws = row_lines_inj n vs ws (omega arith) (λ i h. f (suc i) (omega arith)) (λ i h. g (suc i) (omega arith)) parts.1 in
    cc
