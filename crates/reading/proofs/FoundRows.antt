-- Which rows of bits does a reader find? Assumes nothing.
use Rattle.std.specs.Prelude.{Some, None}
use mathlib.Core.Path.{◌≡◌, refl, sym, ap, ◌∙◌, subst}
use mathlib.Core.List.{List, ◌∷◌, ◌++◌, append_assoc}
use Prim.Native.Nat.{ℕ, zero, suc, ◌+◌, ◌-◌, ◌*◌, ◌/◌, ◌%◌, ◌^◌, ◌<◌, ◌≤◌}
use native.Mathlib.Omega.{arith}
use native.Mathlib.Numerals.{add-one}
use native.Mathlib.Nat.{pow-suc}
use borrow.Author.Count.{below_more}
use lib.ListN.{length, get_or, set, drop, take, replicate, length-append, length-drop, length-set, length-replicate, get_or-append}
use lib.Seq.{drop-cons, append_snoc, get_or-drop, get_or_at, take-suc-set, length-take-le, split_at, get_or-set_same, get_or-set_other}
use lib.Pow.{pow_mono}
use Rattle.bank.specs.Limits.{ROWS}
use Rattle.algebra.proofs.Lists.{get_or_zeros, same_parts}
use Rattle.algebra.specs.Vector.{WORD}
use Rattle.text.specs.Lines.{line, bits, row_lines}
use Rattle.text.proofs.RowLines.{length-bits, same_length, row_lines_append, row_lines_snoc}
use Rattle.reading.specs.Parsing.{digit_of, digit_at}
use Rattle.reading.specs.Found.{RowAt, RowsFound, NoRows}
use Rattle.reading.proofs.Numbers.{digit_of_lem, digit_cons}

-- ---- a row
-- each character is the digit 0 or 1
bits_digit : (n v i : ℕ) → i < n → (d : ℕ) × (d < 2) × (digit_of (get_or (bits n v) i 0) ≡ Some d)
unfolding bits
bits_digit zero v i h = absurd (omega arith)
bits_digit (suc n) v zero h = (v % 2, omega arith, digit_of_lem (v % 2) (omega arith))
bits_digit (suc n) v (suc i) h = bits_digit n (v / 2) i (omega arith)

module _ (s : List ℕ) (at n v : ℕ) (rest : List ℕ) (is : drop at s ≡ line (bits n v) ++ rest) where
  flat : drop at s ≡ bits n v ++ (10 ∷ rest)
  flat = is ∙ append_snoc (bits n v) 10 rest

  pub row_in : at + n < length s
  row_in = omega (arith, sym (length-drop at s) ∙ ap length flat ∙ length-append (bits n v) (10 ∷ rest), length-bits n v)

  pub row_ends : get_or s (at + n) 0 ≡ 10
  row_ends = sym (get_or-drop at s n 0) ∙ ap (λ (l : List ℕ). get_or l n 0) flat ∙ get_or_at (bits n v) 10 rest 0 n (length-bits n v)

  pub row_digit : (i : ℕ) → i < n → (d : ℕ) × (d < 2) × (digit_at s (at + i) ≡ Some d)
  unfolding digit_at
  row_digit i h =
      let inside : i < length (bits n v) = omega (arith, length-bits n v) in
      rw (← get_or-drop at s i 0, flat, get_or-append (bits n v) (10 ∷ rest) 0 i inside) (bits_digit n v i h)

-- an iteration of the loop: one character more, before those read
pub once : (s : List ℕ) (at n i v d : ℕ) → 0 < i → i ≤ n → v < 2 ^ (n - i) → drop (at + i) s ≡ bits (n - i) v ++ drop (at + n) s
    → digit_at s (at + (i - 1)) ≡ Some d → d < 2
    → (v * 2 + d < 2 ^ (n - (i - 1))) × (drop (at + (i - 1)) s ≡ bits (n - (i - 1)) (v * 2 + d) ++ drop (at + n) s)
unfolding bits
once s at n i v d some upto low is read digit =
    let e : n - (i - 1) ≡ suc (n - i) = omega arith in
    let f : at + (i - 1) + 1 ≡ at + i = omega arith in
    let p : (v * 2 + d) % 2 ≡ d = omega arith in
    let q : (v * 2 + d) / 2 ≡ v = omega arith in
    (rw e (omega (arith, pow-suc 2 (n - i))), digit_cons s (at + (i - 1)) d read ∙ rw (f, is, e, p, q))

-- the bits read so far fit, with one more
pub row_fits : (n i v : ℕ) → n ≤ ROWS → 0 < i → i ≤ n → v < 2 ^ (n - i) → v * 2 + 1 < 2 ^ WORD
row_fits n i v h some upto low =
    let p : 2 ^ suc (n - i) ≤ 2 ^ WORD = pow_mono {i = suc (n - i)} {j = WORD} (omega arith) in
    omega (arith, pow-suc 2 (n - i))

-- the bits, and then the line's end
pub row_done : (s : List ℕ) (at n v : ℕ) → at + n < length s → get_or s (at + n) 0 ≡ 10 → drop at s ≡ bits n v ++ drop (at + n) s
    → drop at s ≡ line (bits n v) ++ drop (at + n + 1) s
row_done s at n v h e is =
    is ∙ rw (drop-cons s (at + n) 0 h, e, add-one (at + n)) (sym (append_snoc (bits n v) 10 _))

-- ---- rows, a line for each
-- before the first row
pub no_rows_yet : (s : List ℕ) (at n : ℕ) → RowsFound s at n 0 (replicate ROWS 0) at
unfolding row_lines
no_rows_yet s at n = record { room = length-replicate {A = ℕ} ROWS 0; below = λ j h. absurd (omega arith); spare = λ j h. get_or_zeros ROWS j; is = refl }

-- a place of the first n rows
pub row_place : (n i : ℕ) → n ≤ ROWS → i < length {A = ℕ} (take n (replicate ROWS 0)) → i < n
row_place n i fits h = omega (arith, h, length-take-le {A = ℕ} n (replicate ROWS 0) fits)

pub row_last : (n i : ℕ) → n ≤ ROWS → length {A = ℕ} (take n (replicate ROWS 0)) ≤ i → i ≤ length {A = ℕ} (take n (replicate ROWS 0)) → i ≡ n
row_last n i fits g h = omega (arith, g, h, length-take-le {A = ℕ} n (replicate ROWS 0) fits)

-- a row more
pub rows_more : (s : List ℕ) (at n i : ℕ) (rows : List ℕ) (p v k : ℕ) → RowsFound s at n i rows p → i < ROWS → RowAt s p n (Some (v, k))
    → RowsFound s at n (i + 1) (set rows i v) k
rows_more s at n i rows p v k so_far inside row =
    let len = so_far.room in
    record {
      room = length-set rows i v ∙ len;
      below =
          below_more (λ j. get_or (set rows i v) j 0 < 2 ^ n) i
          (λ j h. subst (λ (x : ℕ). x < 2 ^ n) (sym (get_or-set_other rows i j v 0 (λ q. omega arith))) (so_far.below j h))
          (subst (λ (x : ℕ). x < 2 ^ n) (sym (get_or-set_same rows i v 0 (omega arith))) row.0);
      spare = λ j h. get_or-set_other rows i j v 0 (λ q. omega arith) ∙ so_far.spare j (omega arith);
      is =
          so_far.is
          ∙ rw (row.1, add-one i, take-suc-set rows i v (omega arith), row_lines_snoc n (take i rows) v)
          (sym (append_assoc (row_lines n (take i rows)) (line (bits n v)) (drop k s)));
    }

-- no row where one must stand
pub rows_broken : (s : List ℕ) (at n i : ℕ) (rows : List ℕ) (p : ℕ) → RowsFound s at n i rows p → i < n → n ≤ ROWS → RowAt s p n None → NoRows s at n
unfolding row_lines
rows_broken s at n i rows p so_far inside fits none vs rest len e =
    let x = get_or vs i 0 in
    let others = row_lines n (drop (suc i) vs) in
    let parts : row_lines n vs ≡ row_lines n (take i vs) ++ (line (bits n x) ++ others) =
    ap (row_lines n) (split_at vs i 0 (omega arith)) ∙ row_lines_append n (take i vs) (x ∷ drop (suc i) vs) in
    let there : drop at s ≡ row_lines n (take i vs) ++ (line (bits n x) ++ (others ++ rest)) = e ∙ rw parts (simp append_assoc) in
    let same = length-take-le i rows (omega (arith, so_far.room)) ∙ sym (length-take-le i vs (omega arith)) in
    let long = same_length n (take i rows) (take i vs) same in
    none x (others ++ rest) (same_parts (row_lines n (take i rows)) (row_lines n (take i vs)) (drop p s) _ long (sym so_far.is ∙ there)).1
