-- Why do at most one matrix and complement give a list? Assumes nothing.
use mathlib.Core.Path.{◌∙◌, ◌≡◌, ap, ap₂, subst, sym}
use mathlib.Core.Bool.{Bool, false, not, true}
use mathlib.Core.List.{List}
use Prim.Native.Nat.{◌%◌, ◌<◌, ◌^◌, ℕ}
use native.Mathlib.Nat.{mod-eq_of_lt, mod-lt, zero-add}
use native.Mathlib.Omega.{arith}
use borrow.Author.Tests.{eq-eqb, eqb-true, lt-leb, not-false, not-true}
use lib.Bits.{bit_xor, xor_comm, xor_lt}
use lib.Dec.{eqb, leb}
use lib.ListN.{get_or, length}
use lib.Pow.{pow-lt, pow_pos}
use lib.Seq.{ext_get_or}
use Rattle.algebra.specs.Matrix.{applied, columns, target}
use Rattle.algebra.specs.Search.{any_below}
use Rattle.algebra.specs.Vector.{comb}
use Rattle.algebra.proofs.Columns.{apply_transpose, columns_at, columns-length, columns-lt, columns_twice}
use Rattle.algebra.proofs.Digits.{xor_cancel_r}
use Rattle.algebra.proofs.Linear.{apply_lt, apply_zero, listed_lt}
use Rattle.algebra.proofs.Listed.{listed_at, listed_length}
use Rattle.algebra.proofs.Search.{none_elim, none_intro}
use Rattle.lists.specs.Targets.{gives, stray_entry}
use Rattle.lists.specs.Given.{OfBits}
use Rattle.lists.specs.Apart.{base_of, column_of, columns_of}

-- ---- what it is to give a list, entry by entry
module _ (rows : List ℕ) (c : ℕ) (list : List ℕ) where
  -- entry x is another than the target of x
  abbrev misses : ℕ → Bool
  misses x = not (eqb (get_or list x 0) (target rows c x))

  pub gives_at : gives rows c list ≡ true → (x : ℕ) → x < length list → get_or list x 0 ≡ target rows c x
  unfolding gives
  gives_at e x h =
      eqb-true (get_or list x 0) (target rows c x)
      (not-false (eqb (get_or list x 0) (target rows c x)) (none_elim misses (length list) x (not-true (any_below misses (length list)) e) h))

  pub gives_intro : ((x : ℕ) → x < length list → get_or list x 0 ≡ target rows c x) → gives rows c list ≡ true
  unfolding gives
  gives_intro f = ap not (none_intro misses (length list) (λ x h. ap not (eq-eqb (get_or list x 0) (target rows c x) (f x h))))

-- ---- the matrix and complement that the entries 0 and 2 ^ j ask for
module _ (list : List ℕ) (n : ℕ) where
  pub column_lt : (j : ℕ) → column_of list n j < 2 ^ n
  unfolding column_of
  column_lt j = mod-lt (bit_xor (get_or list (2 ^ j) 0) (get_or list 0 0)) (pow_pos n)

  pub columns_of_length : length (columns_of list n) ≡ n
  columns_of_length = listed_length (column_of list n) n 0

  pub columns_of_at : (j : ℕ) → j < n → get_or (columns_of list n) j 0 ≡ column_of list n j
  columns_of_at j h = listed_at 0 (column_of list n) n 0 j h ∙ ap (column_of list n) (zero-add j)

  pub columns_fit : OfBits n (columns n (columns_of list n)) (base_of list n)
  columns_fit = record {
    long = columns-length n (columns_of list n);
    below = λ i h. columns-lt n (columns_of list n) i (omega (arith, columns_of_length));
    complement = mod-lt (get_or list 0 0) (pow_pos n);
  }

  -- where they send x: the sum of entry 0 and the columns that x picks
  pub target_carried : (x : ℕ) → target (columns n (columns_of list n)) (base_of list n) x ≡ bit_xor (base_of list n) (comb (columns_of list n) x)
  unfolding target
  target_carried x =
      xor_comm (applied (columns n (columns_of list n)) x) (base_of list n)
      ∙ ap (bit_xor (base_of list n)) (apply_transpose (columns_of list n) n x (listed_lt (column_of list n) n n 0 x (λ j h. column_lt j)))

-- ---- a matrix and complement that give a list of 2 ^ n entries are those
module _ (list : List ℕ) (n : ℕ) (full : length list ≡ 2 ^ n) (rows : List ℕ) (c : ℕ) (f : OfBits n rows c) (g : gives rows c list ≡ true) where
  given_at : (x : ℕ) → x < 2 ^ n → get_or list x 0 ≡ target rows c x
  given_at x h = gives_at rows c list g x (omega arith)

  applied-lt : (x : ℕ) → applied rows x < 2 ^ n
  applied-lt x = subst (λ (k : ℕ). applied rows x < 2 ^ k) f.long (apply_lt rows x)

  -- entry 0 is c
  first : get_or list 0 0 ≡ c
  unfolding target
  first = given_at 0 (pow_pos n) ∙ ap (λ (k : ℕ). bit_xor k c) (apply_zero rows)

  pub only_complement : c ≡ base_of list n
  only_complement = sym (ap (λ (k : ℕ). k % 2 ^ n) first ∙ mod-eq_of_lt f.complement)

  -- entry 2 ^ j, with c taken out, is column j
  column_is : (j : ℕ) → j < n → column_of list n j ≡ applied rows (2 ^ j)
  unfolding column_of target
  column_is j h =
      ap (λ (k : ℕ). k % 2 ^ n) (ap₂ bit_xor (given_at (2 ^ j) (pow-lt h)) first ∙ xor_cancel_r (applied rows (2 ^ j)) c)
      ∙ mod-eq_of_lt (applied-lt (2 ^ j))

  pub only_columns : columns n rows ≡ columns_of list n
  only_columns =
      let long = columns-length n rows in
      ext_get_or 0 (columns n rows) (columns_of list n) (long ∙ sym (columns_of_length list n))
      (λ j h. let hj : j < n = omega arith in columns_at n rows j hj ∙ sym (columns_of_at list n j hj ∙ column_is j hj))

  pub only_rows : rows ≡ columns n (columns_of list n)
  only_rows = sym (columns_twice n rows f.long f.below) ∙ ap (columns n) only_columns

  entry_lt : (x : ℕ) → x < length list → get_or list x 0 < length list
  unfolding target
  entry_lt x h = rw (full, gives_at rows c list g x h) (xor_lt n (applied rows x) c (applied-lt x) f.complement)

  pub no_stray : stray_entry list ≡ false
  unfolding stray_entry
  no_stray = none_intro (λ x. leb (length list) (get_or list x 0)) (length list) (λ x h. lt-leb (length list) (get_or list x 0) (entry_lt x h))
