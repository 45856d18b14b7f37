-- Which order does a text give, if any? Assumes nothing.
use Rattle.std.specs.Prelude.{Option, Some, None}
use mathlib.Core.Path.{◌≡◌, refl, subst}
use mathlib.Core.Bool.{Bool, true, false}
use mathlib.Core.Logic.{◌⊎◌, inl, inr, ⊎_elim}
use mathlib.Core.List.{List, ◌++◌}
use Prim.Native.Nat.{ℕ, zero, suc, ◌+◌, ◌-◌, ◌*◌, ◌^◌, ◌<◌, ◌≤◌}
use native.Mathlib.Omega.{arith}
use native.Mathlib.Numerals.{add-one}
use lib.ListN.{length, get_or, set, drop, take, replicate}
use Rattle.bank.specs.Limits.{ROWS}
use Rattle.bank.specs.Geometry.{in_limits}
use Rattle.bank.specs.declared.Geometry.{Geometry}
use Rattle.bank.proofs.Limits.{limits→allowed}
use Rattle.algebra.specs.Matrix.{kernel}
use Rattle.algebra.proofs.Search.{le_or_lt, same_or}
use Rattle.order.specs.declared.Order.{Order}
use Rattle.text.specs.Lines.{bits}
use Rattle.reading.specs.Parsing.{digit_at, first_line_at}
use Rattle.reading.specs.Reading.{Reads, no_order}
use Rattle.reading.specs.Found.{RowAt, RowsFound, NoRows, RestAt, RestFound}
use Rattle.reading.proofs.FoundRows.{row_in, row_ends, row_digit, once, row_done, no_rows_yet, rows_more, rows_broken}
use Rattle.reading.proofs.Rest.{rest_found, no_rows, no_complement, more_follows}
use Rattle.reading.proofs.Joined.{reads_no_first_line, reads_outside, reads_no_rest, reads_singular, reads_taken}

-- ---- a row
module _ (s : List ℕ) (at n : ℕ) where
  -- the characters from place i on are bits
  abbrev BitsFrom : ℕ → Type 0
  BitsFrom i = (v : ℕ) × (v < 2 ^ (n - i)) × (drop (at + i) s ≡ bits (n - i) v ++ drop (at + n) s)

  -- one of the n characters is no bit
  abbrev Stray : Type 0
  Stray = (i : ℕ) × (i < n) × ((d : ℕ) → d < 2 → digit_at s (at + i) ≡ Some d → ⊥)

  -- a row, or that none stands there
  abbrev SomeRow : Type 0
  SomeRow = (r : Option (ℕ × ℕ)) × RowAt s at n r

  bits_once : (i : ℕ) → 0 < i → i ≤ n → BitsFrom i ⊎ Stray → BitsFrom (i - 1) ⊎ Stray
  bits_once i some upto (inr stray) = inr stray
  bits_once i some upto (inl (v, low, is)) = go (digit_at s (at + (i - 1))) refl
    where
      go : (r : Option ℕ) → digit_at s (at + (i - 1)) ≡ r → BitsFrom (i - 1) ⊎ Stray
      go None e = inr (i - 1, omega arith, λ d l f. cc)
      go (Some d) e =
          ⊎_elim
          (λ (l : 2 ≤ d). inr (i - 1, omega arith, λ c k f. let g : c ≡ d = cc in omega arith))
          (λ (l : d < 2). let o = once s at n i v d some upto low is e l in inl (v * 2 + d, o.0, o.1))
          (le_or_lt 2 d)

  bits_from : (k i : ℕ) → i + k ≡ n → BitsFrom i ⊎ Stray
  unfolding bits
  bits_from zero i e =
      let none : n - i ≡ 0 = omega arith in
      let last : i ≡ n = omega arith in
      inl (0, rw none (omega arith), rw (none, last))
  bits_from (suc k) i e =
      let before : suc i - 1 ≡ i = omega arith in
      subst (λ (j : ℕ). BitsFrom j ⊎ Stray) before (bits_once (suc i) (omega arith) (omega arith) (bits_from k (suc i) (omega arith)))

  by_bits : at + n < length s → get_or s (at + n) 0 ≡ 10 → BitsFrom 0 ⊎ Stray → SomeRow
  by_bits h e (inl (v, low, is)) =
      let whole : n - 0 ≡ n = omega arith in
      let start : at + 0 ≡ at = omega arith in
      (Some (v, at + n + 1), (rw whole at low, row_done s at n v h e (rw (whole, start) at is)))
  by_bits h e (inr (i, l, stray)) = (None, λ v rest is. let r = row_digit s at n v rest is i l in stray r.0 r.1 r.2)

  by_end : at + n < length s → (get_or s (at + n) 0 ≡ 10) ⊎ (get_or s (at + n) 0 ≡ 10 → ⊥) → SomeRow
  by_end h (inl e) = by_bits h e (bits_from n 0 (omega arith))
  by_end h (inr f) = (None, λ v rest is. f (row_ends s at n v rest is))

  some_row : SomeRow
  some_row =
      ⊎_elim
      (λ (h : length s ≤ at + n). (None, λ v rest is. omega (arith, row_in s at n v rest is)))
      (λ (h : at + n < length s). by_end h (same_or (get_or s (at + n) 0) 10))
      (le_or_lt (length s) (at + n))

-- ---- rows
module _ (s : List ℕ) (at n : ℕ) where
  -- i rows, or that no n rows stand there
  abbrev SomeRows : ℕ → Type 0
  SomeRows i = ((rows : List ℕ) × (k : ℕ) × RowsFound s at n i rows k) ⊎ NoRows s at n

  module _ (fits : n ≤ ROWS) where
    by_row : (i : ℕ) → i < n → (rows : List ℕ) (p : ℕ) → RowsFound s at n i rows p → SomeRow s p n → SomeRows (suc i)
    by_row i h rows p found (None, none) = inr (rows_broken s at n i rows p found h fits none)
    by_row i h rows p found (Some (v, k), row) = inl (set rows i v, k, rw (add-one i) at (rows_more s at n i rows p v k found (omega arith) row))

    rows_once : (i : ℕ) → i < n → SomeRows i → SomeRows (suc i)
    rows_once i h (inl (rows, p, found)) = by_row i h rows p found (some_row s p n)
    rows_once i h (inr none) = inr none

    some_rows : (i : ℕ) → i ≤ n → SomeRows i
    some_rows zero h = inl (replicate ROWS 0, at, no_rows_yet s at n)
    some_rows (suc i) h = rows_once i h (some_rows i (omega arith))

-- ---- what follows the first line
module _ (s : List ℕ) (at : ℕ) (g : Geometry) where
  -- an order's rest, or that none stands there
  abbrev SomeRest : Type 0
  SomeRest = (r : Option Order) × RestAt s at g r

  module _ (fits : g.n ≤ ROWS) where
    by_last : (rows : List ℕ) (e : ℕ) → RowsFound s at g.n g.n rows e → SomeRow s e g.n → SomeRest
    by_last rows e found (None, none) = (None, no_complement s at g fits rows e found none)
    by_last rows e found (Some (c, k), row) =
        ⊎_elim
        (λ (h : length s ≤ k). (Some (record { geometry = g; rows = rows; complement = c }), rest_found s at g rows e c k found row h))
        (λ (h : k < length s). (None, more_follows s at g fits rows e found c k row h))
        (le_or_lt (length s) k)

    by_found : SomeRows s at g.n g.n → SomeRest
    by_found (inl (rows, e, found)) = by_last rows e found (some_row s e g.n)
    by_found (inr none) = (None, no_rows s at g fits none)

    some_rest : SomeRest
    some_rest = by_found (some_rows s at g.n fits g.n (omega arith))

-- ---- the whole text
module _ (text : List ℕ) where
  abbrev SomeReading : Type 0
  SomeReading = (k : ℕ) × (order : Order) × (z : ℕ) × Reads text k order z

  module _ (g : Geometry) (e : ℕ) (is : first_line_at text ≡ Some (g, e)) where
    module _ (inside : in_limits g ≡ true) where
      by_matrix : (order : Order) → RestFound text e g order → SomeReading
      by_matrix order r =
          let z = kernel g.n (take g.n order.rows) in
          ⊎_elim
          (λ (none : z ≡ 0). (0, order, 0, reads_taken text g e is inside order r none))
          (λ (some : z ≡ 0 → ⊥). (3, no_order, z, reads_singular text g e is inside order r z refl some))
          (same_or z 0)

      by_rest : SomeRest text e g → SomeReading
      by_rest (Some order, r) = by_matrix order r
      by_rest (None, none) = (8, no_order, 0, reads_no_rest text g e is inside none)

    by_limits : (t : Bool) → in_limits g ≡ t → SomeReading
    by_limits false out = (1, no_order, 0, reads_outside text g e is out)
    by_limits true inside = by_rest inside (some_rest text e g (limits→allowed g inside).n_high)

  pub by_line : (l : Option (Geometry × ℕ)) → first_line_at text ≡ l → SomeReading
  by_line None is = (8, no_order, 0, reads_no_first_line text is)
  by_line (Some (g, e)) is = by_limits g e is (in_limits g) refl
