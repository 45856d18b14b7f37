-- What is written for an answer, and how long is it? Assumes nothing.
use mathlib.Core.Path.{◌≡◌}
use mathlib.Core.List.{List, [], ◌++◌}
use Prim.Native.Nat.{ℕ, ◌+◌, ◌*◌, ◌<◌, ◌≤◌}
use native.Mathlib.Omega.{arith}
use borrow.Author.Tests.{le-leb, lt-leb}
use lib.ListN.{length, take, length-append}
use lib.Seq.{length-take-le}
use Rattle.bank.specs.Limits.{ROWS}
use Rattle.bank.proofs.Limits.{square_small}
use Rattle.text.specs.Lines.{line, decimal, bits, row_lines}
use Rattle.text.proofs.Decimals.{decimal_short, length_word_line}
use Rattle.text.proofs.RowLines.{length-bits, square_long}
use Rattle.lists.specs.declared.Recognised.{Recognised}
use Rattle.entries.specs.FoundText.{found_text}

module _ (found : Recognised) where
  -- n on its line, the lines of the rows, and both with c's
  abbrev pub first_part : List ℕ
  first_part = line (decimal found.n)

  abbrev pub rows_part : List ℕ
  rows_part = row_lines found.n (take found.n found.rows)

  abbrev pub all_parts : List ℕ
  all_parts = first_part ++ (rows_part ++ line (bits found.n found.complement))

  pub parts_long : length all_parts ≡ length first_part + (length rows_part + (found.n + 1))
  parts_long = simp (length-append, length-bits)

  pub found_none : ROWS < found.n → found_text found ≡ []
  unfolding found_text
  found_none h = rw (lt-leb found.n ROWS h)

  module _ (few : found.n ≤ ROWS) where
    pub found_parts : found_text found ≡ all_parts
    unfolding found_text
    found_parts = rw (le-leb found.n ROWS few)

    -- two digits and LF, and then n + 1 lines of n + 1 bytes
    pub parts_small : length found.rows ≡ ROWS → length all_parts ≤ 3 + (ROWS + 1) * (ROWS + 1)
    parts_small room =
        let n = found.n in
        let digits = decimal_short 1 n (omega arith) (omega arith) in
        let square = square_long n (take n found.rows) (length-take-le n found.rows (omega arith)) in
        omega (arith, parts_long, length_word_line [] (decimal n), square_small n few)
