-- `entries::answer::write_found` meets its contract: n, the rows and c, one after the other, and room for them. Assumes nothing.
use mathlib.Core.Path.{◌≡◌, sym}
use mathlib.Core.List.{List, []}
use Prim.Native.Nat.{ℕ, ◌+◌, ◌*◌, ◌≤◌}
use native.Mathlib.Omega.{arith}
use borrow.Author.Rules.{rules}
use lib.ListN.{length, take}
use lib.Seq.{length-take-le}
use Rattle.bank.specs.Limits.{ROWS}
use Rattle.lists.specs.declared.Recognised.{Recognised}
use Rattle.writing.proofs.Put.{wrote_none, wrote_three, wrote_fits, wrote_as, same_size}
use Rattle.writing.proofs.Refused.{line-written}
use Rattle.entries.proofs.Written.{first_part, rows_part, all_parts, parts_long, parts_small, found_none, found_parts}
use Rattle.entries.proofs.answer.write_found.Goals as goal

-- the rows that are meant are n
as_long : (n : ℕ) (rows : List ℕ) → n ≤ ROWS → length rows ≡ ROWS → length (take n rows) ≡ n
as_long n rows few full = length-take-le n rows (omega arith)

-- the three parts, and room for them
module _ (found : Recognised) (room : List ℕ) (few : found.n ≤ ROWS) (rows : length found.rows ≡ ROWS) (long : length room ≡ 3 + (ROWS + 1) * (ROWS + 1)) where
  fits : length (all_parts found) ≤ length room
  fits = omega (arith, parts_small found few rows)

  roomy : length (first_part found) + (length (rows_part found) + (found.n + 1)) ≤ length room
  roomy = omega (arith, fits, parts_long found)

pub returns-then-n-gt-ROWS : goal.returns-then-n-gt-ROWS
returns-then-n-gt-ROWS c =
    let a = c.args in
    line-written [] _ a.room.now a.room.now 0 (sym (found_none a.found (omega arith))) (omega arith) (wrote_none a.room.now 0)

pub put_line-i-requires : goal.put_line-i-requires
put_line-i-requires c = let a = c.args in omega (arith, roomy a.found a.room.now (omega arith) (search rules) (search rules), same_size [] c.from.ensures)

pub put_rows-j-requires : goal.put_rows-j-requires
put_rows-j-requires c =
    let a = c.args in
    let first = wrote_as [] a.found.n c.put_line-i.ensures c.from.ensures in
    rw (as_long a.found.n a.found.rows (omega arith) (search rules))
    (omega arith, wrote_fits first (length (rows_part a.found)) (omega (arith, roomy a.found a.room.now (omega arith) (search rules) (search rules))))

pub put_row-requires : goal.put_row-requires
put_row-requires c =
    let a = c.args in
    let first = wrote_as [] a.found.n c.put_line-i.ensures c.from.ensures in
    let last = a.found.n + 1 in
    let all = roomy a.found a.room.now (omega arith) (search rules) (search rules) in
    wrote_fits (rw (as_long a.found.n a.found.rows (omega arith) (search rules)) at c.put_rows-j.ensures) last (wrote_fits first (length (rows_part a.found) + last) (omega (arith, all)))

pub returns : goal.returns
returns c =
    let a = c.args in
    let first = wrote_as [] a.found.n c.put_line-i.ensures c.from.ensures in
    let few : a.found.n ≤ ROWS = omega arith in
    let all = roomy a.found a.room.now few (search rules) (search rules) in
    line-written _ _ _ _ _ (sym (found_parts a.found few)) (fits a.found a.room.now few (search rules) (search rules))
    (wrote_three first (rw (as_long a.found.n a.found.rows few (search rules)) at c.put_rows-j.ensures) c.put_row.ensures (omega (arith, all)))
