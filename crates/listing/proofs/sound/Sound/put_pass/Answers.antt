-- `listing::sound::Sound::put_pass` meets its contract: its number, its rows and its complement, one after the other. Assumes nothing.
use mathlib.Core.Path.{◌≡◌}
use mathlib.Core.List.{List, ◌++◌}
use Prim.Native.Nat.{ℕ, ◌+◌, ◌*◌, ◌≤◌}
use native.Mathlib.Omega.{arith}
use borrow.Author.Rules.{rules}
use lib.ListN.{length, take, drop}
use lib.Seq.{length-take-le}
use Rattle.bank.specs.Limits.{ROWS}
use Rattle.text.specs.Lines.{line, decimal, row_lines}
use Rattle.listing.specs.Listing.{pass_word, pass_lines}
use Rattle.listing.specs.Passes.{pass_at_lines}
use Rattle.listing.specs.declared.sound.Sound.{Sound}
use Rattle.writing.specs.Written.{Wrote}
use Rattle.writing.proofs.Put.{wrote_three, wrote_fits}
use Rattle.listing.proofs.Passes.{pass_parts, pass_parts_long}
use Rattle.listing.proofs.sound.Sound.put_pass.Goals as goal

-- the rows are n, and there is room for the three parts
module _ (s : Sound) (at p : ℕ) (room rows : List ℕ) (fits : at + length (pass_at_lines s.plan p) ≤ length room)
    (is : rows ≡ take ROWS (drop (p * ROWS) s.plan.rows)) where
  abbrev n : ℕ
  n = s.plan.geometry.n

  roomy : at + (length (line (pass_word ++ decimal p)) + (length (row_lines n (take n rows)) + (n + 1))) ≤ length room
  roomy = omega (arith, pass_parts_long s.plan p rows s.rows is)

  after_number : {one : List ℕ} {i : ℕ} → Wrote room at (line (pass_word ++ decimal p)) one i
      → i + (length (row_lines n (take n rows)) + (n + 1)) ≤ length one
  after_number first = wrote_fits first _ roomy

pub put_line-i-requires : goal.put_line-i-requires
put_line-i-requires c =
    let a = c.args in
    omega (arith, roomy a.self a.at a.p _ _ c.requires.1 c.pass_rows-rows.ensures)

pub put_rows-j-requires : goal.put_rows-j-requires
put_rows-j-requires c =
    let a = c.args in
    let s = a.self in
    let long = length-take-le s.plan.geometry.n c.pass_rows-rows.result (search rules) in
    rw long (s.rows, omega (arith, after_number s a.at a.p _ _ c.requires.1 c.pass_rows-rows.ensures c.put_line-i.ensures))

pub put_row-requires : goal.put_row-requires
put_row-requires c =
    let a = c.args in
    let s = a.self in
    let long = length-take-le s.plan.geometry.n c.pass_rows-rows.result (search rules) in
    wrote_fits (rw long at c.put_rows-j.ensures) (s.plan.geometry.n + 1)
    (after_number s a.at a.p _ _ c.requires.1 c.pass_rows-rows.ensures c.put_line-i.ensures)

pub returns : goal.returns
unfolding pass_lines
returns c =
    let a = c.args in
    let s = a.self in
    let long = length-take-le s.plan.geometry.n c.pass_rows-rows.result (search rules) in
    rw (pass_parts s.plan a.p c.pass_rows-rows.result s.rows c.pass_rows-rows.ensures)
    (wrote_three c.put_line-i.ensures (rw long at c.put_rows-j.ensures) c.put_row.ensures
    (omega (arith, roomy s a.at a.p _ _ c.requires.1 c.pass_rows-rows.ensures)))
