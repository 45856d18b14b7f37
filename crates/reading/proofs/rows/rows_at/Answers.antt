-- `reading::rows::rows_at` meets its contract: the lines passed are those of the rows so far, and where one is missing no rows stand there.
-- Assumes nothing.
use mathlib.Core.Path.{◌≡◌, sym, subst}
use mathlib.Core.List.{List, ◌++◌}
use Prim.Native.Nat.{ℕ, ◌+◌}
use native.Mathlib.Omega.{arith}
use lib.ListN.{drop, replicate, take-append-drop}
use lib.Seq.{set-append_left}
use Rattle.bank.specs.Limits.{ROWS}
use Rattle.reading.specs.Found.{RowsFound}
use Rattle.reading.proofs.FoundRows.{no_rows_yet, row_place, row_last, rows_more, rows_broken}
use Rattle.reading.proofs.rows.rows_at.Goals as goal

pub loop-row-init : goal.loop-row-init
loop-row-init c =
    let a = c.args in
    subst (λ (rows : List ℕ). RowsFound a.text.now a.at a.n 0 rows a.at) (sym (take-append-drop a.n (replicate ROWS 0))) (no_rows_yet a.text.now a.at a.n)

pub returns-in_err-row : goal.returns-in_err-row
returns-in_err-row c =
    let a = c.args in
    let l = c.loop-row in
    rw c.from_residual.ensures
    (rows_broken a.text.now a.at a.n l.row-index (l.row-items ++ drop a.n (replicate ROWS 0)) l.p l.invariant (row_place a.n l.row-index c.requires c.loop-row-test.true) c.requires c.in_err-row.ensures)

pub loop-row-preserved : goal.loop-row-preserved
loop-row-preserved c =
    let a = c.args in
    let l = c.loop-row in
    let r = c.in_ok-row in
    let inside = row_place a.n l.row-index c.requires c.loop-row-test.true in
    subst (λ (rows : List ℕ). RowsFound a.text.now a.at a.n (l.row-index + 1) rows r.field-0-1)
    (set-append_left l.row-items (drop a.n (replicate ROWS 0)) l.row-index r.field-0-0 (omega arith))
    (rows_more a.text.now a.at a.n l.row-index (l.row-items ++ drop a.n (replicate ROWS 0)) l.p r.field-0-0 r.field-0-1 l.invariant (omega (arith, inside)) r.ensures)

pub returns : goal.returns
returns c =
    let a = c.args in
    let l = c.loop-row in
    let e : l.row-index ≡ a.n = row_last a.n l.row-index c.requires c.loop-row-test.false c.loop-row.auto.row-index-end in
    rw e at l.invariant
