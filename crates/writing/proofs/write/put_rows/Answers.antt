-- `writing::write::put_rows` meets its contract: after i iterations the lines of the first i rows stand there. Assumes nothing.
use mathlib.Core.List.{List}
use Prim.Native.Nat.{ℕ, ◌+◌, ◌<◌, ◌≤◌}
use native.Mathlib.Omega.{arith}
use lib.ListN.{length, take}
use lib.Seq.{take-length}
use Rattle.text.specs.Lines.{row_lines}
use Rattle.text.proofs.RowLines.{rows_share, row_lines_more}
use Rattle.writing.proofs.Put.{wrote_none, wrote_more}
use Rattle.writing.proofs.write.put_rows.Goals as goal

-- behind the lines of the first i rows there is room for one more
share : (rows : List ℕ) (i : ℕ) → i < length rows
    → length (row_lines (length rows) (take i rows)) + (length rows + 1) ≤ length (row_lines (length rows) rows)
share rows i h = rw (take-length rows) at (rows_share (length rows) i rows h (omega arith))

pub loop-row-init : goal.loop-row-init
unfolding row_lines
loop-row-init c = wrote_none c.args.room.now c.args.at

pub put_row-p-requires : goal.put_row-p-requires
put_row-p-requires c =
    let l = c.loop-row in
    omega (arith, share c.args.rows.now l.row-index (omega arith), l.invariant.place)

pub loop-row-preserved : goal.loop-row-preserved
loop-row-preserved c =
    let rows = c.args.rows.now in
    let l = c.loop-row in
    let fits = share rows l.row-index (omega arith) in
    rw (row_lines_more (length rows) l.row-index rows (omega arith)) (wrote_more l.invariant c.put_row-p.ensures (omega arith))
