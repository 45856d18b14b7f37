-- `writing::write::put_rows` meets its contract: after i iterations the lines of the first i rows stand there. Assumes nothing.
use lib.ListN.{length, take}
use Rattle.text.specs.Lines.{row_lines}
use Rattle.writing.specs.Written.{Wrote}
use Rattle.writing.proofs.write.put_rows.Given as goal

abbrev pub invariant-loop-row : goal.invariant-loop-row
invariant-loop-row l = Wrote l.initial.room l.at (row_lines (length l.rows) (take l.row-index l.rows)) l.room l.p
