-- `reading::rows::rows_at` meets its contract: the lines passed are those of the rows so far, and where one is missing no rows stand there.
-- Assumes nothing.
use mathlib.Core.List.{◌++◌}
use lib.ListN.{drop, replicate}
use Rattle.bank.specs.Limits.{ROWS}
use Rattle.reading.specs.Found.{RowsFound}
use Rattle.reading.proofs.rows.rows_at.Given as goal

-- the places beyond the n rows are as they were
abbrev pub invariant-loop-row : goal.invariant-loop-row
invariant-loop-row l = RowsFound l.text l.at l.n l.row-index (l.row-items ++ drop l.n (replicate ROWS 0)) l.p
