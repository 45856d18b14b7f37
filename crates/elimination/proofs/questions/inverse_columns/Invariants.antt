-- `elimination::questions::inverse_columns` meets its contract. The loop's invariant: the first j columns are in place; column j is the source of 2^j.
-- Assumes nothing.
use mathlib.Core.Path.{◌≡◌}
use lib.ListN.{length}
use Rattle.bank.specs.Limits.{ROWS}
use Rattle.algebra.specs.Matrix.{columns, inverse}
use Rattle.matrix.proofs.Filled.{filled}
use Rattle.elimination.proofs.questions.inverse_columns.Given as goal

abbrev pub invariant-loop-j : goal.invariant-loop-j
invariant-loop-j l = l.out ≡ filled ROWS (columns (length l.rows) (inverse (length l.rows) l.rows)) l.j
