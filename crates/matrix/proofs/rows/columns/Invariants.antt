-- `matrix::rows::columns` meets its contract. The loop's invariant: the first j columns are in place. Assumes nothing.
use mathlib.Core.Path.{◌≡◌}
use Rattle.bank.specs.Limits.{ROWS}
use Rattle.matrix.proofs.Filled.{filled}
use Rattle.algebra.specs.Matrix.{columns}
use Rattle.matrix.proofs.rows.columns.Given as goal

abbrev pub invariant-loop-j : goal.invariant-loop-j
invariant-loop-j l = l.cols ≡ filled ROWS (columns l.n l.rows) l.j
