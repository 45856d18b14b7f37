-- `matrix::rows::identity` meets its contract. The loop's invariant: the first i rows are in place. Assumes nothing.
use mathlib.Core.Path.{◌≡◌}
use Rattle.bank.specs.Limits.{ROWS}
use Rattle.matrix.proofs.Filled.{filled}
use Rattle.algebra.specs.Matrix.{identity}
use Rattle.matrix.proofs.rows.identity.Given as goal

abbrev pub invariant-loop-i : goal.invariant-loop-i
invariant-loop-i l = l.rows ≡ filled ROWS (identity l.n) l.i
