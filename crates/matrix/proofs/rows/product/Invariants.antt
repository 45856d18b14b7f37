-- `matrix::rows::product` meets its contract. The loop's invariant: the first i rows are in place. Assumes nothing.
use mathlib.Core.Path.{◌≡◌}
use Rattle.bank.specs.Limits.{ROWS}
use Rattle.matrix.proofs.Filled.{filled}
use Rattle.algebra.specs.Matrix.{after}
use Rattle.matrix.proofs.rows.product.Given as goal

abbrev pub invariant-loop-i : goal.invariant-loop-i
invariant-loop-i l = l.rows ≡ filled ROWS (after l.b l.a) l.i
