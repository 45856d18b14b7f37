-- `matrix::rows::apply` meets its contract. The loop's invariant: y is what the rows that it has passed, the last ones, send x to. Assumes nothing.
use mathlib.Core.Path.{◌≡◌}
use mathlib.Core.List.{List, ◌++◌}
use Prim.Native.Nat.{ℕ}
use Rattle.algebra.specs.Matrix.{applied}
use Rattle.matrix.proofs.rows.apply.Given as goal

abbrev pub invariant-loop-row : goal.invariant-loop-row
invariant-loop-row l = (passed : List ℕ) × (l.rows ≡ l.row-iterator.iter.rest.now ++ passed) × (l.y ≡ applied passed l.x)
