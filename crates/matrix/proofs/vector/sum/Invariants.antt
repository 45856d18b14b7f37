-- `matrix::vector::sum` meets its contract. The loop's invariant: the total, and what `left` picks of the vectors ahead, is the sum. Assumes nothing.
use mathlib.Core.Path.{◌≡◌}
use lib.Bits.{bit_xor}
use lib.ListN.{drop}
use Rattle.algebra.specs.Vector.{comb}
use Rattle.matrix.proofs.vector.sum.Given as goal

abbrev pub invariant-loop-vector : goal.invariant-loop-vector
invariant-loop-vector l = bit_xor l.total (comb (drop l.vector-index l.vectors) l.left) ≡ comb l.vectors l.s
