-- `matrix::carry::flip` meets its contract: what is summed up, and what the columns ahead still change, is the whole change. Assumes nothing.
use mathlib.Core.Path.{◌≡◌}
use lib.Bits.{bit_xor}
use lib.ListN.{drop}
use Rattle.algebra.specs.Carry.{flips}
use Rattle.matrix.proofs.carry.flip.Given as goal

abbrev pub invariant-loop-column : goal.invariant-loop-column
invariant-loop-column l = bit_xor l.sum (flips (drop l.column-index l.columns) l.left) ≡ flips l.columns l.k
