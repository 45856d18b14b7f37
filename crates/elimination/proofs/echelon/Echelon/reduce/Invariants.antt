-- `elimination::echelon::Echelon::reduce` meets its contract. The loop's invariant: u and s are what is left and what was used after i entries. Assumes nothing.
use mathlib.Core.Path.{◌≡◌}
use lib.Bits.{bit_xor}
use Rattle.algebra.specs.Elimination.{rest, used}
use Rattle.elimination.proofs.echelon.Echelon.reduce.Given as goal

abbrev pub invariant-loop-i : goal.invariant-loop-i
invariant-loop-i l = let e = l.self in (l.u ≡ rest e.vectors e.pivots l.i l.v) × (l.s ≡ bit_xor l.t (used e.vectors e.pivots e.tags l.i l.v))
