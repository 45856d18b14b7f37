-- `elimination::echelon::Echelon::of` meets its contract. The loop's invariant: the entries are those after the first j columns. Assumes nothing.
use native.Mathlib.Omega.{arith}
use Rattle.bank.specs.Limits.{ROWS}
use Rattle.algebra.specs.Elimination.{built}
use Rattle.algebra.proofs.Built.{built_count, built_next}
use Rattle.elimination.proofs.echelon.Echelon.of.Goals as goal

pub loop-j-init : goal.loop-j-init
unfolding built
loop-j-init c = c.new-entries.ensures

pub grow-requires : goal.grow-requires
grow-requires c = let few = built_count ROWS _ _ _ c.loop-j.invariant in (omega arith, omega arith)

pub loop-j-preserved : goal.loop-j-preserved
loop-j-preserved c = built_next ROWS _ _ _ _ c.loop-j.invariant c.grow.ensures
