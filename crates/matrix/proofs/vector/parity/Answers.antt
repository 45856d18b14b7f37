-- `matrix::vector::parity` meets its contract: it is the definition. Assumes nothing.
use mathlib.Core.Path.{refl}
use Rattle.algebra.specs.Vector.{parity}
use Rattle.matrix.proofs.vector.parity.Goals as goal

pub returns : goal.returns
unfolding parity
returns c = refl
