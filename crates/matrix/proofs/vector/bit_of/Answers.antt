-- `matrix::vector::bit_of` meets its contract: a bit past the top is not set. Assumes nothing.
use mathlib.Core.Path.{refl, sym}
use borrow.Author.Rules.{rules}
use Rattle.algebra.specs.Vector.{WORD, bit}
use Rattle.algebra.proofs.Digits.{bit_above}
use Rattle.matrix.proofs.vector.bit_of.Goals as goal

pub returns-then-q-lt-WORD : goal.returns-then-q-lt-WORD
unfolding bit
returns-then-q-lt-WORD c = refl

pub returns-else-q-lt-WORD : goal.returns-else-q-lt-WORD
returns-else-q-lt-WORD c = sym (bit_above c.args.v WORD c.args.q (search rules) (search rules))
