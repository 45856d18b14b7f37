-- `matrix::vector::unless_zero` meets its contract, by its two cases. Assumes nothing.
use mathlib.Core.Path.{sym}
use borrow.Author.Rules.{rules}
use Rattle.algebra.proofs.Digits.{unless_no}
use Rattle.algebra.proofs.Loops.{unless_not}
use Rattle.matrix.proofs.vector.unless_zero.Goals as goal

pub returns-then-d-eq0 : goal.returns-then-d-eq0
returns-then-d-eq0 c = sym (unless_no c.args.d c.args.v (search rules))

pub returns-else-d-eq0 : goal.returns-else-d-eq0
returns-else-d-eq0 c = unless_not c.args.d c.args.v (search rules)
