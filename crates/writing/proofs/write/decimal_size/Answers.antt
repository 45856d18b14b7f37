-- `writing::write::decimal_size` meets its contract: each iteration takes one digit away. Assumes nothing.
use mathlib.Core.Path.{ap}
use native.Mathlib.Omega.{arith}
use lib.ListN.{length}
use Rattle.text.proofs.Decimals.{decimal_one, decimal-length, decimal_longer}
use Rattle.writing.proofs.write.decimal_size.Goals as goal

pub overflow_add-k : goal.overflow_add-k
overflow_add-k c = let a = c.args in omega (arith, decimal-length a.v)

pub loop-x-preserved : goal.loop-x-preserved
loop-x-preserved c = let l = c.loop-x in (omega arith, omega (arith, l.invariant.1, decimal_longer l.x (omega arith) (omega arith)))

pub returns : goal.returns
returns c = let l = c.loop-x in omega (arith, l.invariant.1, ap length (decimal_one l.x (omega arith)))
