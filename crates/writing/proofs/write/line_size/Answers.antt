-- `writing::write::line_size` meets its contract: the word, the digits, the line's end. Assumes nothing.
use native.Mathlib.Omega.{arith}
use Rattle.text.proofs.Decimals.{decimal-length}
use Rattle.writing.proofs.write.line_size.Goals as goal

pub overflow_add-result : goal.overflow_add-result
overflow_add-result c = omega (arith, c.decimal_size.ensures, decimal-length c.args.v)

pub overflow_add-result-2 : goal.overflow_add-result-2
overflow_add-result-2 c = omega (arith, c.decimal_size.ensures, decimal-length c.args.v)
