-- `writing::write::put_decimal` meets its contract: what is left of the number and what is written are its digits. Assumes nothing.
use Rattle.writing.proofs.Digits.{Partly}
use Rattle.writing.proofs.write.put_decimal.Given as goal

abbrev pub invariant-loop-i : goal.invariant-loop-i
invariant-loop-i l = Partly l.initial.room l.at l.v l.room l.i l.x
