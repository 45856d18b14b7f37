-- `words::read_number` meets its contract: the bytes read so far are the decimal of the value. Assumes nothing.
use Rattle.words.proofs.Numbers.{ReadTo}
use Rattle.words.proofs.read_number.Given as goal

abbrev pub invariant-loop-byte : goal.invariant-loop-byte
invariant-loop-byte l = ReadTo l.word l.byte-index l.value
