-- `writing::write::put_line` meets its contract: the word, the number, the line's end. Assumes nothing.
use native.Mathlib.Omega.{arith}
use lib.ListN.{length-append}
use Rattle.text.specs.Lines.{decimal}
use Rattle.text.proofs.Decimals.{length_word_line}
use Rattle.writing.proofs.Put.{wrote_more, wrote_byte}
use Rattle.writing.proofs.write.put_line.Goals as goal

pub returns : goal.returns
returns c =
    let a = c.args in
    let long = length_word_line a.word.now (decimal a.v) in
    let word = c.put_word-p.ensures in
    wrote_byte (wrote_more word c.put_decimal-q.ensures (omega arith)) 10 (omega (arith, length-append a.word.now (decimal a.v)))
