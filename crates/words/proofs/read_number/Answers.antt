-- `words::read_number` meets its contract: the bytes read so far are the decimal of the value. Assumes nothing.
use native.Mathlib.Omega.{arith}
use borrow.Author.Rules.{rules}
use Rattle.std.proofs.lemmas.Str.{digit_value_digit}
use Rattle.std.proofs.lemmas.Str.Parse.{digit_from_value}
use Rattle.words.proofs.Numbers.{none_byte, none_empty, none_long, none_zero, read_all, read_more}
use Rattle.words.proofs.read_number.Goals as goal
use Rattle.words.proofs.read_number.Goals.{then-is_empty-via-then-is_empty, then-is_empty-via-else-is_empty+then-word-gt-DIGITS}

pub returns-then-is_empty : goal.returns-then-is_empty
returns-then-is_empty c =
    elim c.then-is_empty.branch [
      | then-is_empty-via-then-is_empty w ↦ none_empty c.args.word.now (grind arith)
      | then-is_empty-via-else-is_empty+then-word-gt-DIGITS w ↦ none_long c.args.word.now (omega arith)
    ]

pub returns-then-word-eq48 : goal.returns-then-word-eq48
returns-then-word-eq48 c = none_zero c.args.word.now (omega arith) (search rules)

pub returns-in_err-to_digit : goal.returns-in_err-to_digit
returns-in_err-to_digit c =
    let l = c.loop-byte in
    rw c.from_residual.ensures (none_byte c.args.word.now l.byte-index (omega arith) (λ d. omega (arith, c.in_err-to_digit.ensures.cases)))

pub loop-byte-preserved : goal.loop-byte-preserved
loop-byte-preserved c =
    let l = c.loop-byte in
    let d = c.in_ok-to_digit.ensures.value in
    let e = digit_value_digit c.from.result (digit_from_value c.from.result d.0) in
    read_more c.args.word.now l.byte-index l.value l.invariant (omega arith) c.from-in-loop-byte.result (omega arith) (omega arith) (omega arith)

pub returns : goal.returns
returns c =
    let l = c.loop-byte in
    read_all c.args.word.now l.byte-index l.value l.invariant (omega arith) (grind arith) (omega arith)
