-- `reading::number::number_at` meets its contract: each return has passed the tests before it, on the digits read. Assumes nothing.
use mathlib.Core.Path.{sym}
use native.Mathlib.Omega.{arith}
use Rattle.reading.specs.Parsing.{number_at}
use Rattle.reading.proofs.Numbers.{read_one, read_two, read_three}
use Rattle.reading.proofs.number.number_at.Goals as goal

pub returns-in_err-a : goal.returns-in_err-a
unfolding number_at
returns-in_err-a c = rw (c.from_residual.ensures, ← c.in_err-a.ensures.digit)

pub returns-then-a-eq0 : goal.returns-then-a-eq0
unfolding number_at
returns-then-a-eq0 c = rw (← c.in_ok-a.ensures.digit, c.if-a-eq0.true)

pub returns-in_default : goal.returns-in_default
returns-in_default c = sym (read_one _ _ _ (sym c.in_ok-a.ensures.digit) (sym c.in_default.ensures.digit))

pub returns-in_default-digit_at : goal.returns-in_default-digit_at
returns-in_default-digit_at c =
    sym (read_two _ _ _ _ (omega arith) (sym c.in_ok-a.ensures.digit) (sym c.in-Some.ensures.digit) (sym c.in_default-digit_at.ensures.digit))

pub returns : goal.returns
returns c =
    sym (read_three _ _ _ _ _ (omega arith) (sym c.in_ok-a.ensures.digit) (sym c.in-Some.ensures.digit) (sym c.in-Some-digit_at.ensures.digit))
