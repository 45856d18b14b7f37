-- `reading::number::digit_at` meets its contract: past the end the byte 0 stands for none, and 0 is no digit. Assumes nothing.
use Rattle.std.specs.Prelude.{◌≡◌, ℕ, ◌+◌, ◌<◌, Option, Some, None}
use Rattle.std.specs.Char.{IsDigitOf, NotDecimalDigitIn, digit_value}
use Rattle.std.specs.Option.{MatchOption, SomeIff}
use mathlib.Core.Path.{sym}
use native.Mathlib.Omega.{arith}
use borrow.Author.Rules.{rules}
use Rattle.std.proofs.lemmas.Bool.Decides.{nat_tests}
use Rattle.std.proofs.lemmas.Str.{digit_value_digit}
use Rattle.std.proofs.lemmas.Str.Parse.{digit_from_value}
use Rattle.reading.specs.Parsing.{digit_at, digit_of}
use Rattle.reading.proofs.Numbers.{digit_of_lem, digit_past, digit_within}
use Rattle.reading.proofs.number.digit_at.Goals as goal

-- a byte's digit of radix 10 is its digit here
none_there : (x : ℕ) → NotDecimalDigitIn 10 x → None ≡ digit_of x
unfolding digit_of
none_there x h = grind (arith, nat_tests)

digit_is : (x : ℕ) (r : Option ℕ) → SomeIff r (digit_value x < 10) (digit_value x) → MatchOption r (NotDecimalDigitIn 10 x) (IsDigitOf x) → r ≡ digit_of x
digit_is x None v m = none_there x m
digit_is x (Some d) v m =
    let w = digit_value_digit x (digit_from_value x v.0) in
    let e : x ≡ 48 + d = omega arith in
    rw e (sym (digit_of_lem d (omega arith)))

pub returns-in_err-get : goal.returns-in_err-get
returns-in_err-get c =
    rw c.from_residual.ensures
    record { digit = sym (digit_past c.args.text.now c.args.at c.in_err-get.ensures.lookup.3); within = tt }

pub returns : goal.returns
unfolding digit_at
returns c =
    let e = digit_is c.from.result c.to_digit.result c.to_digit.ensures.value c.to_digit.ensures.cases in
    let digit : c.to_digit.result ≡ digit_at c.args.text.now c.args.at = search rules in
    record { digit = digit; within = digit_within c.args.text.now c.args.at c.to_digit.result digit }
