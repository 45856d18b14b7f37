-- What does an answer to the question whether an order is taken say? Assumes nothing.
-- What proofs and inner contracts go by; the rules need none of it.
use Rattle.std.specs.Prelude.{Result}
use Rattle.bank.specs.Refusal.{number_in, z_in}
use Rattle.bank.specs.declared.refusal.Refusal.{Refusal}
use Rattle.order.specs.declared.Verdict.{Verdict}

-- its number and its z
abbrev pub verdict_of : Result Unit Refusal → Verdict
verdict_of r = record { number = number_in r; z = z_in r }
