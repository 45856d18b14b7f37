-- Which number goes with the answer about a step's turn? Assumes nothing.
-- What proofs and inner contracts go by; the rules need none of it.
use Rattle.std.specs.Prelude.{ℕ, Result, Ok, Err}
use Rattle.bank.specs.Refusal.{number_of}
use Rattle.bank.specs.declared.refusal.Refusal.{Refusal}
use Rattle.mover.specs.declared.step.Turn.{Turn}
use Rattle.mover.specs.declared.step.Turn.TheVariants.{Next, Again}

-- 0 for the next step, 9 for the one before it, and else that of the refusal
abbrev pub number_told : Result Turn Refusal → ℕ
number_told (Ok Next) = 0
number_told (Ok Again) = 9
number_told (Err r) = number_of r
