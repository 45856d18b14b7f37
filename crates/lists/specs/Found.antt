-- What does a search for the order that gives a list hand back? Assumes nothing.
-- What proofs and inner contracts go by; the rules need none of it.
use Rattle.std.specs.Prelude.{Result, Ok, Err, replicate}
use Rattle.bank.specs.Limits.{ROWS}
use Rattle.bank.specs.Refusal.{number_of, z_of}
use Rattle.bank.specs.declared.refusal.Refusal.{Refusal}
use Rattle.lists.specs.declared.Found.{Found}
use Rattle.lists.specs.declared.Recognised.{Recognised}

-- the answer for an order, and for a refusal
abbrev pub answered : Result Found Refusal → Recognised
answered (Ok o) = record { number = 0; n = o.n; rows = o.matrix; complement = o.complement; z = record { 0 = 0 } }
answered (Err r) = record { number = number_of r; n = 0; rows = replicate ROWS 0; complement = 0; z = z_of r }
