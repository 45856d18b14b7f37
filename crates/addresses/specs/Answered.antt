-- Which answer to a question backwards is a result of the call? Assumes nothing.
use Rattle.std.specs.Prelude.{Result, Ok, Err}
use Rattle.bank.specs.Refusal.{number_of, z_of}
use Rattle.bank.specs.declared.Address.{Address}
use Rattle.bank.specs.declared.refusal.Refusal.{Refusal}
use Rattle.addresses.specs.Address.{Source}
use Rattle.addresses.specs.Address.Source.{From, Refused}

-- the source, or the refusal's number and z
abbrev pub answer_of : Result Address Refusal → Source
answer_of (Ok a) = From a
answer_of (Err r) = Refused (number_of r) (z_of r)
