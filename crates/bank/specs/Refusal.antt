-- Which number and which z go with each kind of refusal? Assumes nothing.
use Rattle.std.specs.Prelude.{ℕ, Result, Ok, Err}
use Rattle.bank.specs.declared.Address.{Address}
use Rattle.bank.specs.declared.refusal.Refusal.{Refusal}
use Rattle.bank.specs.declared.refusal.Refusal.TheVariants.{Geometry, Form, Singular, Length, Turn, End, Plan, Text, Beyond, Entries, NoOrder}

-- the number that is given back
abbrev pub number_of : Refusal → ℕ
number_of Geometry = 1
number_of Form = 2
number_of (Singular z) = 3
number_of Length = 4
number_of Turn = 5
number_of End = 6
number_of Plan = 7
number_of Text = 8
number_of Beyond = 10
number_of Entries = 11
number_of NoOrder = 12

-- z: with a singular matrix the address that it shows, and 0 with every other kind
abbrev pub z_of : Refusal → Address
z_of Geometry = record { 0 = 0 }
z_of Form = record { 0 = 0 }
z_of (Singular z) = z
z_of Length = record { 0 = 0 }
z_of Turn = record { 0 = 0 }
z_of End = record { 0 = 0 }
z_of Plan = record { 0 = 0 }
z_of Text = record { 0 = 0 }
z_of Beyond = record { 0 = 0 }
z_of Entries = record { 0 = 0 }
z_of NoOrder = record { 0 = 0 }

module _ {A : Type 0} where
  -- the number that an answer gives: 0 where it is no refusal
  abbrev pub number_in : Result A Refusal → ℕ
  number_in (Ok a) = 0
  number_in (Err r) = number_of r

  -- the z that an answer gives: 0 where it is no refusal
  abbrev pub z_in : Result A Refusal → Address
  z_in (Ok a) = record { 0 = 0 }
  z_in (Err r) = z_of r
