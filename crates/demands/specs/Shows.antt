-- Why is an order singular? What goes with 3, of any mover: the smallest address by which two sites can see it. Assumes nothing.
use Rattle.std.specs.Prelude.{◌≡◌, Bool, List, ℕ, ◌<◌}
use Rattle.std.specs.Int.Bits.{bit_xor}
use Rattle.bank.specs.declared.Geometry.{Geometry}
use Rattle.order.specs.declared.Order.{Order}
use Rattle.addresses.specs.Address.{Source}
use Rattle.addresses.specs.Address.{meaning_of, sent_to}
use Rattle.reading.specs.Reading.{Whole}
use Rattle.demands.specs.Mover.{Mover}
use Rattle.demands.specs.Numbers.{Inside}
use Rattle.demands.specs.Sends.{AddressOf, Share}

-- z is an address other than 0 that shares its target with 0, and so do x and x xor z for every x; nothing smaller and nonzero does
pub record Shows (order : Order) (z : ℕ) : Type 0 where
  pub nonzero : 0 < z
  pub with_0 : Share order z 0
  pub in_pairs : (x : ℕ) → AddressOf order x → Share order x (bit_xor x z)
  pub smallest : (y : ℕ) → 0 < y → y < z → sent_to order y ≡ sent_to order 0 → ⊥

-- what goes with a number that is given for an order: with 3 such a z, and 0 with every other
pub record GoesWith (order : Order) (number z : ℕ) : Type 0 where
  pub with_3 : number ≡ 3 → Shows order z
  pub else_0 : (number ≡ 3 → ⊥) → z ≡ 0

-- a call gives this number and this z for the order: judging it, asked for an address forwards or backwards, planning, or reading the
-- text that is the order's
pub data Gives (M : Mover) (order : Order) : ℕ → ℕ → Type 0 where
  judging : Gives M order (M.judges order).number (M.judges order).z.0
  forwards : (x : ℕ) → Gives M order (M.sends order x).number (M.sends order x).z.0
  backwards : (y : ℕ) (a : Source) → M.finds order y a → Gives M order (meaning_of a).number (meaning_of a).z
  planning : (blanks : Bool) → Gives M order (M.plans order blanks).number (M.plans order blanks).z.0
  reading : (text : List ℕ) (g : Geometry) → Inside text g → Whole text g order
      → (k : ℕ) (answer : Order) (z : ℕ) → M.reads text k answer z → Gives M order k z

-- so it is in every call; and a text that is no order's has no z either
pub record Explains (M : Mover) : Type 0 where
  pub of_order : (order : Order) (k z : ℕ) → Gives M order k z → GoesWith order k z
  pub of_text : (text : List ℕ) (k : ℕ) (order : Order) (z : ℕ) → M.reads text k order z → (k ≡ 3 → ⊥) → z ≡ 0

-- two sites agree, whichever movers they have and whichever calls they make: where they are given the same number for an order, it is
-- with the same z
abbrev pub SitesAgree : Type 1
SitesAgree =
    (M M' : Mover) → Explains M → Explains M'
    → (order : Order) (k z z' : ℕ) → Gives M order k z → Gives M' order k z' → z ≡ z'
