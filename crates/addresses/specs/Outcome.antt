-- Which results does the question backwards admit? Assumes nothing.
use Rattle.std.specs.Prelude.{◌≡◌, ℕ, Result}
use Rattle.bank.specs.declared.Address.{Address}
use Rattle.bank.specs.declared.refusal.Refusal.{Refusal}
use Rattle.order.specs.declared.Order.{Order}
use Rattle.addresses.specs.Address.{meaning_of, found_for}
use Rattle.addresses.specs.Answered.{answer_of}

-- an order and an address have one result that means what is promised, and one only
pub record Outcome : Type 0 where
  pub some : (order : Order) (y : ℕ) → (r : Result Address Refusal) × (meaning_of (answer_of r) ≡ found_for order y)
  pub one : (order : Order) (y : ℕ) (a b : Result Address Refusal)
      → meaning_of (answer_of a) ≡ found_for order y → meaning_of (answer_of b) ≡ found_for order y → a ≡ b
