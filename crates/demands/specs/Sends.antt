-- Demand 2 of any mover: which orders does it take, and where does it send an address? Each number of an order and of an address,
-- exactly when it is given. Assumes nothing.
use Rattle.std.specs.Prelude.{◌≡◌, true, false, [], ◌∷◌, ◌↔◌, ℕ, ◌<◌, ◌≤◌, length}
use Rattle.algebra.specs.Vector.{WORD}
use Rattle.bank.specs.Limits.{ROWS}
use Rattle.bank.specs.Geometry.{in_limits, records}
use Rattle.order.specs.declared.Order.{Order}
use Rattle.addresses.specs.Address.{Source}
use Rattle.order.specs.Order.{Words, bad_form}
use Rattle.addresses.specs.Address.{meaning_of, sent_to}
use Rattle.demands.specs.Mover.{Mover}
use Rattle.demands.specs.Numbers.{Refusal}

-- the addresses of an order: those below N
abbrev pub AddressOf : Order → ℕ → Type 0
AddressOf order x = x < records order.geometry

-- x is N or more
abbrev pub Beyond : Order → ℕ → Type 0
Beyond order x = records order.geometry ≤ x

-- x and y are two addresses, and share their target
pub record Share (order : Order) (x y : ℕ) : Type 0 where
  pub x_below : AddressOf order x
  pub y_below : AddressOf order y
  pub different : x ≡ y → ⊥
  pub shared : sent_to order x ≡ sent_to order y

-- some two addresses do
abbrev pub SharedTarget : Order → Type 0
SharedTarget order = (x : ℕ) × (y : ℕ) × Share order x y

-- the geometry is inside the limits, and the order in good form
abbrev pub Formed : Order → Type 0
Formed order = (in_limits order.geometry ≡ true) × (bad_form order ≡ false)

-- asked backwards for y, the mover gives x, and x is the only address that goes there
pub record OnlySource (M : Mover) (order : Order) (y : ℕ) : Type 0 where
  pub x : ℕ
  pub given : (answer : Source) → M.finds order y answer → meaning_of answer ≡ record { number = 0; z = 0; sources = x ∷ [] }
  pub below : AddressOf order x
  pub goes : sent_to order x ≡ y
  pub only : (z : ℕ) → AddressOf order z → sent_to order z ≡ y → z ≡ x

-- what is asked of the calls on one order, whatever it holds
pub record Addresses (M : Mover) (order : Order) : Type 0 where
  -- an order that is taken sends x to Ax xor c
  pub sends : (M.judges order).number ≡ 0 → (x : ℕ) → AddressOf order x
      → M.sends order x ≡ record { number = 0; address = record { 0 = sent_to order x }; z = record { 0 = 0 } }
  -- asking backwards gives the only x that goes there
  pub returns : (M.judges order).number ≡ 0 → (y : ℕ) → AddressOf order y → OnlySource M order y
  -- an order in good form is singular exactly when two addresses share a target
  pub gives_3 : ((M.judges order).number ≡ 3) ↔ (Formed order × SharedTarget order)
  -- the other numbers of an order: outside the limits; not in good form; taken
  pub gives_1 : ((M.judges order).number ≡ 1) ↔ (in_limits order.geometry ≡ false)
  pub gives_2 : ((M.judges order).number ≡ 2) ↔ ((in_limits order.geometry ≡ true) × (bad_form order ≡ true))
  pub gives_0 : ((M.judges order).number ≡ 0) ↔ (Formed order × (SharedTarget order → ⊥))
  -- where an address has all bits of a word none is stray, and no row place is left over
  pub never_2 : Words order → order.geometry.n ≡ WORD → (M.judges order).number ≡ 2 → ⊥
  -- the number of a question: the order's own where that refuses; then 10 exactly for an address of N or more
  pub asks_judged : (x : ℕ) → Refusal (M.judges order).number → (M.sends order x).number ≡ (M.judges order).number
  pub asks_10 : (x : ℕ) → ((M.sends order x).number ≡ 10) ↔ (((M.judges order).number ≡ 0) × Beyond order x)
  pub back_judged : (y : ℕ) (a : Source) → M.finds order y a → Refusal (M.judges order).number → (meaning_of a).number ≡ (M.judges order).number
  pub back_10 : (y : ℕ) (a : Source) → M.finds order y a → ((meaning_of a).number ≡ 10) ↔ (((M.judges order).number ≡ 0) × Beyond order y)

-- so it is for every order; the rows of an order fill the room of their array
abbrev pub Sends : Mover → Type 0
Sends M = (order : Order) → length order.rows ≡ ROWS → Addresses M order
