-- Which lists of targets does a mover recognise, and as which order? Each number exactly when it is given. Assumes nothing.
use Rattle.std.specs.Prelude.{◌≡◌, true, List, ◌↔◌, ℕ, ◌<◌, length, get_or, take, replicate}
use Rattle.bank.specs.Limits.{ROWS}
use Rattle.bank.specs.declared.Geometry.{Geometry}
use Rattle.bank.specs.Geometry.{in_limits, records}
use Rattle.order.specs.declared.Order.{Order}
use Rattle.lists.specs.Given.{FirstAgain, Given, GivenBy, Misshapen, RegularlyGiven, Twice}
use Rattle.lists.specs.declared.Recognised.{Recognised}
use Rattle.demands.specs.Mover.{Mover}
use Rattle.demands.specs.Numbers.{Refusal}

-- zero everywhere but for the number and z
abbrev pub nothing_found : ℕ → ℕ → Recognised
nothing_found number z = record { number = number; n = 0; rows = replicate ROWS 0; complement = 0; z = record { 0 = z } }

-- what is found, as an order for a bank of drives
abbrev pub order_in : Geometry → Recognised → Order
order_in g found = record { geometry = g; rows = found.rows; complement = found.complement }

-- what is asked of the answer for one list
pub record Recognition (M : Mover) (list : List ℕ) : Type 0 where
  -- 11, then 12, then 3: each exactly when it is given
  pub gives_11 : ((M.recognises list).number ≡ 11) ↔ Misshapen list
  pub gives_12 : ((M.recognises list).number ≡ 12) ↔ ((Misshapen list → ⊥) × (Given list → ⊥))
  pub gives_3 : ((M.recognises list).number ≡ 3) ↔ (Given list × Twice list)
  pub gives_0 : ((M.recognises list).number ≡ 0) ↔ (Given list × (Twice list → ⊥))
  pub regular : ((M.recognises list).number ≡ 0) ↔ RegularlyGiven list
  -- what goes with 0: the matrix and complement that give the list, and no z
  pub found : (M.recognises list).number ≡ 0
      → GivenBy list (M.recognises list).n (take (M.recognises list).n (M.recognises list).rows) (M.recognises list).complement
  pub no_z : (M.recognises list).number ≡ 0 → (M.recognises list).z.0 ≡ 0
  -- what goes with a refusal: nothing, and with 3 the z that shows why
  pub refused : Refusal (M.recognises list).number → M.recognises list ≡ nothing_found (M.recognises list).number (M.recognises list).z.0
  pub shows_3 : (M.recognises list).number ≡ 3 → FirstAgain list (M.recognises list).z.0
  pub else_no_z : Refusal (M.recognises list).number → ((M.recognises list).number ≡ 3 → ⊥) → (M.recognises list).z.0 ≡ 0
  -- put into any geometry of that n, what is found is an order that is taken, and sends x to entry x
  pub taken : (M.recognises list).number ≡ 0 → (g : Geometry) → in_limits g ≡ true → g.n ≡ (M.recognises list).n
      → (M.judges (order_in g (M.recognises list))).number ≡ 0
  pub sends : (M.recognises list).number ≡ 0 → (g : Geometry) → in_limits g ≡ true → g.n ≡ (M.recognises list).n → (x : ℕ) → x < length list
      → M.sends (order_in g (M.recognises list)) x ≡ record { number = 0; address = record { 0 = get_or list x 0 }; z = record { 0 = 0 } }

-- the list is an order's own: its entries are where the mover sends the addresses
pub record OwnList (M : Mover) (order : Order) (list : List ℕ) : Type 0 where
  pub whole : length list ≡ records order.geometry
  pub entry : (x : ℕ) → x < length list → get_or list x 0 ≡ (M.sends order x).address.0

pub record Recognises (M : Mover) : Type 0 where
  pub every : (list : List ℕ) → Recognition M list
  -- where a matrix and complement give the list, they are the only ones
  pub only : (list : List ℕ) (n k : ℕ) (rows others : List ℕ) (c d : ℕ) → GivenBy list n rows c → GivenBy list k others d
      → (n ≡ k) × (rows ≡ others) × (c ≡ d)
  -- the list of an order that is taken is recognised as that order; the rows of an order fill the room of their array
  pub own : (order : Order) → length order.rows ≡ ROWS → (M.judges order).number ≡ 0 → (list : List ℕ) → OwnList M order list
      → M.recognises list ≡ record { number = 0; n = order.geometry.n; rows = order.rows; complement = order.complement; z = record { 0 = 0 } }
