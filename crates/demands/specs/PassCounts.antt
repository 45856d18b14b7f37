-- How many passes has a plan, and could fewer do? Assumes nothing.
use Rattle.std.specs.Prelude.{◌≡◌, Bool, ◌↔◌, ℕ, ◌+◌, ◌≤◌, length}
use Rattle.bank.specs.Limits.{ROWS}
use Rattle.order.specs.declared.Order.{Order}
use Rattle.planning.specs.declared.Plan.{Plan}
use Rattle.demands.specs.Mover.{Mover}
use Rattle.demands.specs.Sends.{AddressOf}
use Rattle.demands.specs.Delivers.{Performs, rounds_for}
use Rattle.demands.specs.Still.{StillOrder}

pub record PassCounts (M : Mover) : Type 0 where
  -- the plan of an order that is taken performs it
  pub performs : (order : Order) → length order.rows ≡ ROWS → (M.judges order).number ≡ 0 → (blanks : Bool) → Performs order (M.plans order blanks).plan
  -- it has no pass exactly where A is the identity and c is 0
  pub none : (order : Order) → length order.rows ≡ ROWS → (M.judges order).number ≡ 0 → (blanks : Bool)
      → ((M.plans order blanks).plan.count ≡ 0) ↔ StillOrder order
  -- and that is where no record need move: every address is sent to itself
  pub none_moves : (order : Order) → length order.rows ≡ ROWS → (M.judges order).number ≡ 0
      → StillOrder order ↔ ((x : ℕ) → AddressOf order x → (M.sends order x).address.0 ≡ x)
  -- for every other order it has as many passes as rounds, rank φ/(m - b) rounded up, and one more
  pub exact : (order : Order) → length order.rows ≡ ROWS → (M.judges order).number ≡ 0 → (StillOrder order → ⊥) → (blanks : Bool)
      → (M.plans order blanks).plan.count ≡ rounds_for order + 1
  -- whoever made it, a plan of no passes performs no other order either
  pub none_others : (order : Order) → length order.rows ≡ ROWS → (M.judges order).number ≡ 0 → (plan : Plan) → Performs order plan
      → plan.count ≡ 0 → StillOrder order
  -- no plan that performs an order has fewer passes than it has rounds, whoever made it
  pub at_least : (order : Order) (plan : Plan) → Performs order plan → rounds_for order ≤ plan.count
  -- the mover's own plan is never more than one pass longer than another that performs the order
  pub near_best : (order : Order) → length order.rows ≡ ROWS → (M.judges order).number ≡ 0 → (plan : Plan) → Performs order plan
      → (blanks : Bool) → (M.plans order blanks).plan.count ≤ plan.count + 1
