-- Which number does a step, a run or a text get? Each of them exactly when it is given; those of orders and addresses stand in
-- Sends. Assumes nothing.
use Rattle.std.specs.Prelude.{◌≡◌, Bool, true, false, List, ◌↔◌, ◌⊎◌, ℕ, ◌+◌, ◌<◌, ◌≤◌, length}
use Rattle.bank.specs.Limits.{ROWS}
use Rattle.bank.specs.declared.Geometry.{Geometry}
use Rattle.bank.specs.Geometry.{in_limits}
use Rattle.order.specs.declared.Order.{Order}
use Rattle.planning.specs.declared.Plan.{Plan}
use Rattle.planning.specs.Running.{can_run}
use Rattle.moving.specs.Step.{Buffers, buffers_fit}
use Rattle.moving.specs.Call.{Moment}
use Rattle.mover.specs.declared.step.Stepped.{Stepped}
use Rattle.mover.specs.declared.run.Ran.{Ran}
use Rattle.mover.specs.Promise.{number_of}
use Rattle.reading.specs.OrderText.{order_text}
use Rattle.reading.specs.Reading.{Begins, Whole}
use Rattle.demands.specs.Mover.{Mover}

-- a number that refuses: of every call but a step, each but 0
abbrev pub Refusal : ℕ → Type 0
Refusal k = k ≡ 0 → ⊥

-- the buffers are of the lengths that the plan's bank has
abbrev pub fitting : Plan → Moment → Bool
fitting plan m = buffers_fit plan.geometry m.buffers

-- the plan can run from the state on, and the buffers are of their lengths
abbrev pub Ready : Plan → Moment → Type 0
Ready plan m = (can_run plan m.state ≡ true) × (fitting plan m ≡ true)

-- the call is ready, and the step asked is one of the plan's
abbrev pub Asked : Mover → Plan → Moment → ℕ → Type 0
Asked M plan m k = Ready plan m × (k < M.total plan)

-- the answer r to a call for step k
pub record StepNumbers (M : Mover) (plan : Plan) (m : Moment) (k : ℕ) (r : Stepped) : Type 0 where
  pub gives_7 : (number_of r ≡ 7) ↔ (can_run plan m.state ≡ false)
  pub gives_4 : (number_of r ≡ 4) ↔ ((can_run plan m.state ≡ true) × (fitting plan m ≡ false))
  pub gives_6 : (number_of r ≡ 6) ↔ (Ready plan m × (M.total plan ≤ k))
  pub gives_0 : (number_of r ≡ 0) ↔ (Asked M plan m k × (k ≡ m.state.next.0))
  pub gives_9 : (number_of r ≡ 9) ↔ (Asked M plan m k × (k + 1 ≡ m.state.next.0))
  pub gives_5 : (number_of r ≡ 5) ↔ (Asked M plan m k × (k ≡ m.state.next.0 → ⊥) × (k + 1 ≡ m.state.next.0 → ⊥))

-- the answer r to a run
pub record RunNumbers (plan : Plan) (m : Moment) (r : Ran) : Type 0 where
  pub gives_7 : (r.number ≡ 7) ↔ (can_run plan m.state ≡ false)
  pub gives_4 : (r.number ≡ 4) ↔ ((can_run plan m.state ≡ true) × (fitting plan m ≡ false))
  pub gives_0 : (r.number ≡ 0) ↔ Ready plan m

-- the text begins with a first line whose geometry is inside the limits, or outside
abbrev pub Inside : List ℕ → Geometry → Type 0
Inside text g = Begins text g × (in_limits g ≡ true)

abbrev pub Outside : List ℕ → Geometry → Type 0
Outside text g = Begins text g × (in_limits g ≡ false)

-- the text has no first line, or one inside the limits with a rest that is no order's
abbrev pub Unreadable : List ℕ → Type 0
Unreadable text = ((g : Geometry) → Begins text g → ⊥) ⊎ ((g : Geometry) × Inside text g × ((order : Order) → Whole text g order → ⊥))

-- the number k of a text
pub record TextNumbers (M : Mover) (text : List ℕ) (k : ℕ) : Type 0 where
  pub gives_8 : (k ≡ 8) ↔ Unreadable text
  pub gives_1 : (k ≡ 1) ↔ ((g : Geometry) × Outside text g)
  pub gives_3 : (k ≡ 3) ↔ ((g : Geometry) × (order : Order) × Inside text g × Whole text g order × ((M.judges order).number ≡ 3))
  pub gives_0 : (k ≡ 0) ↔ ((g : Geometry) × (order : Order) × Inside text g × Whole text g order × ((M.judges order).number ≡ 0))

pub record Numbers (M : Mover) : Type 0 where
  pub of_step : (plan : Plan) (m : Moment) (k : ℕ) (r : Stepped) (w : Buffers) → M.step plan m k r w → StepNumbers M plan m k r
  pub of_run : (plan : Plan) (m : Moment) (q : ℕ) (r : Ran) (w : Buffers) → M.run plan m q r w → RunNumbers plan m r
  pub of_text : (text : List ℕ) (k : ℕ) (order : Order) (z : ℕ) → M.reads text k order z → TextNumbers M text k
  -- the text of an order that is taken gives that order, and no other text does
  pub reads_own : (order : Order) → length order.rows ≡ ROWS → (M.judges order).number ≡ 0 → M.reads (order_text order) 0 order 0
  pub only_own : (text : List ℕ) (order : Order) (z : ℕ) → M.reads text 0 order z → text ≡ order_text order
