-- What does a mover do for an order that leaves every record where it is? Nothing, and it costs nothing. Assumes nothing.
use Rattle.std.specs.Prelude.{◌≡◌, Bool, true, false, List, [], ◌∷◌, ◌++◌, ◌↔◌, ℕ, ◌<◌, ◌≤◌, length, drop}
use Rattle.bank.specs.Limits.{ROWS}
use Rattle.order.specs.declared.Order.{Order}
use Rattle.order.specs.Order.{matrix_of}
use Rattle.planning.specs.declared.Plan.{Plan}
use Rattle.planning.specs.Making.{Still}
use Rattle.moving.specs.Step.{Buffers}
use Rattle.moving.specs.Call.{Moment}
use Rattle.mover.specs.declared.step.Stepped.{Stepped}
use Rattle.mover.specs.declared.run.Ran.{Ran}
use Rattle.mover.specs.Promise.{number_of, state_of}
use Rattle.listing.specs.Listing.{passes_word, result_word, steps_word}
use Rattle.demands.specs.Mover.{Mover}
use Rattle.demands.specs.Numbers.{fitting}

-- A is the identity, and c is 0
abbrev pub StillOrder : Order → Type 0
StillOrder order = Still order.geometry.n (matrix_of order) order.complement

-- the state is at step 0, or above it
abbrev pub AtStart : Moment → Type 0
AtStart m = m.state.next.0 ≡ 0

abbrev pub PastStart : Moment → Type 0
PastStart m = 0 < m.state.next.0

-- the number of a call on its plan: 7 where the state is above step 0; then 4 where a buffer isn't of its length; then `done`
pub record StillNumber (plan : Plan) (m : Moment) (done number : ℕ) : Type 0 where
  pub gives_7 : (number ≡ 7) ↔ PastStart m
  pub gives_4 : (number ≡ 4) ↔ (AtStart m × (fitting plan m ≡ false))
  pub gives_done : (number ≡ done) ↔ (AtStart m × (fitting plan m ≡ true))

-- the lines `passes 0`, `steps 0` and `result 0`, each with its LF
abbrev pub zero_lines : List ℕ
zero_lines = passes_word ++ (48 ∷ 10 ∷ (steps_word ++ (48 ∷ 10 ∷ (result_word ++ (48 ∷ 10 ∷ [])))))

-- what is asked of its plan, and of the calls on it
pub record NoSteps (M : Mover) (order : Order) (plan : Plan) : Type 0 where
  -- it is for the order's bank; it has no pass and no step, and the result lies in area 0
  pub on_its_bank : plan.geometry ≡ order.geometry
  pub no_pass : plan.count ≡ 0
  pub no_step : M.total plan ≡ 0
  pub in_area_0 : M.area plan ≡ 0
  -- every step asked is 6, after 7 and 4
  pub steps : (m : Moment) (k : ℕ) (r : Stepped) (w : Buffers) → M.step plan m k r w
      → StillNumber plan m 6 (number_of r) × (state_of r ≡ m.state) × (w ≡ m.buffers)
  -- a run is 0, after 7 and 4, and does no step
  pub runs : (m : Moment) (q : ℕ) (r : Ran) (w : Buffers) → M.run plan m q r w
      → StillNumber plan m 0 r.number × (r.count ≡ 0) × (r.state ≡ m.state) × (w ≡ m.buffers)
  -- its listing has three lines
  pub listed : (room : List ℕ) → length zero_lines ≤ length room
      → (M.lists plan room ≡ length zero_lines) × (M.leaves plan room ≡ zero_lines ++ drop (length zero_lines) room)

-- so it is for each such order that is taken, also where the spent area is to be blanked: none is spent
abbrev pub CostsNothing : Mover → Type 0
CostsNothing M =
    (order : Order) → length order.rows ≡ ROWS → (M.judges order).number ≡ 0 → StillOrder order → (blanks : Bool)
    → NoSteps M order (M.plans order blanks).plan
