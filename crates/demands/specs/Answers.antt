-- Demand 1 of any mover: has each call one outcome, by which number does it refuse, and what does a refusal hand back and leave? Assumes nothing.
-- That every call takes any input and ends is said by its contract: none has a `requires`, and the proof of each says that it returns.
use Rattle.std.specs.Prelude.{◌≡◌, Bool, true, List, [], ◌++◌, ℕ, ◌+◌, ◌-◌, ◌<◌, ◌≤◌, min, length, take, drop}
use Rattle.order.specs.declared.Order.{Order}
use Rattle.addresses.specs.Address.{Source}
use Rattle.addresses.specs.Address.{meaning_of}
use Rattle.planning.specs.declared.Plan.{Plan}
use Rattle.planning.specs.Stored.{empty_plan}
use Rattle.moving.specs.Step.{Buffers}
use Rattle.moving.specs.Call.{Moment, refuses}
use Rattle.mover.specs.declared.step.Stepped.{Stepped}
use Rattle.mover.specs.declared.run.Ran.{Ran}
use Rattle.mover.specs.Promise.{number_of, state_of}
use Rattle.listing.specs.Listing.{listing}
use Rattle.reading.specs.OrderText.{TEXT}
use Rattle.reading.specs.Reading.{no_order}
use Rattle.demands.specs.Mover.{Mover}
use Rattle.demands.specs.Numbers.{Numbers, Refusal}
use Rattle.demands.specs.Shows.{Explains}

pub record Answers (M : Mover) : Type 0 where
  -- each number of a step, a run and a text exactly when it is due
  pub numbered : Numbers M
  -- with 3, in every call that gives it, the z that shows why; 0 with every other number
  pub explained : Explains M
  -- asked forwards: address 0 with a refusal
  pub target-refused : (order : Order) (x : ℕ) → Refusal (M.sends order x).number → (M.sends order x).address.0 ≡ 0
  -- asked backwards: no source with a refusal, and one answer
  pub source-refused : (order : Order) (y : ℕ) (a : Source) → M.finds order y a → Refusal (meaning_of a).number → (meaning_of a).sources ≡ []
  pub source_some : (order : Order) (y : ℕ) → (a : Source) × M.finds order y a
  pub source_one : (order : Order) (y : ℕ) (a b : Source) → M.finds order y a → M.finds order y b → a ≡ b
  -- planning: the number of the judgement, and the empty plan with a refusal
  pub plan_number : (order : Order) (blanks : Bool) → (M.plans order blanks).number ≡ (M.judges order).number
  pub plan_refused : (order : Order) (blanks : Bool) → Refusal (M.judges order).number → (M.plans order blanks).plan ≡ empty_plan
  -- the empty plan can't run: every step and every run of it is 7
  pub empty_step : (m : Moment) (k : ℕ) (r : Stepped) (w : Buffers) → M.step empty_plan m k r w → number_of r ≡ 7
  pub empty_run : (m : Moment) (q : ℕ) (r : Ran) (w : Buffers) → M.run empty_plan m q r w → r.number ≡ 7
  -- a step: one step on with 0, the state unchanged with 9, state and bytes unchanged with a refusal; and one outcome
  pub step_done : (plan : Plan) (m : Moment) (k : ℕ) (r : Stepped) (w : Buffers) → M.step plan m k r w
      → number_of r ≡ 0 → (state_of r).next.0 ≡ m.state.next.0 + 1
  pub step_again : (plan : Plan) (m : Moment) (k : ℕ) (r : Stepped) (w : Buffers) → M.step plan m k r w
      → number_of r ≡ 9 → state_of r ≡ m.state
  pub step_refused : (plan : Plan) (m : Moment) (k : ℕ) (r : Stepped) (w : Buffers) → M.step plan m k r w
      → refuses (number_of r) ≡ true → (state_of r ≡ m.state) × (w ≡ m.buffers)
  pub step_some : (plan : Plan) (m : Moment) (k : ℕ) → (r : Stepped) × (w : Buffers) × M.step plan m k r w
  pub step_one : (plan : Plan) (m : Moment) (k : ℕ) (r r' : Stepped) (w w' : Buffers)
      → M.step plan m k r w → M.step plan m k r' w' → (r ≡ r') × (w ≡ w')
  -- a run: as many steps as are allowed and left, and the state so many on, with 0;
  -- no steps, state and bytes unchanged with a refusal; and one outcome
  pub run_done : (plan : Plan) (m : Moment) (q : ℕ) (r : Ran) (w : Buffers) → M.run plan m q r w → r.number ≡ 0
      → (r.count ≡ min q (M.total plan - m.state.next.0)) × (r.state.next.0 ≡ m.state.next.0 + r.count)
  pub run_refused : (plan : Plan) (m : Moment) (q : ℕ) (r : Ran) (w : Buffers) → M.run plan m q r w
      → Refusal r.number → (r.count ≡ 0) × (r.state ≡ m.state) × (w ≡ m.buffers)
  pub run_some : (plan : Plan) (m : Moment) (q : ℕ) → (r : Ran) × (w : Buffers) × M.run plan m q r w
  pub run_one : (plan : Plan) (m : Moment) (q : ℕ) (r r' : Ran) (w w' : Buffers)
      → M.run plan m q r w → M.run plan m q r' w' → (r ≡ r') × (w ≡ w')
  -- reading a text: an order zero everywhere with a refusal, and one outcome
  pub read_refused : (text : List ℕ) (k : ℕ) (order : Order) (z : ℕ) → M.reads text k order z → Refusal k → order ≡ no_order
  pub read_some : (text : List ℕ) → (k : ℕ) × (order : Order) × (z : ℕ) × M.reads text k order z
  pub read_one : (text : List ℕ) (k k' : ℕ) (order order' : Order) (z z' : ℕ)
      → M.reads text k order z → M.reads text k' order' z' → (k ≡ k') × (order ≡ order') × (z ≡ z')
  -- an input of which no more than a text's room is held: what those first bytes are read as, all of it is read as
  pub read_first : (input : List ℕ) (k : ℕ) (order : Order) (z : ℕ) → M.reads (take TEXT input) k order z → M.reads input k order z
  -- writing a listing: the whole of it, and what the room held beyond it; or no byte, where there is no room for it
  pub listing_whole : (plan : Plan) (room : List ℕ) → length (listing plan) ≤ length room
      → (M.lists plan room ≡ length (listing plan)) × (M.leaves plan room ≡ listing plan ++ drop (length (listing plan)) room)
  pub listing_none : (plan : Plan) (room : List ℕ) → length room < length (listing plan) → (M.lists plan room ≡ 0) × (M.leaves plan room ≡ room)
  -- a text that is taken has something to list
  pub listing_some : (text : List ℕ) (order : Order) (z : ℕ) (blanks : Bool) → M.reads text 0 order z → 0 < length (listing (M.plans order blanks).plan)
