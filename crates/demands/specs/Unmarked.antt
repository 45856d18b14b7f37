-- What do the calls do for a plan that doesn't blank? What they did before a plan could: reads and writes alone, 2N/(BD) steps a pass.
-- Assumes nothing.
use Rattle.std.specs.Prelude.{◌≡◌, Bool, false, not, cond, ◌&&◌, ◌↔◌, ℕ, ◌-◌, ◌*◌, ◌/◌, ◌%◌, min, eqb, leb}
use Rattle.bank.specs.Checks.{refuse}
use Rattle.bank.specs.Geometry.{block, drives, in_limits, records, tiers}
use Rattle.order.specs.declared.Order.{Order}
use Rattle.planning.specs.declared.Plan.{Plan}
use Rattle.planning.specs.declared.state.State.{State}
use Rattle.planning.specs.Pass.{pass_at, total}
use Rattle.planning.specs.Running.{can_run, count_in_limits, sound}
use Rattle.planning.specs.State.{further_by}
use Rattle.planning.specs.Stored.{route_of}
use Rattle.moving.specs.Step.{Buffers, buffers_fit, moves_from, read_move, write_move}
use Rattle.moving.specs.Call.{Moment, buffers_by, state_by, turn_number}
use Rattle.mover.specs.declared.step.Stepped.{Stepped}
use Rattle.mover.specs.declared.run.Ran.{Ran}
use Rattle.mover.specs.Promise.{case_of}
use Rattle.demands.specs.Mover.{Mover}

-- 2N/(BD) steps a pass, and so many passes
abbrev pub plain_pass : Plan → ℕ
plain_pass plan = let g = plan.geometry in 2 * records g / (block g * drives g)

abbrev pub plain_total : Plan → ℕ
plain_total plan = plain_pass plan * plan.count

-- a load's M/(BD) reads, and then its M/(BD) writes
abbrev pub plain_move : Plan → ℕ → Buffers → Buffers
plain_move plan s v =
    let g = plan.geometry in
    let p = s / plain_pass plan in
    let load = s % plain_pass plan / (2 * tiers g) in
    let at = s % plain_pass plan % (2 * tiers g) in
    cond (eqb (at / tiers g) 0) (read_move g p load (at % tiers g) v) (write_move g (pass_at (route_of plan) p) p load (at % tiers g) v)

-- 7, then 4, then what is left
abbrev pub plain_ready : Plan → Moment → ℕ → ℕ
plain_ready plan m later =
    refuse (not (sound plan && leb m.state.next.0 (plain_total plan))) 7 (refuse (not (buffers_fit plan.geometry m.buffers)) 4 later)

abbrev pub plain_number : Plan → Moment → ℕ → ℕ
plain_number plan m k = plain_ready plan m (turn_number (plain_total plan) m.state.next.0 k)

abbrev pub plain_count : Plan → Moment → ℕ → ℕ
plain_count plan m q = cond (eqb (plain_ready plan m 0) 0) (min q (plain_total plan - m.state.next.0)) 0

-- a step's answer and what it leaves
pub record PlainStep (plan : Plan) (m : Moment) (k : ℕ) (r : Stepped) (w : Buffers) : Type 0 where
  pub answered : r ≡ case_of (plain_number plan m k) (state_by (plain_number plan m k) m.state)
  pub bytes : w ≡ buffers_by (plain_number plan m k) (plain_move plan k m.buffers) m.buffers

-- a run's
pub record PlainRun (plan : Plan) (m : Moment) (q : ℕ) (r : Ran) (w : Buffers) : Type 0 where
  pub number : r.number ≡ plain_ready plan m 0
  pub count : r.count ≡ plain_count plan m q
  pub state' : r.state ≡ further_by m.state (plain_count plan m q)
  pub bytes : w ≡ moves_from (plain_move plan) m.state.next.0 (plain_count plan m q) m.buffers

pub record Unmarked (M : Mover) : Type 0 where
  -- its total, and the area of its result
  pub total_is : (plan : Plan) → plan.blanks ≡ false → M.total plan ≡ cond (in_limits plan.geometry && count_in_limits plan) (plain_total plan) 0
  pub area_is : (plan : Plan) → plan.blanks ≡ false → M.area plan ≡ plan.count % 2
  -- the steps that its listing says, and the states from which it can run
  pub listed_total : (plan : Plan) → plan.blanks ≡ false → total (route_of plan) ≡ plain_total plan
  pub runnable : (plan : Plan) → plan.blanks ≡ false → (state : State) → can_run plan state ≡ sound plan && leb state.next.0 (plain_total plan)
  -- a step, and a run: these answers and these bytes, and no others
  pub step_is : (plan : Plan) → plan.blanks ≡ false → (m : Moment) (k : ℕ) (r : Stepped) (w : Buffers)
      → M.step plan m k r w ↔ PlainStep plan m k r w
  pub run_is : (plan : Plan) → plan.blanks ≡ false → (m : Moment) (q : ℕ) (r : Ran) (w : Buffers) → M.run plan m q r w ↔ PlainRun plan m q r w
  -- planning: whether to blank changes neither the number nor z, and of the plan nothing else
  pub same_number : (order : Order) (blanks : Bool) → (M.plans order blanks).number ≡ (M.plans order false).number
  pub same_z : (order : Order) (blanks : Bool) → (M.plans order blanks).z ≡ (M.plans order false).z
  pub same_plan : (order : Order) (blanks : Bool) → let a = (M.plans order blanks).plan in let b = (M.plans order false).plan in
      (a.geometry ≡ b.geometry) × (a.count ≡ b.count) × (a.rows ≡ b.rows) × (a.complements ≡ b.complements)
