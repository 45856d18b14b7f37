-- Demand 3 of any mover: what has a chain of its calls done to the records, and how many steps did it take? Assumes nothing.
use Rattle.std.specs.Prelude.{◌≡◌, Bool, true, cond, List, [], ℕ, zero, suc, ◌+◌, ◌-◌, ◌*◌, ◌%◌, ◌<◌, ◌≤◌, length}
use Rattle.bank.specs.Limits.{ROWS, PASSES}
use Rattle.bank.specs.Geometry.{stripes}
use Rattle.algebra.specs.Matrix.{columns, rank}
use Rattle.order.specs.declared.Order.{Order}
use Rattle.order.specs.Order.{matrix_of}
use Rattle.addresses.specs.Address.{sent_to}
use Rattle.planning.specs.declared.Plan.{Plan}
use Rattle.planning.specs.Pass.{performed}
use Rattle.planning.specs.Columns.{phi}
use Rattle.planning.specs.Making.{divided_up}
use Rattle.planning.specs.Running.{sound}
use Rattle.planning.specs.Stored.{route_of}
use Rattle.moving.specs.Bytes.{AllZero, record_of}
use Rattle.moving.specs.Step.{Buffers, buffers_fit}
use Rattle.moving.specs.Call.{Moment}
use Rattle.mover.specs.declared.step.Stepped.{Stepped}
use Rattle.mover.specs.declared.run.Ran.{Ran}
use Rattle.mover.specs.Promise.{number_of}
use Rattle.demands.specs.Mover.{Mover, beginning}
use Rattle.demands.specs.Chain.{Called, Chain, new_steps}
use Rattle.demands.specs.OneStep.{OneStep}
use Rattle.demands.specs.Repeats.{Repeats}
use Rattle.demands.specs.Sends.{AddressOf}

-- the area that a number names: 0 or 1, and no other
unfoldable pub area_named : ℕ → Buffers → List ℕ
area_named zero v = v.area0
area_named (suc zero) v = v.area1
area_named (suc (suc k)) v = []

-- ---- every plan that can run, whoever made it

-- a plan that can run; its rows fill the room of their array
pub record Runnable (plan : Plan) : Type 0 where
  pub runnable : sound plan ≡ true
  pub room : length plan.rows ≡ PASSES * ROWS

-- 2N/(BD), the steps of a pass: a read and a write for each stripe; 3N/(BD) where the plan blanks: a blank for each stripe too
abbrev pub steps_a_pass : Plan → ℕ
steps_a_pass plan = cond plan.blanks 3 2 * stripes plan.geometry

-- where a chain of the mover's calls has come from the fresh state
pub record Reached (M : Mover) (plan : Plan) (cs : List Called) (end : Moment) : Type 0 where
  -- the steps never run past the total, and the state's next step says how many were done
  pub in_total : end.state.next.0 ≤ M.total plan
  pub counted : end.state.next.0 ≡ new_steps cs
  -- the chain can go on: before the end the next step is done, and no run is refused
  pub goes_on : end.state.next.0 < M.total plan → (r : Stepped) (w : Buffers) → M.step plan end end.state.next.0 r w
      → number_of r ≡ 0
  pub runs_on : (q : ℕ) (r : Ran) (w : Buffers) → M.run plan end q r w → r.number ≡ 0

pub record Carries (M : Mover) (plan : Plan) : Type 0 where
  -- the total: 2N/(BD) steps for each pass, or 3N/(BD)
  pub steps : M.total plan ≡ steps_a_pass plan * plan.count
  -- no step moves more than one block on a drive, and every other byte stays
  pub one_block : (k : ℕ) → k < M.total plan → OneStep M plan k
  -- any bytes of the right lengths, and any chain of calls
  pub chains : (v : Buffers) → buffers_fit plan.geometry v ≡ true → (cs : List Called) (end : Moment)
      → Chain M plan (beginning M v) cs end → Reached M plan cs end

-- ---- a plan that blanks, whoever made it

-- what a chain from any bytes of the right lengths has left of the records
pub record Blanked (M : Mover) (plan : Plan) : Type 0 where
  -- after each whole pass the area just read, area p mod 2, is zero in every byte, and so is memory
  pub after-pass : (v : Buffers) → buffers_fit plan.geometry v ≡ true → (cs : List Called) (end : Moment) → Chain M plan (beginning M v) cs end
      → (p : ℕ) → p < plan.count → end.state.next.0 ≡ steps_a_pass plan * (p + 1)
      → AllZero (area_named (p % 2) end.buffers) × AllZero end.buffers.memory
  -- so at the end of one or more passes is the area that the mover doesn't name, and memory
  pub at_end : (v : Buffers) → buffers_fit plan.geometry v ≡ true → (cs : List Called) (end : Moment) → Chain M plan (beginning M v) cs end
      → 0 < plan.count → end.state.next.0 ≡ M.total plan
      → AllZero (area_named (1 - M.area plan) end.buffers) × AllZero end.buffers.memory
  -- with no passes nothing is blanked: no chain changes a byte
  pub no_pass : (v : Buffers) → buffers_fit plan.geometry v ≡ true → (cs : List Called) (end : Moment) → Chain M plan (beginning M v) cs end
      → plan.count ≡ 0 → end.buffers ≡ v

-- ---- a plan for an order

-- where a chain from any bytes of the right lengths has come to the end,
-- the area that the mover names holds at Ax xor c the record that began at x, for every x
abbrev pub Delivered : Mover → Order → Plan → Type 0
Delivered M order plan =
    let g = order.geometry in
    (v : Buffers) → buffers_fit g v ≡ true → (cs : List Called) (end : Moment) → Chain M plan (beginning M v) cs end
    → end.state.next.0 ≡ M.total plan → (x : ℕ) → AddressOf order x
    → record_of g.r (area_named (M.area plan) end.buffers) (sent_to order x) ≡ record_of g.r v.area0 x

-- rank φ divided by m - b, rounded up
abbrev pub rounds_for : Order → ℕ
rounds_for order =
    let g = order.geometry in
    divided_up (rank (phi g.m (columns g.n (matrix_of order))) g.m) (g.m - g.b)

-- the plan that the mover makes for an order, where the spent area is to be blanked or not
pub record OwnPlan (M : Mover) (order : Order) (blanks : Bool) : Type 0 where
  -- it keeps what was asked
  pub keeps : (M.plans order blanks).plan.blanks ≡ blanks
  pub on_its_bank : (M.plans order blanks).plan.geometry ≡ order.geometry
  pub runs : Runnable (M.plans order blanks).plan
  pub delivers : Delivered M order (M.plans order blanks).plan
  -- passes at most rank φ/(m - b) rounded up, plus one
  pub passes : (M.plans order blanks).plan.count ≤ rounds_for order + 1

-- ---- the demand

pub record Delivers (M : Mover) : Type 0 where
  pub own : (order : Order) → length order.rows ≡ ROWS → (M.judges order).number ≡ 0 → (blanks : Bool) → OwnPlan M order blanks
  pub carries : (plan : Plan) → Runnable plan → Carries M plan
  pub blanked : (plan : Plan) → Runnable plan → plan.blanks ≡ true → Blanked M plan
  -- the latest step again at will
  pub repeats : Repeats M

-- ---- a plan that somebody else made for an order

-- a plan for the order's bank that can run, and whose passes, in order and with their complements, take every x to Ax xor c
pub record Performs (order : Order) (plan : Plan) : Type 0 where
  pub on_its_bank : plan.geometry ≡ order.geometry
  pub runs : Runnable plan
  pub takes : (x : ℕ) → AddressOf order x → performed (route_of plan).passes x ≡ sent_to order x

-- the mover delivers by such a plan all the same
abbrev pub DeliversForeign : Mover → Type 0
DeliversForeign M = (order : Order) (plan : Plan) → Performs order plan → Delivered M order plan
