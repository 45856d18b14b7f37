-- What does a call for a step, or for a run of steps, answer and leave? Assumes nothing.
use Rattle.std.specs.Prelude.{Bool, not, cond, ◌||◌, List, ℕ, ◌+◌, ◌-◌, min, eqb, leb, length}
use Rattle.bank.specs.Checks.{refuse}
use Rattle.planning.specs.declared.Plan.{Plan}
use Rattle.planning.specs.declared.state.State.{State}
use Rattle.planning.specs.Pass.{total}
use Rattle.planning.specs.State.{fresh_state, further_by}
use Rattle.planning.specs.Stored.{route_of}
use Rattle.planning.specs.Running.{can_run}
use Rattle.moving.specs.Step.{Buffers, buffers_of, lengths_fit, move, moves_from}

-- what there is between two calls: the state, and the lent bytes
pub record Moment : Type 0 where
  pub state : State
  pub buffers : Buffers

-- before the first call: the state is fresh
abbrev pub begun : Buffers → Moment
begun v = record { state = fresh_state; buffers = v }

-- a state and three lent buffers
abbrev pub lent : State → List ℕ → List ℕ → List ℕ → Moment
lent state area0 area1 memory = record { state = state; buffers = buffers_of area0 area1 memory }

-- a number that refuses: neither done nor done again
abbrev pub refuses : ℕ → Bool
refuses k = not (eqb k 0 || eqb k 9)

-- ---- a step

-- 6 at or above the total; 0 for the next step, 9 for the one before it, else 5
unfoldable pub turn_number : ℕ → ℕ → ℕ → ℕ
turn_number all next asked = refuse (leb all asked) 6 (refuse (eqb asked next) 0 (refuse (eqb (asked + 1) next) 9 5))

-- what is checked first, by the state and the lengths of the three buffers: 7, the plan can't run; 4, a buffer isn't of its length
abbrev pub ready_by : Plan → State → ℕ → ℕ → ℕ → ℕ → ℕ
ready_by plan state area0 area1 memory later =
    refuse (not (can_run plan state)) 7 (refuse (not (lengths_fit plan.geometry area0 area1 memory)) 4 later)

-- what is checked first, of a moment
unfoldable pub ready_number : Plan → Moment → ℕ → ℕ
ready_number plan moment later =
    let v = moment.buffers in
    ready_by plan moment.state (length v.area0) (length v.area1) (length v.memory) later

-- the number of a step call
unfoldable pub step_number : Plan → Moment → ℕ → ℕ
step_number plan moment asked = ready_number plan moment (turn_number (total (route_of plan)) moment.state.next.0 asked)

-- what follows a number: the state advances on 0 alone
abbrev pub state_by : ℕ → State → State
state_by k state = cond (eqb k 0) (further_by state 1) state

-- what follows a number: the move is made on 0 and 9, and by no other number does a byte change
abbrev pub buffers_by : ℕ → Buffers → Buffers → Buffers
buffers_by k moved kept = cond (eqb k 0 || eqb k 9) moved kept

-- what a step call leaves
unfoldable pub stepped : Plan → Moment → ℕ → Moment
stepped plan moment asked =
    record {
      state = state_by (step_number plan moment asked) moment.state;
      buffers = buffers_by (step_number plan moment asked) (move (route_of plan) asked moment.buffers) moment.buffers;
    }

-- ---- a run with an allowance

-- the number of a run: it can be refused only by 7, then 4
unfoldable pub run_number : Plan → Moment → ℕ
run_number plan moment = ready_number plan moment 0

-- the steps that a run does: min(allowance, total - next), and none where it is refused
unfoldable pub run_count : Plan → Moment → ℕ → ℕ
run_count plan moment q = cond (eqb (run_number plan moment) 0) (min q (total (route_of plan) - moment.state.next.0)) 0

-- what a run leaves
unfoldable pub ran : Plan → Moment → ℕ → Moment
ran plan moment q =
    record {
      state = further_by moment.state (run_count plan moment q);
      buffers = moves_from (move (route_of plan)) moment.state.next.0 (run_count plan moment q) moment.buffers;
    }
