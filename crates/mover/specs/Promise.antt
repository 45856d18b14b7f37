-- What do the calls for a step and for a run promise? Their answer and the final bytes of every lent buffer. Assumes nothing.
use Rattle.std.specs.Prelude.{◌≡◌, cond, ℕ, eqb}
use Rattle.planning.specs.declared.Plan.{Plan}
use Rattle.planning.specs.declared.state.State.{State}
use Rattle.moving.specs.Step.{Buffers}
use Rattle.moving.specs.Call.{Moment, step_number, stepped, run_number, run_count, ran}
use Rattle.mover.specs.declared.step.Stepped.{Stepped}
use Rattle.mover.specs.declared.step.Stepped.TheVariants.{Done, Again, Refused}
use Rattle.mover.specs.declared.run.Ran.{Ran}

-- the number and the state of each case of a step's answer
unfoldable pub number_of : Stepped → ℕ
number_of (Done s) = 0
number_of (Again s) = 9
number_of (Refused k s) = k

unfoldable pub state_of : Stepped → State
state_of (Done s) = s
state_of (Again s) = s
state_of (Refused k s) = s

-- the case that a number takes: 0 is done, 9 is done again, any other refuses
unfoldable pub case_of : ℕ → State → Stepped
case_of k s = cond (eqb k 0) (Done s) (cond (eqb k 9) (Again s) (Refused k s))

-- a step call: by its number, the state and the bytes that follow
pub record StepPromise (plan : Plan) (before : Moment) (asked : ℕ) (answer : Stepped) (after : Buffers) : Type 0 where
  pub answered : answer ≡ case_of (step_number plan before asked) (stepped plan before asked).state
  pub bytes : after ≡ (stepped plan before asked).buffers

-- a run: its number, the steps it did, the state and the bytes that follow
pub record RunPromise (plan : Plan) (before : Moment) (q : ℕ) (answer : Ran) (after : Buffers) : Type 0 where
  pub number : answer.number ≡ run_number plan before
  pub count : answer.count ≡ run_count plan before q
  pub state' : answer.state ≡ (ran plan before q).state
  pub bytes : after ≡ (ran plan before q).buffers
