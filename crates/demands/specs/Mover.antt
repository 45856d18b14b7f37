-- What is a mover? What its calls promise, and nothing else: each answer, and the bytes that are left. Assumes nothing.
use Rattle.std.specs.Prelude.{Bool, List, ℕ}
use Rattle.order.specs.declared.Order.{Order}
use Rattle.order.specs.declared.Verdict.{Verdict}
use Rattle.addresses.specs.declared.Target.{Target}
use Rattle.addresses.specs.Address.{Source}
use Rattle.planning.specs.declared.Plan.{Plan}
use Rattle.planning.specs.declared.state.State.{State}
use Rattle.plan.specs.declared.make.Planned.{Planned}
use Rattle.moving.specs.Step.{Buffers}
use Rattle.moving.specs.Call.{Moment}
use Rattle.mover.specs.declared.step.Stepped.{Stepped}
use Rattle.mover.specs.declared.run.Ran.{Ran}
use Rattle.lists.specs.declared.Recognised.{Recognised}

-- which answers a call for a step may give, at a moment and for the step asked, and which bytes it may leave
abbrev pub StepRule : Type 1
StepRule = Plan → Moment → ℕ → Stepped → Buffers → Type 0

-- which answers a run may give, at a moment and for its allowance, and which bytes it may leave
abbrev pub RunRule : Type 1
RunRule = Plan → Moment → ℕ → Ran → Buffers → Type 0

-- a call that is promised by an equation is a function of what it is given; one that is promised by a meaning is a rule
pub record Mover : Type 1 where
  -- the number and z of an order; where it sends an address, and which answers it may give for one backwards
  pub judges : Order → Verdict
  pub sends : Order → ℕ → Target
  pub finds : Order → ℕ → Source → Type 0
  -- the number, the plan and z for an order, where the spent area is to be blanked or not; a plan's total, and the area where its result lies
  pub plans : Order → Bool → Planned
  pub total : Plan → ℕ
  pub area : Plan → ℕ
  -- the state at the start, a step, a run
  pub fresh : State
  pub step : StepRule
  pub run : RunRule
  -- the number, n, the matrix, the complement and z for a list of targets
  pub recognises : List ℕ → Recognised
  -- which number, order and z a text may give
  pub reads : List ℕ → ℕ → Order → ℕ → Type 0
  -- how many bytes of a plan's listing are written into a room, and what the room then holds
  pub lists : Plan → List ℕ → ℕ
  pub leaves : Plan → List ℕ → List ℕ

-- where a chain begins: the fresh state, and these bytes
abbrev pub beginning : Mover → Buffers → Moment
beginning M v = record { state = M.fresh; buffers = v }
