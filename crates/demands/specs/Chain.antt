-- Which calls of a mover can follow one another, and what do they leave? Calls are a chain: each goes on from where the last ended.
-- Assumes nothing.
use Rattle.std.specs.Prelude.{◌≡◌, true, cond, List, [], ◌∷◌, ℕ, ◌+◌, eqb}
use Rattle.planning.specs.declared.Plan.{Plan}
use Rattle.planning.specs.declared.state.State.{State}
use Rattle.moving.specs.Step.{Buffers}
use Rattle.moving.specs.Call.{Moment, refuses}
use Rattle.mover.specs.declared.step.Stepped.{Stepped}
use Rattle.mover.specs.declared.run.Ran.{Ran}
use Rattle.mover.specs.Promise.{number_of, state_of}
use Rattle.demands.specs.Mover.{Mover}

-- who else calls: any plan, any state, and any bytes, the chain's own in any order or part among them;
-- `back` is what the chain's bytes are once the lent ones were given back, and those given back unchanged change nothing
pub record Stray : Type 0 where
  pub plan : Plan
  pub state : State
  pub lent : Buffers → Buffers
  pub back : Buffers → Buffers → Buffers
  pub unchanged : (v : Buffers) → back v (lent v) ≡ v

-- a call and its answer: a step or a run of the chain's plan, by its own state and on its own bytes; or a step or a run of another's
pub data Called : Type 0 where
  asked : ℕ → Stepped → Called
  allowed : ℕ → Ran → Called
  stray_asked : Stray → ℕ → Stepped → Called
  stray_allowed : Stray → ℕ → Ran → Called

-- what there is between two calls: a state, and the bytes
abbrev pub moment_of : State → Buffers → Moment
moment_of state v = record { state = state; buffers = v }

-- what another's call sees
abbrev pub strayed : Stray → Moment → Moment
strayed stray m = moment_of stray.state (stray.lent m.buffers)

-- what there is once the bytes that another's call was lent are given back
abbrev pub returned : Stray → Moment → Buffers → Moment
returned stray m w = moment_of m.state (stray.back m.buffers w)

-- from a moment to a moment by calls that the mover may answer so; another's call is refused
pub data Chain (M : Mover) (plan : Plan) : Moment → List Called → Moment → Type 0 where
  no_calls : {m : Moment} → Chain M plan m [] m
  step : {m end : Moment} {w : Buffers} {cs : List Called} (k : ℕ) (answer : Stepped)
      → M.step plan m k answer w → Chain M plan (moment_of (state_of answer) w) cs end → Chain M plan m (asked k answer ∷ cs) end
  run : {m end : Moment} {w : Buffers} {cs : List Called} (q : ℕ) (answer : Ran)
      → M.run plan m q answer w → Chain M plan (moment_of answer.state w) cs end → Chain M plan m (allowed q answer ∷ cs) end
  stray_step : {m end : Moment} {w : Buffers} {cs : List Called} (stray : Stray) (k : ℕ) (answer : Stepped)
      → M.step stray.plan (strayed stray m) k answer w → refuses (number_of answer) ≡ true
      → Chain M plan (returned stray m w) cs end → Chain M plan m (stray_asked stray k answer ∷ cs) end
  stray_run : {m end : Moment} {w : Buffers} {cs : List Called} (stray : Stray) (q : ℕ) (answer : Ran)
      → M.run stray.plan (strayed stray m) q answer w → (answer.number ≡ 0 → ⊥)
      → Chain M plan (returned stray m w) cs end → Chain M plan m (stray_allowed stray q answer ∷ cs) end

-- the new steps of a chain, as its answers say: one where a step is answered 0, a run's count, none for another's call
unfoldable pub new_steps : List Called → ℕ
new_steps [] = 0
new_steps (asked k answer ∷ cs) = cond (eqb (number_of answer) 0) 1 0 + new_steps cs
new_steps (allowed q answer ∷ cs) = answer.count + new_steps cs
new_steps (stray_asked stray k answer ∷ cs) = new_steps cs
new_steps (stray_allowed stray q answer ∷ cs) = new_steps cs
