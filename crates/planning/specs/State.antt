-- What is a state, and which state follows k new steps? Assumes nothing.
use Rattle.std.specs.Prelude.{cond, ℕ, ◌+◌, ◌^◌, ltb}
use Rattle.planning.specs.declared.state.State.{State}

-- the next step is step 0
abbrev pub fresh_state : State
fresh_state = record { next = record { 0 = 0 } }

-- the state k new steps further
abbrev pub further_by : State → ℕ → State
further_by state k = record { next = record { 0 = state.next.0 + k } }

-- k steps further, where a step number can be so large
unfoldable pub advanced_by : State → ℕ → State
advanced_by state k = cond (ltb (state.next.0 + k) (2 ^ 64)) (further_by state k) state
