-- What do lent buffers hold, and when are they the same ones? Assumes nothing.
-- What proofs and inner contracts go by; the rules need none of it.
use Rattle.std.specs.Prelude.{◌≡◌, ℕ, length}
use Rattle.planning.specs.declared.Plan.{Plan}
use Rattle.planning.specs.declared.state.State.{State}
use Rattle.moving.specs.Call.{ready_by}
use Rattle.moving.specs.Step.{Buffers, buffers_of}
use Rattle.mover.specs.declared.lent.Lent.{Lent}

-- the bytes of all three
abbrev pub bytes_in : Lent → Buffers
bytes_in v = buffers_of v.area0.now v.area1.now v.memory.now

-- what is checked first, of a plan and a state with them
abbrev pub ready_with : Plan → State → Lent → ℕ → ℕ
ready_with plan state v later = ready_by plan state (length v.area0.now) (length v.area1.now) (length v.memory.now) later

-- the same three, which keep their lengths
pub record SameLent (v w : Lent) : Type 0 where
  pub area0_same : w.area0.ghost_name ≡ v.area0.ghost_name
  pub area1_same : w.area1.ghost_name ≡ v.area1.ghost_name
  pub memory_same : w.memory.ghost_name ≡ v.memory.ghost_name
  pub area0_long : length w.area0.now ≡ length v.area0.now
  pub area1_long : length w.area1.now ≡ length v.area1.now
  pub memory_long : length w.memory.now ≡ length v.memory.now
