-- What does a step do, by the tables of its pass? Assumes nothing.
-- What proofs and inner contracts go by; the rules need none of it.
use Rattle.std.specs.Prelude.{◌≡◌, true, List, ℕ, ◌+◌, ◌*◌, ◌<◌, ◌≤◌, length}
use Rattle.bank.specs.Geometry.{loads, memory_size, records, tiers}
use Rattle.planning.specs.declared.Plan.{Plan}
use Rattle.planning.specs.Pass.{total}
use Rattle.planning.specs.Stored.{route_of}
use Rattle.moving.specs.Bytes.{copied, zeroed}
use Rattle.moving.specs.Step.{Buffers, blank_move, blank_takes, buffers_fit, by_phase, read_from, read_move, read_takes, write_from, write_move, write_takes}
use Rattle.tables.specs.Tables.{Prepared, pass_for}
use Rattle.tables.specs.Pace.{standing_at}
use Rattle.tables.specs.declared.tables.Tables.{Tables}
use Rattle.tables.specs.declared.pace.Standing.{Standing}
use Rattle.planning.specs.Inner.{Runs}
use Rattle.stripes.specs.Stripe.{ReadReady}

-- a write that is one of the load's, on an area and a memory of their lengths
pub record WriteReady (t : Tables) (load tier : ℕ) (area mem : List ℕ) : Type 0 where
  pub prepared : Prepared t
  pub in_load_lem : ReadReady t.geometry load tier area mem

-- the area read after a step that stands there: a blank alone changes it
abbrev pub from_after : Tables → Standing → List ℕ → List ℕ
from_after t at from = by_phase at.phase from from (zeroed (blank_takes t.geometry at.load at.tier) t.geometry.r from)

-- the area written after a step that stands there: a write alone changes it
abbrev pub to_after : Tables → Standing → List ℕ → List ℕ → List ℕ
to_after t at to mem =
    by_phase at.phase to
    (copied (write_takes t.geometry (pass_for t) at.load at.tier) (write_from t.geometry (pass_for t)) t.geometry.r mem to)
    to

-- memory after a step that stands there: a write leaves it as it is
abbrev pub memory_after : Tables → Standing → List ℕ → List ℕ → List ℕ
memory_after t at from mem =
    by_phase at.phase (copied (read_takes t.geometry at.tier) (read_from t.geometry at.load) t.geometry.r from mem) mem
    (zeroed (read_takes t.geometry at.tier) t.geometry.r mem)

-- what a step that stands there asks of the area read, the area written and memory
pub record BetweenReady (t : Tables) (at : Standing) (from to mem : List ℕ) : Type 0 where
  pub prepared : Prepared t
  pub load_in : at.load < loads t.geometry
  pub tier_in : at.tier < tiers t.geometry
  pub from_long : length from ≡ records t.geometry * t.geometry.r
  pub to_long : length to ≡ records t.geometry * t.geometry.r
  pub memory_long : length mem ≡ memory_size t.geometry * t.geometry.r

-- the move of a step that stands there
abbrev pub move_at : Tables → Standing → Buffers → Buffers
move_at t at v =
    by_phase at.phase (read_move t.geometry t.pass at.load at.tier v)
    (write_move t.geometry (pass_for t) t.pass at.load at.tier v)
    (blank_move t.geometry t.pass at.load at.tier v)

-- the move of step s
unfoldable pub move_by : Tables → ℕ → Buffers → Buffers
move_by t s v = move_at t (standing_at t.pace s) v

-- what a move asks of the tables and the buffers
pub record MoveReady (t : Tables) (v : Buffers) : Type 0 where
  pub prepared : Prepared t
  pub fitting : buffers_fit t.geometry v ≡ true

-- steps that a plan has, on buffers of their lengths
pub record StepsReady (plan : Plan) (s k : ℕ) (v : Buffers) : Type 0 where
  pub runs : Runs (route_of plan)
  pub in_total : s + k ≤ total (route_of plan)
  pub fitting : buffers_fit plan.geometry v ≡ true
