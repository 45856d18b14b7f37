-- What do steps leave that are sent in turn, each more than once? Assumes nothing.
use Rattle.std.specs.Prelude.{◌≡◌, true, ℕ, zero, suc, ◌+◌}
use Rattle.planning.specs.declared.Plan.{Plan}
use Rattle.planning.specs.Running.{sound}
use Rattle.totals.specs.Total.{total_steps}
use Rattle.moving.specs.Step.{Buffers, buffers_fit}
use Rattle.moving.specs.Call.{Moment, begun, stepped, ran}

-- step k asked i times, one after the other
unfoldable pub asked_times : Plan → ℕ → ℕ → Moment → Moment
asked_times plan k zero m = m
asked_times plan k (suc i) m = stepped plan (asked_times plan k i m) k

-- the first k steps in turn, each asked once and then `again` times more
unfoldable pub asked_in_turn : Plan → ℕ → ℕ → Moment → Moment
asked_in_turn plan again zero m = m
asked_in_turn plan again (suc k) m = asked_times plan k (again + 1) (asked_in_turn plan again k m)

-- however often each step is sent again, no byte tells: every step of a plan that can run leaves what one run of them all leaves
abbrev pub SentIsRun : Type 0
SentIsRun =
    (plan : Plan) (v : Buffers) (again : ℕ) → sound plan ≡ true → buffers_fit plan.geometry v ≡ true
    → (asked_in_turn plan again (total_steps plan) (begun v)).buffers ≡ (ran plan (begun v) (total_steps plan)).buffers
