-- When can a plan run, whoever made it? Number 7, condition by condition. Assumes nothing.
use Rattle.std.specs.Prelude.{Bool, not, ◌&&◌, ◌||◌, ℕ, ◌+◌, ◌*◌, ◌/◌, ◌%◌, eqb, leb, get_or}
use Rattle.bank.specs.Limits.{ROWS, PASSES}
use Rattle.bank.specs.Geometry.{in_limits, records}
use Rattle.algebra.specs.Search.{any_below}
use Rattle.algebra.specs.Matrix.{singular, spills}
use Rattle.planning.specs.Pass.{pass_at, total}
use Rattle.planning.specs.Stored.{route_of}
use Rattle.planning.specs.declared.Plan.{Plan}
use Rattle.planning.specs.declared.state.State.{State}

-- the pass count is 0 to as many as there is room for
unfoldable pub count_in_limits : Plan → Bool
count_in_limits plan = leb plan.count PASSES

-- a used row has a bit at n or above
unfoldable pub stray_row : Plan → Bool
stray_row plan = any_below (λ p. any_below (λ i. leb (records plan.geometry) (get_or plan.rows (p * ROWS + i) 0)) plan.geometry.n) plan.count

-- a used complement has a bit at n or above
unfoldable pub stray_complement : Plan → Bool
stray_complement plan = any_below (λ p. leb (records plan.geometry) (get_or plan.complements p 0)) plan.count

-- a place for a row is meant to be zero: its pass isn't used, or its row is n or above
unfoldable pub meant_zero : Plan → ℕ → Bool
meant_zero plan q = leb plan.count (q / ROWS) || leb plan.geometry.n (q % ROWS)

-- a place for a row that is meant to be zero isn't
unfoldable pub spare_row : Plan → Bool
spare_row plan = any_below (λ q. meant_zero plan q && not (eqb (get_or plan.rows q 0) 0)) (PASSES * ROWS)

-- the complement of a pass that isn't used isn't zero
unfoldable pub spare_complement : Plan → Bool
spare_complement plan = any_below (λ p. leb plan.count p && not (eqb (get_or plan.complements p 0) 0)) PASSES

-- a used pass is singular
unfoldable pub singular_pass : Plan → Bool
singular_pass plan = any_below (λ p. singular plan.geometry.n (pass_at (route_of plan) p).rows) plan.count

-- a used pass spills
unfoldable pub spilling_pass : Plan → Bool
spilling_pass plan = any_below (λ p. spills plan.geometry.b plan.geometry.m (pass_at (route_of plan) p).rows) plan.count

-- the plan is one that can run, leaving the state aside
unfoldable pub sound : Plan → Bool
sound plan =
    in_limits plan.geometry && count_in_limits plan && not (stray_row plan) && not (stray_complement plan) && not (spare_row plan)
    && not (spare_complement plan) && not (singular_pass plan) && not (spilling_pass plan)

-- the plan can run, and the state's next step isn't above the total
unfoldable pub can_run : Plan → State → Bool
can_run plan state = sound plan && leb state.next.0 (total (route_of plan))
