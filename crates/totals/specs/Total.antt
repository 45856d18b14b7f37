-- How many steps has a plan, and where does its result lie? Assumes nothing.
use Rattle.std.specs.Prelude.{cond, ◌&&◌, ℕ, ◌%◌}
use Rattle.bank.specs.Geometry.{in_limits}
use Rattle.planning.specs.declared.Plan.{Plan}
use Rattle.planning.specs.Pass.{total}
use Rattle.planning.specs.Stored.{route_of}
use Rattle.planning.specs.Running.{count_in_limits}

-- the total of a plan; 0 where its geometry or its pass count is outside the limits
unfoldable pub total_steps : Plan → ℕ
total_steps plan = cond (in_limits plan.geometry && count_in_limits plan) (total (route_of plan)) 0

-- the area where the result lies: 0 or 1
unfoldable pub result_area : Plan → ℕ
result_area plan = plan.count % 2
