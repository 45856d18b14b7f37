-- What does a run know of the pass that it is in? Assumes nothing.
use mathlib.Core.Path.{◌≡◌, ap}
use Prim.Native.Nat.{ℕ, ◌/◌, ◌%◌, ◌<◌}
use native.Mathlib.Nat.{mod-lt}
use Rattle.blocks.proofs.Plans.{quotient_in, steps_pos}
use Rattle.planning.specs.Inner.{Runs}
use Rattle.planning.specs.Pass.{pass_steps, total}
use Rattle.planning.specs.Stored.{route_of}
use Rattle.planning.specs.declared.Plan.{Plan}
use Rattle.tables.specs.Pace.{pace_of}
use Rattle.tables.specs.declared.pace.Pace.{Pace}

module _ (plan : Plan) (k : Runs (route_of plan)) {pace : Pace} (e : pace ≡ pace_of (route_of plan)) where
  pub each_is : pace.pass ≡ pass_steps (route_of plan)
  each_is = ap (λ (p : Pace). p.pass) e

  pub each_pos : 0 < pace.pass
  each_pos = rw e (steps_pos plan k)

  pub left_lt : (s : ℕ) → s % pace.pass < pace.pass
  left_lt s = mod-lt s each_pos

  pub pass_here : (s : ℕ) → s < total (route_of plan) → s / pace.pass < plan.count
  pass_here s h = quotient_in plan k s pace.pass each_is h
