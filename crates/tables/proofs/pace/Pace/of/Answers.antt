-- `tables::pace::Pace::of` meets its contract: M/(BD) and N/(BD), in powers of two, for each phase. Assumes nothing.
use Prim.Native.Nat.{◌^◌, ◌≤◌}
use native.Mathlib.Omega.{arith}
use lib.ListN.{length}
use Rattle.bank.specs.Geometry.{records, tiers}
use Rattle.bank.specs.Limits.{ROWS}
use Rattle.totals.proofs.Total.{few_phases, phases_small, records_small, stripe_small}
use Rattle.planning.specs.Pass.{load_steps, pass_steps, phases}
use Rattle.planning.specs.Stored.{route_of}
use Rattle.tables.proofs.Sizes.{tiers_small}
use Rattle.bank.proofs.Limits.{Allowed, limits→allowed}
use Rattle.tables.proofs.pace.Pace.of.Goals as goal

pub overflow_mul-stripe : goal.overflow_mul-stripe
overflow_mul-stripe c =
    let ok : Allowed c.args.plan.geometry =
    limits→allowed c.args.plan.geometry c.requires in
    record { fits = rw (c.power.ensures, c.power-2.ensures) (omega (arith, stripe_small c.args.plan.geometry ok)) }

pub overflow_mul-result : goal.overflow_mul-result
unfolding tiers
overflow_mul-result c =
    let ok : Allowed c.args.plan.geometry =
    limits→allowed c.args.plan.geometry c.requires in
    let g = c.args.plan.geometry in
    let route = route_of c.args.plan in
    let few : tiers g ≤ 2 ^ ROWS = omega (arith, tiers_small ok, records_small g ok) in
    record {
      fits = rw (c.power.ensures, c.power-2.ensures, c.power-3.ensures, c.phases-kinds.ensures)
          (omega (arith, phases_small (length (phases route)) (tiers g) (few_phases route) few));
    }

pub overflow_mul-result-2 : goal.overflow_mul-result-2
overflow_mul-result-2 c =
    let ok : Allowed c.args.plan.geometry =
    limits→allowed c.args.plan.geometry c.requires in
    let g = c.args.plan.geometry in
    let route = route_of c.args.plan in
    record {
      fits = rw (c.power-4.ensures, c.phases-kinds.ensures)
          (omega (arith, phases_small (length (phases route)) (records g) (few_phases route) (records_small g ok)));
    }

pub returns : goal.returns
unfolding tiers load_steps pass_steps route_of
returns c =
    rw (
      c.power.ensures,
      c.power-2.ensures,
      c.power-3.ensures,
      c.power-4.ensures,
      c.phases-kinds.ensures,
    )
