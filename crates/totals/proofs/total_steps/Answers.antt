-- `totals::total_steps` meets its contract: in powers of two, small enough not to wrap. Assumes nothing.
use mathlib.Core.Path.{ap₂, sym, ◌∙◌}
use Prim.Native.Nat.{◌*◌, ◌^◌, ◌≤◌}
use native.Mathlib.Omega.{arith}
use Rattle.planning.specs.Stored.{route_of}
use Rattle.totals.proofs.Total.{few_phases, phases_small, records_small, size_allowed, size_few}
use Rattle.totals.proofs.Total.{stripe_small, stripe_some, total_from, total_small}
use Rattle.bank.specs.Limits.{PASSES, ROWS}
use Rattle.totals.specs.Total.{total_steps}
use Rattle.totals.proofs.total_steps.Goals as goal

pub returns-then-not-size_in_limits : goal.returns-then-not-size_in_limits
unfolding total_steps
returns-then-not-size_in_limits c = sym (rw (total_steps, sym c.size_in_limits.ensures ∙ c.if-not-size_in_limits.true))

pub power-size-requires : goal.power-size-requires
power-size-requires c =
    let k = size_allowed c.args.plan (sym c.size_in_limits.ensures ∙ c.if-not-size_in_limits.false) in
    omega (arith, k.n_high)

pub power-block-requires : goal.power-block-requires
power-block-requires c =
    let k = size_allowed c.args.plan (sym c.size_in_limits.ensures ∙ c.if-not-size_in_limits.false) in
    omega (arith, k.n_high, k.memory_below, k.block_below)

pub power-drives-requires : goal.power-drives-requires
power-drives-requires c =
    let k = size_allowed c.args.plan (sym c.size_in_limits.ensures ∙ c.if-not-size_in_limits.false) in
    omega (arith, k.n_high, k.memory_below, k.drives_fit)

pub overflow_mul-result : goal.overflow_mul-result
overflow_mul-result c =
    let size = c.power-size in
    let plan = c.args.plan in
    let small = records_small plan.geometry (size_allowed plan (sym c.size_in_limits.ensures ∙ c.if-not-size_in_limits.false)) in
    let few : c.phases.result ≤ 4 = omega (arith, c.phases.ensures, few_phases (route_of plan)) in
    omega (arith, phases_small c.phases.result size.result few (omega (arith, small, size.ensures)))

pub overflow_mul-result-2 : goal.overflow_mul-result-2
overflow_mul-result-2 c =
    let plan = c.args.plan in
    let small = stripe_small plan.geometry (size_allowed plan (sym c.size_in_limits.ensures ∙ c.if-not-size_in_limits.false)) in
    omega (arith, small, ap₂ ◌*◌ c.power-block.ensures c.power-drives.ensures)

pub nonzero_div-result : goal.nonzero_div-result
nonzero_div-result c =
    let g = c.args.plan.geometry in
    omega (arith, stripe_some g, ap₂ ◌*◌ c.power-block.ensures c.power-drives.ensures)

pub overflow_mul-result-3 : goal.overflow_mul-result-3
overflow_mul-result-3 c =
    let phases = c.phases in
    let size = c.power-size in
    let part = c.power-block.result * c.power-drives.result in
    let plan = c.args.plan in
    let inside = sym c.size_in_limits.ensures ∙ c.if-not-size_in_limits.false in
    let few : phases.result ≤ 4 = omega (arith, phases.ensures, few_phases (route_of plan)) in
    let small : size.result ≤ 2 ^ ROWS = omega (arith, records_small plan.geometry (size_allowed plan inside), size.ensures) in
    let count : c.from.result ≤ PASSES = omega (arith, size_few plan inside, c.from.ensures) in
    omega (arith, total_small phases.result size.result part c.from.result few small count)

pub returns : goal.returns
returns c =
    let phases = c.phases in
    let size = c.power-size in
    let block = c.power-block in
    let drives = c.power-drives in
    total_from c.args.plan (sym c.size_in_limits.ensures ∙ c.if-not-size_in_limits.false) phases.result size.result
    block.result drives.result c.from.result phases.ensures size.ensures block.ensures drives.ensures c.from.ensures
