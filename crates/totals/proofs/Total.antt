-- What does a plan total, and why does it fit its number? Assumes nothing.
use mathlib.Core.Path.{◌≡◌, sym, subst, ap, ◌∙◌}
use mathlib.Core.Bool.{Bool, true, false, cond, ◌&&◌}
use Prim.Native.Nat.{ℕ, ◌+◌, ◌*◌, ◌/◌, ◌^◌, ◌≤◌, ◌<◌}
use native.Mathlib.Nat.{div-le_self, mul-le-mul, mul-pos}
use native.Mathlib.Omega.{arith}
use borrow.Author.Tests.{leb-true}
use lib.Dec.{leb}
use lib.ListN.{length}
use lib.Pow.{pow-add, pow_mono, pow_pos}
use Rattle.algebra.proofs.Search.{and_l, and_r}
use Rattle.bank.specs.Limits.{ROWS, PASSES}
use Rattle.bank.specs.Geometry.{in_limits}
use Rattle.bank.specs.declared.Geometry.{Geometry}
use Rattle.bank.proofs.Limits.{limits→allowed, Allowed}
use Rattle.planning.specs.Pass.{Route, pass_steps, phases, total}
use Rattle.planning.specs.Running.{count_in_limits}
use Rattle.planning.specs.Stored.{route_of}
use Rattle.planning.specs.declared.Plan.{Plan}
use Rattle.planning.proofs.Phases.{phases_are}
use Rattle.planning.proofs.Stored.{route_length}
use Rattle.totals.specs.Total.{total_steps}

-- ---- the geometry and the number of passes
module _ (plan : Plan) where
  pub size_asked : in_limits plan.geometry ≡ true → in_limits plan.geometry && count_in_limits plan ≡ leb plan.count PASSES
  unfolding count_in_limits
  size_asked e = rw e

module _ (plan : Plan) (inside : in_limits plan.geometry && count_in_limits plan ≡ true) where
  pub size_allowed : Allowed plan.geometry
  size_allowed = limits→allowed plan.geometry (and_l (in_limits plan.geometry) (count_in_limits plan) inside)

  pub size_few : plan.count ≤ PASSES
  unfolding count_in_limits
  size_few = leb-true plan.count PASSES (and_r (in_limits plan.geometry) (leb plan.count PASSES) inside)

-- ---- the total
module _ (plan : Plan) (inside : in_limits plan.geometry && count_in_limits plan ≡ true) where
  pub total_inside : total_steps plan ≡ total (route_of plan)
  unfolding total_steps
  total_inside = rw inside

  -- from the phases, N, B, D and the passes
  pub total_from : (kinds size block drives count : ℕ) → kinds ≡ length (phases (route_of plan)) → size ≡ 2 ^ plan.geometry.n
      → block ≡ 2 ^ plan.geometry.b → drives ≡ 2 ^ plan.geometry.d → count ≡ plan.count
      → kinds * size / (block * drives) * count ≡ total_steps plan
  total_from kinds size block drives count is_f is-n is_b is-d is-count =
      let g = plan.geometry in
      rw (is_f, is-n, is_b, is-d, is-count)
      (sym (total_inside ∙ unfold total pass_steps route_of in
      ap (λ (k : ℕ). length (phases (route_of plan)) * 2 ^ g.n / (2 ^ g.b * 2 ^ g.d) * k) (route_length plan)))

-- N is small, and so is BD
module _ (g : Geometry) (k : Allowed g) where
  pub records_small : 2 ^ g.n ≤ 2 ^ ROWS
  records_small = pow_mono k.n_high

  pub stripe_small : 2 ^ g.b * 2 ^ g.d ≤ 2 ^ ROWS
  stripe_small = rw (← pow-add 2 g.b g.d) (pow_mono {i = g.b + g.d} {j = ROWS} (omega (arith, k.drives_fit, k.memory_below, k.n_high)))

pub stripe_some : (g : Geometry) → 0 < 2 ^ g.b * 2 ^ g.d
stripe_some g = mul-pos (pow_pos g.b) (pow_pos g.d)

-- a memoryload has so few phases that N for each of them is small
pub few_phases : (route : Route) → length (phases route) ≤ 4
few_phases route = subst (λ (k : ℕ). k ≤ 4) (sym (phases_are route)) (by route.blanks)
  where
    by : (b : Bool) → cond b 3 2 ≤ 4
    by true = omega arith
    by false = omega arith

pub phases_small : (kinds size : ℕ) → kinds ≤ 4 → size ≤ 2 ^ ROWS → kinds * size ≤ 4 * 2 ^ ROWS
phases_small kinds size few h = mul-le-mul {n₁ = kinds} {m₁ = size} {n₂ = 4} {m₂ = 2 ^ ROWS} few h

-- and so is a part of that, taken for each pass
pub total_small : (kinds size part count : ℕ) → kinds ≤ 4 → size ≤ 2 ^ ROWS → count ≤ PASSES → kinds * size / part * count ≤ 4 * 2 ^ ROWS * PASSES
total_small kinds size part count few h passes =
    mul-le-mul {n₁ = kinds * size / part} {m₁ = count} {n₂ = 4 * 2 ^ ROWS} {m₂ = PASSES}
    (omega (arith, div-le_self (kinds * size) part, phases_small kinds size few h)) passes
