-- How does a pace take step numbers apart? Assumes nothing.
use mathlib.Core.Path.{◌≡◌, refl, subst, sym}
use mathlib.Core.Bool.{Bool, cond, false, true}
use mathlib.Core.List.{[], ◌∷◌}
use Prim.Native.Nat.{ℕ, zero, suc, ◌/◌, ◌%◌, ◌<◌}
use native.Mathlib.Omega.{arith}
use lib.ListN.{get_or, length}
use Rattle.bank.specs.declared.Geometry.{Geometry}
use Rattle.bank.specs.Geometry.{loads, tiers}
use Rattle.moving.proofs.Numbers.{load_of_lt, load_pos, pass_pos, phase_of_lt, tiers_pos, tier_of_lt}
use Rattle.moving.specs.Number.{load_of, phase_of, tier_of}
use Rattle.planning.specs.declared.Phase.TheVariants.{Reads, Writes, Blanks}
use Rattle.planning.specs.declared.Plan.{Plan}
use Rattle.planning.specs.Pass.{Route, load_steps, pass_steps, phases}
use Rattle.planning.specs.Stored.{route_of}
use Rattle.tables.specs.Pace.{Paced, pace_of, phase_at, standing_at}
use Rattle.tables.specs.declared.pace.Pace.{Pace}
use Rattle.bank.proofs.Limits.{Allowed}

-- the phases, place by place, with blanks and without
phase_by : (b : Bool) (k : ℕ) → let l = cond b (Reads ∷ Writes ∷ Blanks ∷ []) (Reads ∷ Writes ∷ []) in k < length l → phase_at k ≡ get_or l k Writes
unfolding phase_at
phase_by true zero h = refl
phase_by true (suc zero) h = refl
phase_by true (suc (suc zero)) h = refl
phase_by true (suc (suc (suc k))) h = absurd (omega arith)
phase_by false zero h = refl
phase_by false (suc zero) h = refl
phase_by false (suc (suc k)) h = absurd (omega arith)

phase_here : (route : Route) (k : ℕ) → k < length (phases route) → phase_at k ≡ get_or (phases route) k Writes
unfolding phases
phase_here route k h = phase_by route.blanks k h

-- the phase of a step, at the pace of its route
pub phase_same : (route : Route) → Allowed route.geometry → (s : ℕ) → (standing_at (pace_of route) s).phase ≡ phase_of route s
unfolding phase_of
phase_same route ok s = phase_here route (s % pass_steps route % load_steps route / tiers route.geometry) (phase_of_lt route ok s)

pub plan_paced : (plan : Plan) → Paced plan.geometry (pace_of (route_of plan))
unfolding route_of
plan_paced plan = record { route = route_of plan; geometry_is = refl; pace_is = refl }

module _ {g : Geometry} {pace : Pace} (k : Paced g pace) (ok : Allowed g) where
  allowed : Allowed k.route.geometry
  allowed = subst Allowed (sym k.geometry_is) ok

  -- the divisors aren't zero
  pub pace_pos : (0 < pace.phase) × (0 < pace.load) × (0 < pace.pass)
  pace_pos = rw k.pace_is (tiers_pos k.route.geometry allowed, load_pos k.route allowed, pass_pos k.route allowed)

  -- a load of the pass, and a tier of the phase
  pub load_in_pass : (s : ℕ) → (standing_at pace s).load < loads g
  unfolding load_of
  load_in_pass s = rw k.pace_is (subst (λ (h : Geometry). load_of k.route s < loads h) k.geometry_is (load_of_lt k.route allowed s))

  pub tier_in_load : (s : ℕ) → (standing_at pace s).tier < tiers g
  unfolding tier_of
  tier_in_load s = rw k.pace_is (subst (λ (h : Geometry). tier_of k.route s < tiers h) k.geometry_is (tier_of_lt k.route allowed s))
