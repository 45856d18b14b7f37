-- Why are the moves by a pass's tables the moves of the plan? Assumes nothing.
use mathlib.Core.Path.{◌≡◌, refl, sym, ap, subst, ◌∙◌}
use mathlib.Core.Bool.{true}
use Prim.Native.Nat.{ℕ, zero, suc, ◌+◌, ◌*◌, ◌/◌, ◌%◌, ◌≤◌, ◌<◌, ◌^◌}
use native.Mathlib.Nat.{div-add-mod'}
use native.Mathlib.Omega.{arith}
use lib.Arith.{digits_div}
use lib.ListN.{length}
use Rattle.bank.specs.Geometry.{block, drives, records}
use Rattle.bank.specs.Limits.{PASSES}
use Rattle.moving.proofs.Numbers.{pass_of_lt, pass_pos}
use Rattle.moving.specs.Number.{load_of, pass_of, tier_of}
use Rattle.moving.specs.Step.{Buffers, move, moves_from, buffers_fit}
use Rattle.totals.proofs.Total.{few_phases, records_small, total_small}
use Rattle.planning.proofs.Stored.{route_length}
use Rattle.planning.specs.Pass.{Route, pass_steps, phases, total}
use Rattle.planning.specs.Stored.{route_of}
use Rattle.planning.specs.declared.Plan.{Plan}
use Rattle.tables.proofs.Paces.{phase_same}
use Rattle.tables.proofs.Plans.{pass_same, plan_prepared}
use Rattle.blocks.specs.Moving.{MoveReady, move_by}
use Rattle.tables.specs.Tables.{tables_for, tables_of}
use Rattle.tables.specs.declared.tables.Tables.{Tables}
use Rattle.planning.specs.Inner.{Runs}
use Rattle.bank.proofs.Limits.{Allowed}
use Rattle.moving.proofs.Moves.{from_from}
use Rattle.planning.proofs.Running.{runs_allowed}

module _ (plan : Plan) (k : Runs (route_of plan)) (p : ℕ) (h : p < plan.count) where
  -- a step of pass p, and some steps
  pub move_same : (s : ℕ) (v : Buffers) → pass_of (route_of plan) s ≡ p → move_by (tables_of plan p) s v ≡ move (route_of plan) s v
  unfolding move_by tables_of tables_for move route_of load_of tier_of
  move_same s v e = rw (phase_same (route_of plan) (runs_allowed (route_of plan) k) s, pass_same plan k p h, e)

  moves_same : (s n : ℕ) (v : Buffers) → ((i : ℕ) → i < n → pass_of (route_of plan) (s + i) ≡ p)
      → moves_from (move_by (tables_of plan p)) s n v ≡ moves_from (move (route_of plan)) s n v
  unfolding moves_from
  moves_same s zero v f = refl
  moves_same s (suc n) v f =
      ap (move_by (tables_of plan p) (s + n)) (moves_same s n v (λ i l. f i (omega arith)))
      ∙ move_same (s + n) (moves_from (move (route_of plan)) s n v) (f n (omega arith))

-- steps up to the end of a pass are of the pass
same_pass : (route : Route) (s i : ℕ) → s % pass_steps route + i < pass_steps route → pass_of route (s + i) ≡ s / pass_steps route
unfolding pass_of
same_pass route s i h =
    ap (λ (n : ℕ). n / pass_steps route) (omega (arith, div-add-mod' s (pass_steps route)))
    ∙ digits_div (s / pass_steps route) {m = pass_steps route} {r = s % pass_steps route + i} h

-- ---- a plan that can run, pass by pass

-- a total is small
pub total_fits : (route : Route) → Allowed route.geometry → length route.passes ≤ PASSES → total route < 2 ^ 64
unfolding total pass_steps
total_fits route ok few =
    let g = route.geometry in
    omega (arith, total_small (length (phases route)) (records g) (block g * drives g) (length route.passes) (few_phases route) (records_small g ok) few)

module _ (plan : Plan) (k : Runs (route_of plan)) where
  pub plan_total : total (route_of plan) < 2 ^ 64
  plan_total = total_fits (route_of plan) (runs_allowed (route_of plan) k) k.few_passes

  pub steps_pos : 0 < pass_steps (route_of plan)
  steps_pos = pass_pos (route_of plan) (runs_allowed (route_of plan) k)

  -- the pass of a step that the plan has
  pub pass_in_lem : (s : ℕ) → s < total (route_of plan) → pass_of (route_of plan) s < plan.count
  pass_in_lem s h =
      subst (λ (n : ℕ). pass_of (route_of plan) s < n) (route_length plan)
      (pass_of_lt (route_of plan) (runs_allowed (route_of plan) k) s (length (route_of plan).passes) (unfold total in h))

  pub plan_moves : (p : ℕ) → p < plan.count → (v : Buffers) → buffers_fit plan.geometry v ≡ true → MoveReady (tables_of plan p) v
  unfolding tables_of tables_for
  plan_moves p h v f = record { prepared = plan_prepared plan k p h; fitting = f }

  -- steps done before, and n more up to the end of their pass
  pub pass_once : (first done n p : ℕ) {t : Tables} (v : Buffers) {w : Buffers} → p < plan.count → t ≡ tables_of plan p
      → p ≡ (first + done) / pass_steps (route_of plan)
      → (first + done) % pass_steps (route_of plan) + n ≤ pass_steps (route_of plan) → w ≡ moves_from (move (route_of plan)) first done v
      → moves_from (move_by t) (first + done) n w ≡ moves_from (move (route_of plan)) first (done + n) v
  pass_once first done n p {t} v {w} h et ep fit ew =
      ap (λ (x : Tables). moves_from (move_by x) (first + done) n w) et
      ∙ moves_same plan k p h (first + done) n w (λ i l. same_pass (route_of plan) (first + done) i (omega arith) ∙ sym ep)
      ∙ ap (moves_from (move (route_of plan)) (first + done) n) ew
      ∙ from_from (move (route_of plan)) first done n v

  -- and its pass, as code works it out
  pub quotient_in : (s each : ℕ) → each ≡ pass_steps (route_of plan) → s < total (route_of plan) → s / each < plan.count
  unfolding pass_of
  quotient_in s each e h = subst (λ (n : ℕ). s / n < plan.count) (sym e) (pass_in_lem s h)
