-- Why does a plan that doesn't blank do what it did before a plan could? Assumes nothing.
use mathlib.Core.Path.{◌≡◌, ◌∙◌, ap, ap₂, refl, sym}
use mathlib.Core.Bool.{Bool, false, not, cond, ◌&&◌}
use mathlib.Core.List.{[], ◌∷◌}
use mathlib.Core.Logic.{◌↔◌}
use Prim.Native.Nat.{ℕ, zero, suc, ◌-◌, ◌*◌, ◌/◌, ◌%◌, min}
use native.Mathlib.Omega.{arith}
use borrow.Author.Tests.{ne_eqb}
use lib.Dec.{eqb, leb}
use lib.ListN.{get_or, length}
use Rattle.bank.specs.Checks.{handed, refuse}
use Rattle.bank.specs.declared.Geometry.{Geometry}
use Rattle.bank.specs.Geometry.{block, drives, in_limits, records, tiers}
use Rattle.order.specs.declared.Order.{Order}
use Rattle.order.specs.Order.{judgement, matrix_of}
use Rattle.planning.specs.declared.Phase.TheVariants.{Reads, Writes, Blanks}
use Rattle.planning.specs.declared.Plan.{Plan}
use Rattle.planning.specs.declared.state.State.{State}
use Rattle.planning.specs.Pass.{load_steps, pass_at, pass_steps, phases, total}
use Rattle.planning.specs.Running.{can_run, count_in_limits, sound}
use Rattle.planning.specs.State.{further_by}
use Rattle.planning.specs.Stored.{empty_plan, plan_for, plan_of, route_of}
use Rattle.planning.proofs.Phases.{phases_are}
use Rattle.planning.proofs.Stored.{route_length}
use Rattle.plan.specs.Answer.{planned_for}
use Rattle.totals.specs.Total.{result_area, total_steps}
use Rattle.moving.specs.Number.{load_of, pass_of, phase_of, tier_of}
use Rattle.moving.specs.Step.{Buffers, buffers_fit, by_phase, move, moves_from, read_move, write_move}
use Rattle.moving.specs.Call.{Moment, buffers_by, ran, ready_number, run_count, run_number, state_by, step_number, stepped, turn_number}
use Rattle.mover.specs.declared.step.Stepped.{Stepped}
use Rattle.mover.specs.declared.run.Ran.{Ran}
use Rattle.mover.specs.Promise.{RunPromise, StepPromise, case_of}
use Rattle.demands.specs.Ours.{ours}
use Rattle.demands.specs.Unmarked.{PlainRun, PlainStep, Unmarked, plain_count, plain_move, plain_number, plain_pass, plain_ready, plain_total}

module _ (plan : Plan) (none : plan.blanks ≡ false) where
  -- two phases: so the steps of a load and of a pass are what they were
  two : length (phases (route_of plan)) ≡ 2
  unfolding route_of
  two = phases_are (route_of plan) ∙ ap (λ (b : Bool). cond b 3 2) none

  same_pass : pass_steps (route_of plan) ≡ plain_pass plan
  unfolding pass_steps route_of
  same_pass = ap (λ (k : ℕ). k * records plan.geometry / (block plan.geometry * drives plan.geometry)) two

  same_load : load_steps (route_of plan) ≡ 2 * tiers plan.geometry
  unfolding load_steps route_of
  same_load = ap (λ (k : ℕ). k * tiers plan.geometry) two

  same_total : total (route_of plan) ≡ plain_total plan
  unfolding total
  same_total = ap₂ (λ (i k : ℕ). i * k) same_pass (route_length plan)

  -- the first of the two phases are the reads, and every other step writes
  by_place : (k : ℕ) {A : Type 0} (r w z : A) → by_phase (get_or (phases (route_of plan)) k Writes) r w z ≡ cond (eqb k 0) r w
  unfolding phases route_of
  by_place k r w z = ap (λ (b : Bool). by_phase (get_or (cond b (Reads ∷ Writes ∷ Blanks ∷ []) (Reads ∷ Writes ∷ [])) k Writes) r w z) none ∙ at k
    where
      at : (k : ℕ) → by_phase (get_or (Reads ∷ Writes ∷ []) k Writes) r w z ≡ cond (eqb k 0) r w
      at zero = refl
      at (suc zero) = refl
      at (suc (suc k)) = rw (ne_eqb (suc (suc k)) 0 (λ e. omega (arith, e)))

  -- each step moves what it moved
  same_move : move (route_of plan) ≡ plain_move plan
  unfolding move phase_of pass_of load_of tier_of route_of
  same_move = λ i s v. each s v i
    where
      g : Geometry
      g = plan.geometry

      each : (s : ℕ) (v : Buffers) → move (route_of plan) s v ≡ plain_move plan s v
      each s v =
          by_place (s % pass_steps (route_of plan) % load_steps (route_of plan) / tiers g) _ _ _
          ∙ ap₂ (λ (pass load : ℕ).
          cond (eqb (s % pass % load / tiers g) 0) (read_move g (s / pass) (s % pass / load) (s % pass % load % tiers g) v)
          (write_move g (pass_at (route_of plan) (s / pass)) (s / pass) (s % pass / load) (s % pass % load % tiers g) v)) same_pass same_load

  -- it can run from the states from which it could
  same_can_run : (state : State) → can_run plan state ≡ sound plan && leb state.next.0 (plain_total plan)
  unfolding can_run
  same_can_run state = ap (λ (all : ℕ). sound plan && leb state.next.0 all) same_total

  module _ (m : Moment) where
    -- the numbers are what they were
    same_ready : (later : ℕ) → ready_number plan m later ≡ plain_ready plan m later
    unfolding ready_number buffers_fit
    same_ready later = ap (λ (c : Bool). refuse (not c) 7 (refuse (not (buffers_fit plan.geometry m.buffers)) 4 later)) (same_can_run m.state)

    same_number : (k : ℕ) → step_number plan m k ≡ plain_number plan m k
    unfolding step_number
    same_number k = same_ready _ ∙ ap (λ (all : ℕ). plain_ready plan m (turn_number all m.state.next.0 k)) same_total

    same_count : (q : ℕ) → run_count plan m q ≡ plain_count plan m q
    unfolding run_count run_number
    same_count q = ap₂ (λ (n all : ℕ). cond (eqb n 0) (min q (all - m.state.next.0)) 0) (same_ready 0) same_total

    step_same : (k : ℕ) (r : Stepped) (w : Buffers) → StepPromise plan m k r w ↔ PlainStep plan m k r w
    unfolding stepped
    step_same k r w =
        let answer = ap (λ (n : ℕ). case_of n (state_by n m.state)) (same_number k) in
        let bytes = ap₂ (λ (n : ℕ) (f : ℕ → Buffers → Buffers). buffers_by n (f k m.buffers) m.buffers) (same_number k) same_move in (
          λ p. record { answered = p.answered ∙ answer; bytes = p.bytes ∙ bytes },
          λ p. record { answered = p.answered ∙ sym answer; bytes = p.bytes ∙ sym bytes },
        )

    run_same : (q : ℕ) (r : Ran) (w : Buffers) → RunPromise plan m q r w ↔ PlainRun plan m q r w
    unfolding ran run_number
    run_same q r w =
        let number = same_ready 0 in
        let count = same_count q in
        let state = ap (further_by m.state) count in
        let bytes = ap₂ (λ (n : ℕ) (f : ℕ → Buffers → Buffers). moves_from f m.state.next.0 n m.buffers) count same_move in (
          λ p. record { number = p.number ∙ number; count = p.count ∙ count; state' = p.state' ∙ state; bytes = p.bytes ∙ bytes },
          λ p. record { number = p.number ∙ sym number; count = p.count ∙ sym count; state' = p.state' ∙ sym state; bytes = p.bytes ∙ sym bytes },
        )

-- what a plan holds but for whether it blanks
same_plan : (order : Order) (blanks : Bool) → let a = (planned_for order blanks).plan in let b = (planned_for order false).plan in
    (a.geometry ≡ b.geometry) × (a.count ≡ b.count) × (a.rows ≡ b.rows) × (a.complements ≡ b.complements)
unfolding planned_for plan_for plan_of
same_plan order blanks = by (judgement order)
  where
    made : Bool → ℕ → Plan
    made b k = handed k (plan_for order.geometry (matrix_of order) order.complement b) empty_plan

    by : (k : ℕ) → ((made blanks k).geometry ≡ (made false k).geometry) × ((made blanks k).count ≡ (made false k).count)
        × ((made blanks k).rows ≡ (made false k).rows) × ((made blanks k).complements ≡ (made false k).complements)
    by zero = (refl, refl, refl, refl)
    by (suc k) = (refl, refl, refl, refl)

pub ours-unmarked : Unmarked ours
unfolding planned_for total_steps result_area
ours-unmarked =
    record {
      total_is = λ plan none. ap (λ (all : ℕ). cond (in_limits plan.geometry && count_in_limits plan) all 0) (same_total plan none);
      area_is = λ plan none. refl;
      listed_total = same_total;
      runnable = same_can_run;
      step_is = step_same;
      run_is = run_same;
      same_number = λ order blanks. refl;
      same_z = λ order blanks. refl;
      same_plan = same_plan;
    }
