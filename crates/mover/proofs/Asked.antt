-- What does the number of a call give, and why is each answer the promised one? Assumes nothing.
use mathlib.Core.Path.{◌≡◌, refl, sym, ap, ap₂, ◌∙◌}
use mathlib.Core.Bool.{Bool, true, false, cond, not, ◌&&◌, ◌||◌}
use Prim.Native.Nat.{ℕ, ◌+◌, ◌-◌, ◌*◌, ◌<◌, ◌≤◌, ◌^◌, min}
use native.Mathlib.Omega.{arith}
use borrow.Author.Tests.{lt-ltb, ne_eqb}
use lib.ListN.{length}
use Rattle.algebra.proofs.Search.{and_both}
use Rattle.bank.specs.Checks.{refuse}
use Rattle.bank.specs.Limits.{PASSES, ROWS}
use Rattle.moving.proofs.Calls.{CallReady, nine_means, refused_count, refused_keeps, refused_run, run_count_lem, run_ready}
use Rattle.moving.proofs.Calls.{step_done, step_nine, zero_means}
use Rattle.moving.specs.Call.{Moment, ran, ready_number, run_count, run_number, step_number, turn_number, ready_by}
use Rattle.moving.specs.Step.{Buffers, buffers_fit, move, moves_from}
use Rattle.totals.proofs.Total.{total_inside}
use Rattle.totals.specs.Total.{total_steps}
use Rattle.planning.proofs.Running.{sound_allowed, sound_few, sound→checked, sound→runs}
use Rattle.planning.proofs.Stored.{route_length}
use Rattle.planning.specs.Pass.{total}
use Rattle.planning.specs.Running.{count_in_limits, sound}
use Rattle.planning.specs.State.{advanced_by, further_by}
use Rattle.planning.specs.Stored.{route_of}
use Rattle.planning.specs.declared.Plan.{Plan}
use Rattle.planning.specs.declared.state.State.{State}
use Rattle.bank.specs.Geometry.{in_limits}
use Rattle.blocks.proofs.Plans.{total_fits}
use Rattle.blocks.specs.Moving.{StepsReady}
use Rattle.mover.specs.Promise.{RunPromise, StepPromise, case_of}
use Rattle.mover.specs.Turn.{number_told}
use Rattle.mover.specs.declared.step.Stepped.TheVariants as Stepped
use Rattle.mover.specs.declared.step.Stepped.TheVariants.{Done, Refused}
use Rattle.mover.specs.declared.step.Turn.TheVariants.{Next, Again}
use Rattle.mover.specs.declared.step.Turn.{Turn}
use Rattle.bank.proofs.Refusals.{refuses, never_nine}
use Rattle.bank.specs.Refusal.{number_of}
use Rattle.bank.specs.declared.refusal.Refusal.{Refusal}
use Rattle.std.proofs.Common.{Ok}
use Rattle.moving.proofs.Fits.{Fits→buffers_fit}

-- ---- the checks of both calls, and those after them

-- by whether the plan can run and the lengths fit, as code has them
abbrev checks : Bool → Bool → ℕ → ℕ
checks c f later = refuse (not c) 7 (refuse (not f) 4 later)

pub check_goes : (c f : Bool) (later : ℕ) → 0 ≡ checks c f 0 → (c ≡ true) × (later ≡ checks c f later)
check_goes false f later e = let z : ◌≡◌ {A = ℕ} 0 7 = e in absurd (omega arith)
check_goes true false later e = let z : ◌≡◌ {A = ℕ} 0 4 = e in absurd (omega arith)
check_goes true true later e = (refl, refl)

-- the total of a sound plan is the one that code works out, and fits
module _ (plan : Plan) (e : sound plan ≡ true) where
  inside : in_limits plan.geometry && count_in_limits plan ≡ true
  inside = let k = sound→checked plan e in and_both (in_limits plan.geometry) (count_in_limits plan) k.limits k.count

  pub total_is : total_steps plan ≡ total (route_of plan)
  total_is = total_inside plan inside

  pub total_small : total (route_of plan) < 2 ^ 64
  total_small = total_fits (route_of plan) (unfold route_of in sound_allowed plan e) (omega (arith, sound_few plan e, route_length plan))

-- a state goes further where there is such a step number
advanced→further : (state : State) (k : ℕ) → state.next.0 + k < 2 ^ 64 → advanced_by state k ≡ further_by state k
unfolding advanced_by
advanced→further state k h = ap (λ (b : Bool). cond b (further_by state k) state) (lt-ltb (state.next.0 + k) (2 ^ 64) h)

-- steps that the plan has can be made at a moment that a call takes
steps_ready : {plan : Plan} {before : Moment} → length plan.rows ≡ PASSES * ROWS → CallReady plan before
    → (s k : ℕ) → s + k ≤ total (route_of plan) → StepsReady plan s k before.buffers
steps_ready {plan} {before} long r s k m =
    record { runs = sound→runs plan long r.sound_plan; in_total = m; fitting = Fits→buffers_fit plan.geometry before.buffers r.fitting }

-- ---- a step

module _ (plan : Plan) (before : Moment) (asked : ℕ) where
  abbrev number : ℕ
  number = step_number plan before asked

  abbrev moved : Buffers
  moved = move (route_of plan) asked before.buffers

  -- the number that code works out from the lengths
  pub number_is : ready_by plan before.state (length before.buffers.area0) (length before.buffers.area1) (length before.buffers.memory)
      (turn_number (total (route_of plan)) before.state.next.0 asked) ≡ number
  unfolding step_number ready_number buffers_fit
  number_is = refl

  pub done_ready : length plan.rows ≡ PASSES * ROWS → number ≡ 0 → StepsReady plan asked 1 before.buffers
  done_ready long e = let m = zero_means plan before asked e in steps_ready long m.0 asked 1 (omega (arith, m.1))

  pub again_ready : length plan.rows ≡ PASSES * ROWS → number ≡ 9 → StepsReady plan asked 1 before.buffers
  again_ready long e = let m = nine_means plan before asked e in steps_ready long m.0 asked 1 (omega (arith, m.1))

  pub done_promise : {s : State} {after : Buffers} → number ≡ 0 → s ≡ advanced_by before.state 1 → after ≡ moved
      → StepPromise plan before asked (Done s) after
  unfolding case_of
  done_promise e a m =
      let z = zero_means plan before asked e in
      let d = step_done plan before asked e in
      let small : before.state.next.0 + 1 < 2 ^ 64 = omega (arith, z.1, z.2, total_small plan z.0.sound_plan) in
      record {
        answered = ap Done (a ∙ advanced→further before.state 1 small) ∙ sym (ap₂ (λ (k : ℕ) (w : Moment). case_of k w.state) e d);
        bytes = m ∙ sym (ap (λ (w : Moment). w.buffers) d);
      }

  pub again_promise : {s : State} {after : Buffers} → number ≡ 9 → s ≡ before.state → after ≡ moved → StepPromise plan before asked (Stepped.Again s) after
  unfolding case_of
  again_promise e a m =
      let d = step_nine plan before asked e in
      record {
        answered = ap Stepped.Again a ∙ sym (ap₂ (λ (k : ℕ) (w : Moment). case_of k w.state) e d);
        bytes = m ∙ sym (ap (λ (w : Moment). w.buffers) d);
      }

  -- the step that is asked is the next one or the one before it
  pub moves_ready : length plan.rows ≡ PASSES * ROWS → (turn : Turn) → number_told (Ok turn) ≡ number → StepsReady plan asked 1 before.buffers
  moves_ready long Next e = done_ready long (sym e)
  moves_ready long Again e = again_ready long (sym e)

  pub refused_promise : {k : ℕ} {s : State} (r : Refusal) → number_of r ≡ number → k ≡ number_of r → s ≡ before.state
      → StepPromise plan before asked (Refused k s) before.buffers
  unfolding case_of
  refused_promise r f e a =
      let z = ne_eqb number 0 (λ h. refuses r (f ∙ h)) in
      let n = ne_eqb number 9 (λ h. never_nine r (f ∙ h)) in
      let d = refused_keeps plan before asked (ap₂ (λ (x y : Bool). not (x || y)) z n) in
      record {
        answered =
            let s = before.state in
            ap₂ Refused (e ∙ f) a ∙ sym (ap₂ (λ (x y : Bool). cond x (Done s) (cond y (Stepped.Again s) (Refused number s))) z n)
            ∙ sym (ap (λ (w : Moment). case_of number w.state) d);
        bytes = sym (ap (λ (w : Moment). w.buffers) d);
      }

-- ---- a run

module _ (plan : Plan) (before : Moment) where
  abbrev run_is : ℕ
  run_is = run_number plan before

  abbrev next : ℕ
  next = before.state.next.0

  pub run_number_lem : ready_by plan before.state (length before.buffers.area0) (length before.buffers.area1) (length before.buffers.memory) 0
      ≡ run_is
  unfolding run_number ready_number buffers_fit
  run_number_lem = refl

  pub run_steps_ready : length plan.rows ≡ PASSES * ROWS → 0 ≡ run_is → (k : ℕ) → next + k ≤ total (route_of plan)
      → StepsReady plan next k before.buffers
  run_steps_ready long e k m = steps_ready long (run_ready plan before (sym e)) next k m

  pub run_total : 0 ≡ run_is → (total_steps plan ≡ total (route_of plan)) × (next ≤ total (route_of plan))
  run_total e = let r = run_ready plan before (sym e) in (total_is plan r.sound_plan, r.in_total)

  pub run_refused : (q : ℕ) {k : ℕ} {s : State} (r : Refusal) → number_of r ≡ run_is → k ≡ number_of r → s ≡ before.state
      → RunPromise plan before q (record { number = k; count = 0; state = s }) before.buffers
  run_refused q r f e a =
      let z = ne_eqb run_is 0 (λ h. refuses r (f ∙ h)) in
      let d = refused_run plan before q z in
      record {
        number = e ∙ f;
        count = sym (refused_count plan before q z);
        state' = a ∙ sym (ap (λ (w : Moment). w.state) d);
        bytes = sym (ap (λ (w : Moment). w.buffers) d);
      }

  pub run_done : (q : ℕ) {n : ℕ} {s : State} {after : Buffers} → 0 ≡ run_is → n ≡ min q (total (route_of plan) - next)
      → s ≡ advanced_by before.state n
      → after ≡ moves_from (move (route_of plan)) next n before.buffers → RunPromise plan before q (record { number = 0; count = n; state = s }) after
  unfolding ran
  run_done q {n} e m a b =
      let r = run_ready plan before (sym e) in
      let c : n ≡ run_count plan before q = m ∙ sym (run_count_lem plan before q (sym e)) in
      let small : next + n < 2 ^ 64 = omega (arith, r.in_total, total_small plan r.sound_plan) in
      record {
        number = e;
        count = c;
        state' = a ∙ advanced→further before.state n small ∙ ap (further_by before.state) c;
        bytes = b ∙ ap (λ (i : ℕ). moves_from (move (route_of plan)) next i before.buffers) c;
      }
