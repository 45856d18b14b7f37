-- What does a promise of ours say of one call? The moment that the call leaves, and its number. Assumes nothing.
use mathlib.Core.Path.{◌≡◌, refl, sym, ap, ap₂, ◌∙◌}
use mathlib.Core.Bool.{true}
use Prim.Native.Nat.{ℕ}
use borrow.Author.Tests.{ne_eqb}
use Rattle.planning.specs.declared.Plan.{Plan}
use Rattle.moving.specs.Step.{Buffers}
use Rattle.moving.specs.Call.{Moment, ran, refuses, run_count, run_number, step_number, stepped}
use Rattle.moving.proofs.Calls.{refused_count, refused_keeps, refused_run}
use Rattle.mover.specs.declared.step.Stepped.{Stepped}
use Rattle.mover.specs.declared.run.Ran.{Ran}
use Rattle.mover.specs.Promise.{StepPromise, RunPromise, case_of, number_of, state_of}
use Rattle.mover.proofs.Main.{case_number, case_state}
use Rattle.demands.specs.Chain.{moment_of}

-- ---- a step

module _ (plan : Plan) (m : Moment) (k : ℕ) where
  -- the one answer, and the bytes
  abbrev pub step_answer : Stepped
  step_answer = case_of (step_number plan m k) (stepped plan m k).state

  pub step_promised : StepPromise plan m k step_answer (stepped plan m k).buffers
  step_promised = record { answered = refl; bytes = refl }

  module _ (r : Stepped) (w : Buffers) (p : StepPromise plan m k r w) where
    pub step_number_lem : number_of r ≡ step_number plan m k
    step_number_lem = ap number_of p.answered ∙ case_number _ _

    pub step_state : state_of r ≡ (stepped plan m k).state
    step_state = ap state_of p.answered ∙ case_state _ _

    pub step_moment : moment_of (state_of r) w ≡ stepped plan m k
    step_moment = ap₂ moment_of step_state p.bytes

    pub step_refused : refuses (number_of r) ≡ true → moment_of (state_of r) w ≡ m
    step_refused f = step_moment ∙ refused_keeps plan m k (ap refuses (sym step_number_lem) ∙ f)

-- ---- a run

module _ (plan : Plan) (m : Moment) (q : ℕ) where
  abbrev pub run_answer : Ran
  run_answer = record { number = run_number plan m; count = run_count plan m q; state = (ran plan m q).state }

  pub run_promised : RunPromise plan m q run_answer (ran plan m q).buffers
  run_promised = record { number = refl; count = refl; state' = refl; bytes = refl }

  module _ (r : Ran) (w : Buffers) (p : RunPromise plan m q r w) where
    pub run_moment : moment_of r.state w ≡ ran plan m q
    run_moment = ap₂ moment_of p.state' p.bytes

    pub run_refused : (r.number ≡ 0 → ⊥) → (r.count ≡ 0) × (moment_of r.state w ≡ m)
    run_refused f =
        let e = ne_eqb (run_number plan m) 0 (λ e. f (p.number ∙ e)) in (p.count ∙ refused_count plan m q e, run_moment ∙ refused_run plan m q e)
