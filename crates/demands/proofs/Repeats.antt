-- Why does a silent retry of ours change nothing? Assumes nothing.
use mathlib.Core.Path.{◌≡◌, refl, sym, ap, ap₂, ◌∙◌, subst}
use mathlib.Core.Bool.{Bool, true, false, not, ◌&&◌}
use mathlib.Core.List.{List}
use Prim.Native.Nat.{ℕ}
use native.Mathlib.Omega.{arith}
use borrow.Author.Tests.{eqb-false, eqb-true, ne_eqb, not-true}
use lib.Dec.{eqb}
use Rattle.algebra.proofs.Search.{and_l, and_r}
use Rattle.planning.specs.declared.Plan.{Plan}
use Rattle.moving.specs.Step.{Buffers}
use Rattle.moving.specs.Call.{Moment, step_number, stepped}
use Rattle.moving.proofs.Calls.{nine_means, nine_state, repeat_keeps, repeat_number, step_done, zero_means}
use Rattle.mover.specs.declared.step.Stepped.{Stepped}
use Rattle.mover.specs.Promise.{StepPromise, number_of, state_of}
use Rattle.demands.specs.Ours.{ours}
use Rattle.demands.specs.Numbers.{Refusal}
use Rattle.demands.specs.Chain.{Called, Chain, moment_of}
use Rattle.demands.specs.Chain.Chain.{no_calls, step, run, stray_step, stray_run}
use Rattle.demands.specs.Repeats.{Repeats, quiet}
use Rattle.demands.proofs.Promised.{run_refused, step_moment, step_number_lem, step_refused}
use Rattle.demands.proofs.Answers.{ours_answers}
use Rattle.demands.proofs.Chains.{stray_run_lem, stray_step_lem}

-- a quiet call's number, and the calls after it
not_none : (k : ℕ) (rest : Bool) → not (eqb k 0) && rest ≡ true → Refusal k × (rest ≡ true)
not_none k rest e = (eqb-false k 0 (not-true (eqb k 0) (and_l (not (eqb k 0)) rest e)), and_r (not (eqb k 0)) rest e)

-- the moment after step k was done
module _ (plan : Plan) (m : Moment) (k : ℕ) (done : step_number plan m k ≡ 0) where
  abbrev after : Moment
  after = stepped plan m k

  -- a step asked there that isn't answered 0 is that step again, or refused; either way nothing changes
  quiet_step : (j : ℕ) (r : Stepped) (w : Buffers) → StepPromise plan after j r w → Refusal (number_of r) → moment_of (state_of r) w ≡ after
  quiet_step j r w p f = by (eqb (number_of r) 9) refl
    where
      by : (t : Bool) → eqb (number_of r) 9 ≡ t → moment_of (state_of r) w ≡ after
      by false e = step_refused plan after j r w p (rw (ne_eqb (number_of r) 0 f, e))
      by true e =
          let nine : step_number plan after j ≡ 9 = sym (step_number_lem plan after j r w p) ∙ eqb-true (number_of r) 9 e in
          let next = ap (λ (n : Moment). n.state.next.0) (step_done plan m k done) in
          let same : j ≡ k = omega (arith, (nine_means plan after j nine).2, next, (zero_means plan m k done).2) in
          step_moment plan after j r w p ∙ ap (stepped plan after) same
          ∙ ap₂ moment_of (nine_state plan after k (repeat_number plan m k done)) (repeat_keeps plan m k done)

  -- so nothing changes over any quiet chain
  quiet_chain : {begin end : Moment} {cs : List Called} → Chain ours plan begin cs end → quiet cs ≡ true → begin ≡ after → end ≡ after
  unfolding quiet
  quiet_chain no_calls q e = e
  quiet_chain (step {m = n} {w = w} {cs = cs} j r p rest) q e =
      let p' = subst (λ (x : Moment). StepPromise plan x j r w) e p in
      let z = not_none (number_of r) (quiet cs) q in
      quiet_chain rest z.1 (quiet_step j r w p' z.0)
  quiet_chain (run {m = n} {w = w} {cs = cs} j r p rest) q e =
      let z = not_none r.number (quiet cs) q in
      quiet_chain rest z.1 ((run_refused plan n j r w p z.0).1 ∙ e)
  quiet_chain (stray_step {m = n} {w = w} stray j r p f rest) q e = quiet_chain rest q (stray_step_lem ours ours_answers stray n j r w p f ∙ e)
  quiet_chain (stray_run {m = n} {w = w} stray j r p f rest) q e = quiet_chain rest q (stray_run_lem ours ours_answers stray n j r w p f ∙ e)

pub ours_repeats : Repeats ours
ours_repeats plan m k r w p z cs later chain q again u p' =
    let done = sym (step_number_lem plan m k r w p) ∙ z in
    let left = step_moment plan m k r w p in
    let there = quiet_chain plan m k done chain q left in
    let p'' = subst (λ (x : Moment). StepPromise plan x k again u) there p' in
    let nine = step_number_lem plan (stepped plan m k) k again u p'' ∙ repeat_number plan m k done in
    let kept = quiet_step plan m k done k again u p'' (λ e. omega (arith, nine, e)) ∙ sym left in
    (nine, ap (λ (x : Moment). x.state) kept, ap (λ (x : Moment). x.buffers) kept)
