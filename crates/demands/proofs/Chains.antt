-- When do two chains of calls come to the same? Refused calls can be left out for every mover that has demand 1;
-- runs add up, and are their steps, for ours. Assumes nothing.
use mathlib.Core.Path.{◌≡◌, refl, sym, ap, ap₂, ◌∙◌, subst}
use mathlib.Core.Bool.{Bool, true, false, cond}
use mathlib.Core.List.{List, [], ◌∷◌}
use Prim.Native.Nat.{ℕ, zero, suc, ◌+◌, ◌-◌, ◌<◌, ◌≤◌}
use native.Mathlib.Numerals.{add-one}
use native.Mathlib.Omega.{arith}
use borrow.Author.Tests.{eq-eqb, eqb-false}
use lib.Dec.{eqb}
use Rattle.planning.specs.declared.Plan.{Plan}
use Rattle.planning.specs.Pass.{total}
use Rattle.planning.specs.Stored.{route_of}
use Rattle.moving.specs.Step.{Buffers}
use Rattle.moving.specs.Call.{Moment, ran, refuses, run_count, step_number, stepped}
use Rattle.moving.proofs.Calls.{CallReady, again_count, again-refused, by_run, next_number, refused_count, refused_run, run_again, run_count_lem}
use Rattle.moving.proofs.Calls.{run_none, run_one, run_ready, run_same, step_done, step_ready}
use Rattle.mover.specs.declared.step.Stepped.{Stepped}
use Rattle.mover.specs.declared.run.Ran.{Ran}
use Rattle.mover.specs.Promise.{RunPromise, number_of, state_of}
use Rattle.demands.specs.Mover.{Mover}
use Rattle.demands.specs.Ours.{ours}
use Rattle.demands.specs.Answers.{Answers}
use Rattle.demands.specs.Numbers.{Refusal}
use Rattle.demands.specs.Chain.{Called, Chain, Stray, moment_of, returned, strayed}
use Rattle.demands.specs.Chain.Called.{asked, allowed}
use Rattle.demands.specs.Chain.Chain.{no_calls, step, run, stray_step, stray_run}
use Rattle.demands.specs.Chains.{Chains, Stepwise, done_in_turn, without_refused}
use Rattle.demands.proofs.Promised.{run_moment, step_answer, step_moment, step_number_lem, step_promised}
use Rattle.demands.proofs.Answers.{ours_answers}

-- ---- refused calls left out

-- bytes that another's call leaves unchanged are given back as they were
given_back : (stray : Stray) (m : Moment) (w : Buffers) → w ≡ stray.lent m.buffers → returned stray m w ≡ m
given_back stray m w e = ap (moment_of m.state) (ap (stray.back m.buffers) e ∙ stray.unchanged m.buffers)

module _ (M : Mover) (answers : Answers M) where
  -- another's refused call changes nothing of the chain's
  pub stray_step_lem : (stray : Stray) (m : Moment) (k : ℕ) (r : Stepped) (w : Buffers) → M.step stray.plan (strayed stray m) k r w
      → refuses (number_of r) ≡ true → returned stray m w ≡ m
  stray_step_lem stray m k r w p f = given_back stray m w (answers.step_refused stray.plan (strayed stray m) k r w p f).1

  pub stray_run_lem : (stray : Stray) (m : Moment) (q : ℕ) (r : Ran) (w : Buffers) → M.run stray.plan (strayed stray m) q r w
      → Refusal r.number → returned stray m w ≡ m
  stray_run_lem stray m q r w p f = given_back stray m w (answers.run_refused stray.plan (strayed stray m) q r w p f).2

  -- a step, or a run, of the chain's own before a chain whose refused calls are left out
  step_out : (plan : Plan) (m end : Moment) (k : ℕ) (r : Stepped) (w : Buffers) (cs : List Called) → M.step plan m k r w
      → Chain M plan (moment_of (state_of r) w) cs end → Chain M plan m (cond (refuses (number_of r)) cs (asked k r ∷ cs)) end
  step_out plan m end k r w cs p rest = by (refuses (number_of r)) refl
    where
      by : (t : Bool) → refuses (number_of r) ≡ t → Chain M plan m (cond t cs (asked k r ∷ cs)) end
      by true e = let z = answers.step_refused plan m k r w p e in subst (λ (x : Moment). Chain M plan x cs end) (ap₂ moment_of z.0 z.1) rest
      by false e = step k r p rest

  run_out : (plan : Plan) (m end : Moment) (q : ℕ) (r : Ran) (w : Buffers) (cs : List Called) → M.run plan m q r w
      → Chain M plan (moment_of r.state w) cs end → Chain M plan m (cond (eqb r.number 0) (allowed q r ∷ cs) cs) end
  run_out plan m end q r w cs p rest = by (eqb r.number 0) refl
    where
      by : (t : Bool) → eqb r.number 0 ≡ t → Chain M plan m (cond t (allowed q r ∷ cs) cs) end
      by true e = run q r p rest
      by false e =
          let z = answers.run_refused plan m q r w p (eqb-false r.number 0 e) in
          subst (λ (x : Moment). Chain M plan x cs end) (ap₂ moment_of z.1 z.2) rest

  refused_out : {plan : Plan} {m end : Moment} {cs : List Called} → Chain M plan m cs end → Chain M plan m (without_refused cs) end
  unfolding without_refused
  refused_out no_calls = no_calls
  refused_out {plan} {end = end} (step {m = m} {w = w} {cs = cs} k r p rest) = step_out plan m end k r w (without_refused cs) p (refused_out rest)
  refused_out {plan} {end = end} (run {m = m} {w = w} {cs = cs} q r p rest) = run_out plan m end q r w (without_refused cs) p (refused_out rest)
  refused_out {plan} {end = end} (stray_step {m = m} {w = w} {cs = cs} stray k r p f rest) =
      subst (λ (x : Moment). Chain M plan x (without_refused cs) end) (stray_step_lem stray m k r w p f) (refused_out rest)
  refused_out {plan} {end = end} (stray_run {m = m} {w = w} {cs = cs} stray q r p f rest) =
      subst (λ (x : Moment). Chain M plan x (without_refused cs) end) (stray_run_lem stray m q r w p f) (refused_out rest)

-- ---- two runs in a row

module _ (plan : Plan) (m : Moment) (q q' : ℕ) (r r' s : Ran) (w w' u : Buffers)
    (p : RunPromise plan m q r w) (p' : RunPromise plan (moment_of r.state w) q' r' w') (t : RunPromise plan m (q + q') s u) where
  second : RunPromise plan (ran plan m q) q' r' w'
  second = subst (λ (x : Moment). RunPromise plan x q' r' w') (run_moment plan m q r w p) p'

  runs_add : (r.number ≡ s.number) × (r'.number ≡ s.number) × (r.count + r'.count ≡ s.count) × (r'.state ≡ s.state) × (w' ≡ u)
  runs_add =
      let e = run_moment plan (ran plan m q) q' r' w' second ∙ run_again plan m q q' ∙ sym (run_moment plan m (q + q') s u t) in (
        p.number ∙ sym t.number,
        second.number ∙ again-refused plan m q ∙ sym t.number,
        ap₂ ◌+◌ p.count second.count ∙ again_count plan m q q' ∙ sym t.count,
        ap (λ (n : Moment). n.state) e,
        ap (λ (n : Moment). n.buffers) e,
      )

-- ---- a run is its steps

-- the next step, and then what is left
module _ (plan : Plan) (m : Moment) (r : CallReady plan m) (h : m.state.next.0 < total (route_of plan)) where
  abbrev next : ℕ
  next = m.state.next.0

  abbrev after : Moment
  after = stepped plan m next

  done : step_number plan m next ≡ 0
  done = next_number plan m next r h refl

  one_on : after.state.next.0 ≡ suc next
  one_on = ap (λ (n : Moment). n.state.next.0) (step_done plan m next done) ∙ add-one next

  run_rest : (k : ℕ) → ran plan after k ≡ ran plan m (suc k)
  run_rest k = ap (λ (w : Moment). ran plan w k) (sym (run_one plan m r h)) ∙ run_again plan m 1 k ∙ ap (ran plan m) (omega arith)

  one_more : (k : ℕ) → Stepwise ours plan after k (ran plan after k) → Stepwise ours plan m (suc k) (ran plan m (suc k))
  unfolding done_in_turn
  one_more k rest =
      let answer = step_answer plan m next in
      let p = step_promised plan m next in
      record {
        calls = asked next answer ∷ rest.calls;
        chain =
            subst (Chain ours plan m (asked next answer ∷ rest.calls)) (run_rest k)
            (step next answer p (rw (step_moment plan m next answer after.buffers p) rest.chain));
        in_turn =
            rw (eq-eqb next next refl, eq-eqb (number_of answer) 0 (step_number_lem plan m next answer after.buffers p ∙ done))
            (ap (λ (j : ℕ). done_in_turn j rest.calls) (sym one_on) ∙ rest.in_turn);
        as_many = ap suc rest.as_many;
      }

steps_of : (plan : Plan) (k : ℕ) (m : Moment) → CallReady plan m → k ≤ total (route_of plan) - m.state.next.0 → Stepwise ours plan m k (ran plan m k)
unfolding done_in_turn
steps_of plan zero m r h =
    record { calls = []; chain = subst (Chain ours plan m []) (sym (run_none plan m)) no_calls; in_turn = refl; as_many = refl }
steps_of plan (suc k) m r h =
    one_more plan m r (omega arith) k
    (steps_of plan k (stepped plan m m.state.next.0) (step_ready plan m m.state.next.0 r) (omega (arith, one_on plan m r (omega arith))))

run_steps : (plan : Plan) (m : Moment) (q : ℕ) → Stepwise ours plan m (run_count plan m q) (ran plan m q)
unfolding done_in_turn
run_steps plan m q =
    by_run plan m (Stepwise ours plan m (run_count plan m q) (ran plan m q))
    (λ e. let c = run_count_lem plan m q e in
    subst (Stepwise ours plan m (run_count plan m q)) (run_same plan m (run_count plan m q) q (run_count_lem plan m (run_count plan m q) e ∙ omega (arith, c)))
    (steps_of plan (run_count plan m q) m (run_ready plan m e) (omega (arith, c))))
    (λ e. record {
      calls = [];
      chain = subst (Chain ours plan m []) (sym (refused_run plan m q e)) no_calls;
      in_turn = refl;
      as_many = sym (refused_count plan m q e);
    })

pub ours_chains : Chains ours
ours_chains =
    record {
      refused_out = λ plan m cs end chain. refused_out ours ours_answers chain;
      runs_add = runs_add;
      run_steps = λ plan m q r w p. rw (run_moment plan m q r w p, p.count) (run_steps plan m q);
    }
