-- What do steps leave that are sent in turn, and why is it what a run leaves, however often each is sent again? Assumes nothing.
use mathlib.Core.Path.{◌≡◌, ap, refl, sym, ◌∙◌}
use Prim.Native.Nat.{ℕ, zero, suc, ◌+◌, ◌<◌, ◌≤◌, zero-le}
use native.Mathlib.Numerals.{add-one}
use native.Mathlib.Omega.{arith}
use Rattle.planning.specs.declared.Plan.{Plan}
use Rattle.planning.specs.declared.state.State.{State}
use Rattle.planning.specs.Pass.{total}
use Rattle.planning.specs.Stored.{route_of}
use Rattle.totals.specs.Total.{total_steps}
use Rattle.moving.specs.Step.{Buffers, move, moves_from}
use Rattle.moving.specs.Call.{Moment, begun, ran, stepped}
use Rattle.moving.proofs.Calls.{CallReady, again_number, next_number, nine_state, ready_run, run_count_lem, run_next, step_done}
use Rattle.moving.proofs.Fits.{buffers_fit→Fits}
use Rattle.moving.proofs.Kept.{Kept, kept_begun, kept_ready, kept_run, kept_step}
use Rattle.mover.specs.declared.step.Stepped.{Stepped}
use Rattle.mover.specs.Promise.{StepPromise, state_of}
use Rattle.mover.proofs.Asked.{total_is}
use Rattle.demands.specs.Chain.{moment_of}
use Rattle.demands.proofs.Promised.{step_moment}
use Rattle.sending.specs.Sent.{SentIsRun, asked_in_turn, asked_times}

module _ (plan : Plan) (k : ℕ) where
  -- what a step call promises, of the moment after it, where code has taken the state out of the answer
  pub call_moment : {before : Moment} {answer : Stepped} {after : Buffers} {s : State} → StepPromise plan before k answer after → s ≡ state_of answer
      → moment_of s after ≡ stepped plan before k
  call_moment {before} {answer} {after} p e = ap (λ (t : State). moment_of t after) e ∙ step_moment plan before k answer after p

  -- ---- step k asked so many times

  pub none_asked : (m : Moment) → m ≡ asked_times plan k 0 m
  unfolding asked_times
  none_asked m = refl

  -- one time more, counted as code counts
  pub one_more : (i : ℕ) (m : Moment) {here there : Moment} → there ≡ stepped plan here k → here ≡ asked_times plan k i m → there ≡ asked_times plan k (i + 1) m
  unfolding asked_times
  one_more i m e h = rw (add-one i) (e ∙ ap (λ (w : Moment). stepped plan w k) h)

  -- the first time, and then i times more
  pub first_and : (i : ℕ) (m : Moment) → asked_times plan k i (stepped plan m k) ≡ asked_times plan k (i + 1) m
  unfolding asked_times
  first_and zero m = refl
  first_and (suc i) m = one_more (suc i) m refl (first_and i m ∙ ap (λ (t : ℕ). asked_times plan k t m) (add-one i))

-- ---- the first k steps in turn

module _ (plan : Plan) (again : ℕ) where
  pub none_sent : (m : Moment) → m ≡ asked_in_turn plan again 0 m
  unfolding asked_in_turn
  none_sent m = refl

  pub one_sent : (k : ℕ) (m : Moment) {here there : Moment} → there ≡ asked_times plan k (again + 1) here → here ≡ asked_in_turn plan again k m
      → there ≡ asked_in_turn plan again (k + 1) m
  unfolding asked_in_turn
  one_sent k m e h = rw (add-one k) (e ∙ ap (asked_times plan k (again + 1)) h)

-- ---- what is kept from the fresh state on

-- the steps below k are done, each once, and step k is the next
record Stands (plan : Plan) (v : Buffers) (k : ℕ) (m : Moment) : Type 0 where
  kept : Kept plan v m
  next : m.state.next.0 ≡ k

module _ (plan : Plan) (v : Buffers) (ready : CallReady plan (begun v)) where
  -- the first asking of step k advances by one, and each later one is answered 9
  times_stand : (k i : ℕ) (m : Moment) → k < total (route_of plan) → Stands plan v k m → Stands plan v (k + 1) (asked_times plan k (suc i) m)
  unfolding asked_times
  times_stand k zero m h s =
      record {
        kept = kept_step plan v m s.kept k;
        next = ap (λ (w : Moment). w.state.next.0)
            (step_done plan m k (next_number plan m k (kept_ready plan v m s.kept ready) h (sym s.next)))
            ∙ ap (λ (i : ℕ). i + 1) s.next;
      }
  times_stand k (suc i) m h s =
      let w = asked_times plan k (suc i) m in
      let t = times_stand k i m h s in
      record {
        kept = kept_step plan v w t.kept k;
        next = ap (λ (x : State). x.next.0)
            (nine_state plan w k (again_number plan w k (kept_ready plan v w t.kept ready) h (sym t.next))) ∙ t.next;
      }

  turn_stands : (again k : ℕ) → k ≤ total (route_of plan) → Stands plan v k (asked_in_turn plan again k (begun v))
  unfolding asked_in_turn
  turn_stands again zero h = record { kept = kept_begun plan v; next = refl }
  turn_stands again (suc k) h =
      let t = times_stand k again (asked_in_turn plan again k (begun v)) (omega arith) (turn_stands again k (omega arith)) in
      rw (add-one again, ← add-one k) t

pub sent_is_run : SentIsRun
sent_is_run plan v again e f =
    let all = total_steps plan in
    let ready : CallReady plan (begun v) = record { sound_plan = e; in_total = zero-le; fitting = buffers_fit→Fits plan.geometry v f } in
    let t = turn_stands plan v ready again all (omega (arith, total_is plan e)) in
    let r = kept_run plan v (begun v) (kept_begun plan v) all in
    let count = run_count_lem plan (begun v) all (ready_run plan (begun v) ready) in
    let end : (ran plan (begun v) all).state.next.0 ≡ all = omega (arith, run_next plan (begun v) all, count, total_is plan e) in
    t.kept.once ∙ ap (λ (i : ℕ). moves_from (move (route_of plan)) 0 i v) (t.next ∙ sym end) ∙ sym r.once
