-- What do calls keep from a fresh state on, and what is there at the end and after each pass? Assumes nothing.
use mathlib.Core.Path.{◌∙◌, ◌≡◌, ap, ap₂, refl, subst, sym}
use mathlib.Core.Bool.{Bool, cond, false, true}
use mathlib.Core.List.{List}
use Prim.Native.Nat.{◌*◌, ◌+◌, ◌<◌, ◌≤◌, suc, zero-le, ℕ}
use native.Mathlib.Nat.{add-zero}
use native.Mathlib.Omega.{arith}
use lib.Dec.{eqb}
use lib.ListN.{length}
use Rattle.algebra.specs.Matrix.{target}
use Rattle.bank.specs.Geometry.{records}
use Rattle.moving.proofs.Again.{move-again}
use Rattle.moving.proofs.All.{all_passes, pass_spent}
use Rattle.moving.proofs.Calls.{CallReady, by_run, by_stepped, refused_count, run_count_lem}
use Rattle.moving.proofs.Fits.{buffers_fit→Fits, moves_from_fits, Fits}
use Rattle.moving.specs.Bytes.{AllZero, record_of}
use Rattle.moving.specs.Call.{Moment, begun, ran, run_count, step_number, stepped}
use Rattle.moving.specs.Step.{Buffers, bytes_of, area_read, buffers_fit, move, moves_from}
use Rattle.planning.specs.Pass.{Route, pass_steps, performed, total}
use Rattle.planning.specs.Stored.{route_of}
use Rattle.planning.specs.State.{further_by}
use Rattle.planning.specs.declared.Plan.{Plan}
use Rattle.planning.specs.declared.state.State.{State}
use Rattle.planning.specs.Inner.{Runs}
use Rattle.planning.proofs.Running.{runs_allowed}
use Rattle.planning.proofs.Stored.{route_length}
use Rattle.moving.proofs.Moves.{moves_next, moves_none, moves_on}

-- the next step is at most the total, and the buffers are those of the steps below it, each done once
pub record Kept (plan : Plan) (v : Buffers) (moment : Moment) : Type 0 where
  pub in_total : moment.state.next.0 ≤ total (route_of plan)
  pub once : moment.buffers ≡ moves_from (move (route_of plan)) 0 moment.state.next.0 v

-- ---- a step done again

done_again : (route : Route) (v w : Buffers) (s next : ℕ) → s + 1 ≡ next → w ≡ moves_from (move route) 0 next v → move route s w ≡ w
done_again route v w s next e h =
    let n : w ≡ move route s (moves_from (move route) 0 s v) = h ∙ ap (λ (k : ℕ). moves_from (move route) 0 k v) (sym e) ∙ moves_next (move route) s v in
    ap (move route s) n ∙ move-again route s (moves_from (move route) 0 s v) ∙ sym n

-- ---- what the calls keep

module _ (plan : Plan) (v : Buffers) where
  pub kept_begun : Kept plan v (begun v)
  unfolding moves_from
  kept_begun = record { in_total = zero-le; once = refl }

  module _ (moment : Moment) (k : Kept plan v moment) where
    abbrev next : ℕ
    next = moment.state.next.0

    pub kept_step : (asked : ℕ) → Kept plan v (stepped plan moment asked)
    kept_step asked =
        by_stepped plan moment asked (Kept plan v) k
        (λ r h e. record { in_total = omega arith; once = ap₂ (move (route_of plan)) e k.once ∙ sym (moves_next (move (route_of plan)) next v) })
        (λ r h e. record { in_total = k.in_total; once = done_again (route_of plan) v moment.buffers asked next e k.once ∙ k.once })

    count_in_total : (q : ℕ) → next + run_count plan moment q ≤ total (route_of plan)
    count_in_total q =
        by_run plan moment (next + run_count plan moment q ≤ total (route_of plan))
        (λ e. omega (arith, run_count_lem plan moment q e)) (λ e. omega (arith, refused_count plan moment q e))

    pub kept_run : (q : ℕ) → Kept plan v (ran plan moment q)
    unfolding ran
    kept_run q =
        record {
          in_total = count_in_total q;
          once = ap (moves_from (move (route_of plan)) next (run_count plan moment q)) k.once
              ∙ moves_on (move (route_of plan)) next (run_count plan moment q) v;
        }

    -- calls that were ready at the beginning stay ready
    pub kept_ready : CallReady plan (begun v) → CallReady plan moment
    kept_ready r =
        record {
          sound_plan = r.sound_plan;
          in_total = k.in_total;
          fitting = subst (Fits plan.geometry) (sym k.once) (moves_from_fits plan.geometry (route_of plan) 0 next v r.fitting);
        }

-- the next step advances by one where a step is answered 0, and stays where it is refused or done again
pub step_advance : (plan : Plan) (moment : Moment) (asked : ℕ)
    → (stepped plan moment asked).state.next.0 ≡ moment.state.next.0 + cond (eqb (step_number plan moment asked) 0) 1 0
unfolding stepped
step_advance plan moment asked = by (eqb (step_number plan moment asked) 0)
  where
    by : (t : Bool) → (cond {A = State} t (further_by moment.state 1) moment.state).next.0 ≡ moment.state.next.0 + cond t 1 0
    by true = refl
    by false = sym (add-zero moment.state.next.0)

-- ---- the end

module _ (plan : Plan) (can : Runs (route_of plan)) (rows : List ℕ) (c : ℕ)
    (does : (x : ℕ) → x < records plan.geometry → performed (route_of plan).passes x ≡ target rows c x)
    (v : Buffers) (fitting : buffers_fit plan.geometry v ≡ true) where
  -- the area of the pass count
  abbrev result : Buffers → List ℕ
  result w = bytes_of (area_read (length (route_of plan).passes)) w

  -- the plan performs the order (rows, c), the buffers fit, and the next step is the total:
  -- the area of the pass count holds, at Ax xor c, the very record that began at x in area 0
  pub delivered : (moment : Moment) → Kept plan v moment → moment.state.next.0 ≡ total (route_of plan) → (x : ℕ) → x < records plan.geometry
      → record_of plan.geometry.r (result moment.buffers) (target rows c x) ≡ record_of plan.geometry.r v.area0 x
  unfolding route_of
  delivered moment k ends x hx =
      ap₂ (λ (w : Buffers) (y : ℕ). record_of plan.geometry.r (result w) y)
      (k.once ∙ ap (λ (i : ℕ). moves_from (move (route_of plan)) 0 i v) ends) (sym (does x hx))
      ∙ all_passes (route_of plan) v (runs_allowed (route_of plan) can) can.each_runs (buffers_fit→Fits plan.geometry v fitting) x hx

-- ---- on the way

module _ (plan : Plan) (can : Runs (route_of plan)) (v : Buffers) (fitting : buffers_fit plan.geometry v ≡ true) where
  -- the plan has blanks, the buffers fit, and the next step is the first after pass p: the area that the pass read and memory are zero
  pub spent : (moment : Moment) → Kept plan v moment → plan.blanks ≡ true → (p : ℕ) → p < plan.count
      → moment.state.next.0 ≡ suc p * pass_steps (route_of plan)
      → AllZero (bytes_of (area_read p) moment.buffers) × AllZero moment.buffers.memory
  unfolding route_of
  spent moment k e p h ends =
      subst (λ (w : Buffers). AllZero (bytes_of (area_read p) w) × AllZero w.memory)
      (sym (k.once ∙ ap (λ (i : ℕ). moves_from (move (route_of plan)) 0 i v) ends))
      (pass_spent (route_of plan) v (runs_allowed (route_of plan) can) can.each_runs (buffers_fit→Fits plan.geometry v fitting) e p
      (omega (arith, route_length plan)))

-- a plan with no step leaves every byte
pub still_bytes : (plan : Plan) (v : Buffers) (moment : Moment) → Kept plan v moment → total (route_of plan) ≡ 0 → moment.buffers ≡ v
still_bytes plan v moment k none =
    k.once ∙ ap (λ (i : ℕ). moves_from (move (route_of plan)) 0 i v) (omega (arith, k.in_total)) ∙ sym (moves_none (move (route_of plan)) 0 v)
