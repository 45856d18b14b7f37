-- Why is a run in tray order once every step of its order's plan was sent? By demand 3: all the steps are one run. Assumes nothing.
use mathlib.Core.Path.{◌≡◌, refl, sym, ap, ◌∙◌, subst}
use mathlib.Core.Bool.{Bool, ◌&&◌, cond, false, true}
use mathlib.Core.List.{List, [], ◌∷◌}
use Prim.Native.Nat.{ℕ, zero, suc, ◌-◌, ◌<◌}
use native.Mathlib.Omega.{arith}
use lib.Dec.{eqb}
use lib.ListN.{length, length-replicate, replicate}
use Rattle.algebra.proofs.Lists.{get_or_zeros}
use Rattle.bank.specs.Limits.{ROWS}
use Rattle.bank.specs.declared.Geometry.{Geometry}
use Rattle.order.specs.declared.Order.{Order}
use Rattle.order.specs.Order.{judgement, matrix_of}
use Rattle.planning.specs.declared.Plan.{Plan}
use Rattle.planning.specs.Stored.{plan_for}
use Rattle.planning.proofs.Running.{sound→can_run}
use Rattle.plan.specs.declared.make.Planned.{Planned}
use Rattle.plan.specs.Answer.{planned_for}
use Rattle.plan.proofs.Answered.{planned_taken}
use Rattle.plan.proofs.Main.{Makes, made_accepted}
use Rattle.totals.specs.Total.{total_steps, result_area}
use Rattle.moving.specs.Bytes.{AllZero}
use Rattle.moving.specs.Step.{Buffers, area_bytes, buffers_of, buffers_fit}
use Rattle.moving.specs.Call.{Moment, begun, ran}
use Rattle.moving.proofs.Fits.{Fits, buffers_fit→Fits}
use Rattle.moving.proofs.Calls.{CallReady, can→ready, ran_ready, ready_run, run_count_lem, run_next}
use Rattle.mover.proofs.Asked.{total_is}
use Rattle.demands.specs.Chain.{Chain}
use Rattle.demands.specs.Chain.Called.{allowed}
use Rattle.demands.specs.Chain.Chain.{no_calls, run}
use Rattle.demands.specs.Delivers.{area_named}
use Rattle.demands.specs.Mover.{beginning}
use Rattle.demands.specs.Ours.{ours}
use Rattle.demands.proofs.Delivers.{ours_delivers}
use Rattle.demands.proofs.Promised.{run_answer, run_promised}
use Rattle.sending.specs.Sent.{asked_in_turn}
use Rattle.sending.proofs.Sent.{sent_is_run}
use Rattle.delivery.specs.Delivery.{InTrayOrder, all_steps, set_in_order, taken_from}

-- ---- the area that a number names is one of the two, and as long

result_small : (plan : Plan) → result_area plan < 2
unfolding result_area
result_small plan = omega arith

named_long : (g : Geometry) (w : Buffers) → Fits g w → (k : ℕ) → k < 2 → length (area_named k w) ≡ area_bytes g
unfolding area_named
named_long g w f zero h = f.area0_long
named_long g w f (suc zero) h = f.area1_long
named_long g w f (suc (suc k)) h = absurd (omega arith)

-- ---- what is left to do once the steps were sent: the result lies in area 1 and is to be copied, or it lies in area 0

pub record SetBy (order : Order) (blanks : Bool) (v w : Buffers) (area : ℕ) : Type 0 where
  pub fits : Fits order.geometry w
  pub first : area ≡ 1 → buffers_of w.area1 (taken_from 1 blanks w.area1) w.memory ≡ set_in_order order blanks v
  pub zeroth : (area ≡ 1 → ⊥) → w ≡ set_in_order order blanks v

-- where the result lies in area 0, area 1 stays
pub taken_none : (blanks : Bool) (l : List ℕ) → taken_from 0 blanks l ≡ l
taken_none true l = refl
taken_none false l = refl

-- and it is as long as it was
taken_long : (k : ℕ) (blanks : Bool) (l : List ℕ) → length (taken_from k blanks l) ≡ length l
taken_long k blanks l = by (blanks && eqb k 1)
  where
    by : (t : Bool) → length (cond t (replicate (length l) 0) l) ≡ length l
    by true = length-replicate {A = ℕ} (length l) 0
    by false = refl

-- ---- an order that is taken, on bytes of the right lengths

module _ (order : Order) (room : length order.rows ≡ ROWS) (taken : judgement order ≡ 0) (blanks : Bool) (v : Buffers)
    (fitting : buffers_fit order.geometry v ≡ true) where
  abbrev plan : Plan
  plan = (planned_for order blanks).plan

  abbrev makes : Makes order plan
  makes = made_accepted order room taken blanks

  plan_fitting : buffers_fit plan.geometry v ≡ true
  plan_fitting = subst (λ (g : Geometry). buffers_fit g v ≡ true) (sym makes.on_its_bank) fitting

  ready : CallReady plan (begun v)
  ready = can→ready plan (begun v) (sound→can_run plan (begun v).state makes.sound_plan (omega arith)) plan_fitting

  -- all the steps: a chain of one call, which comes to the end
  abbrev end : Moment
  end = ran plan (begun v) (total_steps plan)

  one_run : Chain ours plan (beginning ours v) (allowed (total_steps plan) (run_answer plan (begun v) (total_steps plan)) ∷ []) end
  one_run = run (total_steps plan) (run_answer plan (begun v) (total_steps plan)) (run_promised plan (begun v) (total_steps plan)) no_calls

  ends : end.state.next.0 ≡ total_steps plan
  ends =
      omega (
        arith,
        run_next plan (begun v) (total_steps plan),
        run_count_lem plan (begun v) (total_steps plan) (ready_run plan (begun v) ready),
        total_is plan makes.sound_plan,
      )

  end_fits : Fits order.geometry (all_steps order blanks v)
  end_fits = subst (λ (g : Geometry). Fits g end.buffers) makes.on_its_bank (ran_ready plan (begun v) (total_steps plan) ready).fitting

  -- every buffer is as long as it was
  pub set_fits : Fits order.geometry (set_in_order order blanks v)
  unfolding set_in_order
  set_fits =
      record {
        area0_long = named_long order.geometry end.buffers end_fits (result_area plan) (result_small plan);
        area1_long = taken_long (result_area plan) blanks end.buffers.area1 ∙ end_fits.area1_long;
        memory_long = end_fits.memory_long;
      }

  -- the run is in tray order
  pub set_in_tray_order : InTrayOrder order v.area0 (set_in_order order blanks v).area0
  unfolding set_in_order
  set_in_tray_order =
      record {
        as_long = set_fits.area0_long ∙ sym (buffers_fit→Fits order.geometry v fitting).area0_long;
        at_target = (ours_delivers.own order room taken blanks).delivers v fitting _ end one_run ends;
      }

  -- where the spent area is to be blanked and there is a pass, area 1 and memory are zero
  pub set_blank : blanks ≡ true → 0 < plan.count → AllZero (set_in_order order blanks v).area1 × AllZero (set_in_order order blanks v).memory
  unfolding set_in_order area_named
  set_blank marked some =
      let runs = (ours_delivers.own order room taken blanks).runs in
      let keeps = (ours_delivers.own order room taken blanks).keeps in
      let spent = (ours_delivers.blanked plan runs (keeps ∙ marked)).at_end v plan_fitting _ end one_run some ends in
      (by (result_area plan) (result_small plan) spent.0, spent.1)
    where
      by : (k : ℕ) → k < 2 → AllZero (area_named (1 - k) end.buffers) → AllZero (taken_from k blanks end.buffers.area1)
      by zero h z = subst AllZero (sym (taken_none blanks end.buffers.area1)) z
      by (suc zero) h z =
          subst AllZero (sym (ap (λ (b : Bool). taken_from 1 b end.buffers.area1) marked))
          (λ i l. get_or_zeros (length end.buffers.area1) i)
      by (suc (suc k)) h z = absurd (omega arith)

  -- ---- the steps of the plan that was made were sent, each more than once

  module _ (p : Plan) (made : p ≡ plan_for order.geometry (matrix_of order) order.complement blanks) (again : ℕ) (w : Buffers)
      (sent : w ≡ (asked_in_turn p again (total_steps p) (begun v)).buffers) where
    is_plan : p ≡ plan
    is_plan = made ∙ sym (ap (λ (a : Planned). a.plan) (planned_taken order blanks taken))

    sent-all : w ≡ all_steps order blanks v
    sent-all =
        subst (λ (a : Plan). w ≡ (asked_in_turn a again (total_steps a) (begun v)).buffers) is_plan sent
        ∙ sent_is_run plan v again makes.sound_plan plan_fitting

    set_by : (k : ℕ) → result_area p ≡ k → buffers_of (area_named k w) (taken_from k blanks w.area1) w.memory ≡ set_in_order order blanks v
    unfolding set_in_order
    set_by k e =
        rw (← e, is_plan)
        (ap (λ (u : Buffers). buffers_of (area_named (result_area plan) u) (taken_from (result_area plan) blanks u.area1) u.memory) sent-all)

    sent-set : SetBy order blanks v w (result_area p)
    unfolding area_named
    sent-set =
        record {
          fits = subst (Fits order.geometry) (sym sent-all) end_fits;
          first = set_by 1;
          zeroth = λ ne.
              ap (λ (l : List ℕ). buffers_of w.area0 l w.memory) (sym (taken_none blanks w.area1)) ∙ set_by 0 (omega (arith, result_small p));
        }

-- the same, by what code knows once it has sent the steps
pub sent→set : {order : Order} {blanks : Bool} (again : ℕ) {v w : Buffers} {p : Plan} → (judgement order ≡ 0) × (length order.rows ≡ ROWS)
    → buffers_fit order.geometry v ≡ true → p ≡ plan_for order.geometry (matrix_of order) order.complement blanks
    → w ≡ (asked_in_turn p again (total_steps p) (begun v)).buffers → SetBy order blanks v w (result_area p)
sent→set {order} {blanks} again {v} {w} {p} known fitting made sent = sent-set order known.1 known.0 blanks v fitting p made again w sent
