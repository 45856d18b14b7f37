-- What do the definitions give for one small order? Its plan and its bytes, computed; the rest by laws. Assumes nothing.
use mathlib.Core.Path.{◌≡◌, refl, sym, ap, ap₂, ◌∙◌, subst}
use mathlib.Core.Bool.{Bool, false, true}
use mathlib.Core.List.{[], ◌∷◌}
use Prim.Native.Nat.{ℕ, ◌+◌, ◌-◌, ◌*◌, ◌≤◌, min}
use native.Mathlib.Omega.{arith}
use lib.Count.{ones}
use lib.ListN.{replicate}
use Rattle.bank.specs.Limits.{PASSES, ROWS}
use Rattle.bank.specs.declared.Geometry.{Geometry}
use Rattle.bank.specs.Geometry.{in_limits, load_at, tier_at, tiers}
use Rattle.algebra.specs.Search.{least_from, least, any_below, first_passing, which, listed}
use Rattle.algebra.specs.Vector.{bit, parity, unless_zero, comb, unit_vectors}
use Rattle.algebra.specs.Matrix.{applied, target, columns, identity, is_identity, kills, singular, marked, source, after, inverse}
use Rattle.order.specs.declared.Order.{Order}
use Rattle.order.specs.Order.{stray_row, stray_complement, spare_row, bad_form, judgement, form_number}
use Rattle.addresses.specs.Address.{sent_to}
use Rattle.planning.specs.declared.Plan.{Plan}
use Rattle.planning.specs.declared.Phase.TheVariants.{Reads}
use Rattle.planning.specs.declared.state.State.{State}
use Rattle.planning.specs.Pass.{Route, complemented, load_steps, pass_steps, phases, total}
use Rattle.planning.specs.Columns.{adding, phi, delta, zero_column, only_marked}
use Rattle.planning.specs.Making.{reached, chosen, unmarked, partner, step1, summands, step2, operations, busy, rounds, first_after, pass_matrices, passes_for}
use Rattle.planning.specs.Running.{count_in_limits, sound}
use Rattle.planning.specs.Stored.{plan_for, plan_of, route_of, stored_complements, stored_pass, stored_rows}
use Rattle.plan.specs.declared.make.Planned.{Planned}
use Rattle.plan.specs.Answer.{planned_for}
use Rattle.totals.specs.Total.{total_steps}
use Rattle.plan.proofs.Answered.{planned_taken}
use Rattle.plan.proofs.Main.{made_accepted}
use Rattle.moving.specs.Bytes.{copied, each, each_from}
use Rattle.moving.specs.Number.{load_of, pass_of, phase_of, tier_of}
use Rattle.moving.specs.Step.{Buffers, buffers_fit, move, moves_from, read_from, read_move, read_takes, write_from, write_move, write_takes}
use Rattle.moving.specs.Call.{Moment, begun, ran, run_count, run_number, step_number, stepped}
use Rattle.moving.proofs.Calls.{CallReady, again_number, next_number, ready_run, run_count_lem, run_next, step_done, step_nine}
use Rattle.moving.proofs.Kept.{kept_begun, kept_run}
use Rattle.mover.specs.declared.run.Ran.{Ran}
use Rattle.mover.specs.declared.step.Stepped.TheVariants.{Again, Done}
use Rattle.mover.specs.Promise.{RunPromise, StepPromise, case_of}
use Rattle.demands.specs.Chain.{moment_of}
use Rattle.demands.specs.Delivers.{Runnable}

-- ---- the order: n 2, b 0, d 0, m 1, R 1; 0 and 1 change places, 2 and 3 stay

abbrev pub bank : Geometry
bank = record { n = 2; b = 0; d = 0; m = 1; r = 1 }

abbrev pub small : Order
small = record { geometry = bank; rows = 3 ∷ 2 ∷ replicate (ROWS - 2) 0; complement = 1 }

pub small_taken : judgement small ≡ 0
unfolding ones in_limits least_from least any_below parity applied kills singular stray_row stray_complement spare_row bad_form form_number judgement
small_taken = refl

pub sent_0 : sent_to small 0 ≡ 1
unfolding ones parity applied target
sent_0 = refl

-- ---- its plan: one pass, and so 8 steps, or 12 where it blanks

abbrev pub plan_that : Bool → Plan
plan_that blanks =
    record {
      geometry = bank;
      blanks = blanks;
      count = 1;
      rows = 3 ∷ 2 ∷ replicate (PASSES * ROWS - 2) 0;
      complements = 1 ∷ replicate (PASSES - 1) 0;
    }

pub small_plan : (blanks : Bool) → (planned_for small blanks).plan ≡ plan_that blanks
unfolding ones least_from least any_below first_passing which listed bit parity unless_zero comb unit_vectors identity is_identity applied columns marked complemented after
    adding source target inverse phi delta zero_column only_marked reached chosen unmarked partner step1 summands step2 operations busy rounds
    first_after pass_matrices passes_for plan_for plan_of stored_rows stored_complements
small_plan blanks = ap (λ (a : Planned). a.plan) (planned_taken small blanks small_taken)

pub small_sound : (blanks : Bool) → sound (plan_that blanks) ≡ true
small_sound blanks = subst (λ (p : Plan). sound p ≡ true) (small_plan blanks) (made_accepted small refl small_taken blanks).sound_plan

pub small_runs : (blanks : Bool) → Runnable (plan_that blanks)
small_runs blanks = record { runnable = small_sound blanks; room = refl }

-- the one that doesn't blank
abbrev pub plan : Plan
plan = plan_that false

abbrev route : Route
route = record { geometry = bank; blanks = false; passes = record { rows = 3 ∷ 2 ∷ []; complement = 1 } ∷ [] }

small_route : route_of plan ≡ route
unfolding listed route_of stored_pass
small_route = refl

route_eight : total (route_of plan) ≡ 8
unfolding total pass_steps phases
route_eight = ap total small_route

pub eight : total_steps plan ≡ 8
unfolding total_steps in_limits count_in_limits
eight = route_eight

-- ---- its records 1, 2, 3, 4 in area 0, and two bytes of memory

abbrev pub holding : ℕ → ℕ → Buffers
holding a b = record { area0 = 1 ∷ 2 ∷ 3 ∷ 4 ∷ []; area1 = replicate 4 0; memory = a ∷ b ∷ [] }

abbrev pub start : Buffers
start = holding 0 0

abbrev pub end : Buffers
end = record { area0 = 1 ∷ 2 ∷ 3 ∷ 4 ∷ []; area1 = 2 ∷ 1 ∷ 3 ∷ 4 ∷ []; memory = 3 ∷ 4 ∷ [] }

abbrev pub at_step : ℕ → State
at_step k = record { next = record { 0 = k } }

pub start_fits : buffers_fit bank start ≡ true
unfolding buffers_fit
start_fits = refl

ready : (k a b : ℕ) → k ≤ 8 → CallReady plan (moment_of (at_step k) (holding a b))
ready k a b h =
    record { sound_plan = small_sound false; in_total = omega (arith, route_eight); fitting = record { area0_long = refl; area1_long = refl; memory_long = refl } }

-- all its steps, and a run of them
pub moved_all : moves_from (move (route_of plan)) 0 (total_steps plan) start ≡ end
unfolding moves_from move read_move read_takes read_from write_move write_takes write_from copied each each_from pass_of load_of phase_of tier_of pass_steps load_steps phases
    tiers tier_at load_at source applied target parity ones least_from least
moved_all = ap₂ (λ (r : Route) (k : ℕ). moves_from (move r) 0 k start) small_route eight

abbrev pub ended : Ran
ended = record { number = 0; count = 8; state = at_step 8 }

pub run_promised : RunPromise plan (begun start) 8 ended end
run_promised =
    record {
      number = sym number;
      count = sym count;
      state' = sym (ap at_step next);
      bytes = sym ((kept_run plan start (begun start) (kept_begun plan start) 8).once ∙ rw (next, ← eight) moved_all);
    }
  where
    number : run_number plan (begun start) ≡ 0
    number = ready_run plan (begun start) (ready 0 0 0 (omega arith))

    count : run_count plan (begun start) 8 ≡ 8
    count = run_count_lem plan (begun start) 8 number ∙ ap (λ (k : ℕ). min 8 (k - 0)) route_eight

    next : (ran plan (begun start) 8).state.next.0 ≡ 8
    next = run_next plan (begun start) 8 ∙ ap (λ (k : ℕ). 0 + k) count

-- ---- step 0: byte 0 of memory becomes record 0

pub reads_first : phase_of (route_of plan) 0 ≡ Reads
unfolding route_of phase_of pass_steps load_steps phases tiers
reads_first = refl

pub tier_first : tier_of (route_of plan) 0 ≡ 0
unfolding route_of tier_of pass_steps load_steps phases tiers
tier_first = refl

moved_first : (a b : ℕ) → move (route_of plan) 0 (holding a b) ≡ holding 1 b
unfolding move read_move read_takes read_from copied each each_from pass_of load_of phase_of tier_of pass_steps load_steps phases tiers tier_at
moved_first a b = ap (λ (r : Route). move r 0 (holding a b)) small_route

done_by : (k n a b : ℕ) → step_number plan (moment_of (at_step k) (holding a b)) 0 ≡ n
    → stepped plan (moment_of (at_step k) (holding a b)) 0 ≡ moment_of (at_step 1) (move (route_of plan) 0 (holding a b))
    → StepPromise plan (moment_of (at_step k) (holding a b)) 0 (case_of n (at_step 1)) (holding 1 b)
done_by k n a b number done =
    record {
      answered = sym (ap₂ case_of number (ap (λ (m : Moment). m.state) done));
      bytes = sym (ap (λ (m : Moment). m.buffers) done ∙ moved_first a b);
    }

pub step_promised : (a b : ℕ) → StepPromise plan (begun (holding a b)) 0 (Done (at_step 1)) (holding 1 b)
unfolding case_of
step_promised a b =
    let number = next_number plan (begun (holding a b)) 0 (ready 0 a b (omega arith)) (omega (arith, route_eight)) refl in
    done_by 0 0 a b number (step_done plan (begun (holding a b)) 0 number)

pub again_promised : (a b : ℕ) → StepPromise plan (moment_of (at_step 1) (holding a b)) 0 (Again (at_step 1)) (holding 1 b)
unfolding case_of
again_promised a b =
    let number = again_number plan (moment_of (at_step 1) (holding a b)) 0 (ready 1 a b (omega arith)) (omega (arith, route_eight)) refl in
    done_by 1 9 a b number (step_nine plan (moment_of (at_step 1) (holding a b)) 0 number)
