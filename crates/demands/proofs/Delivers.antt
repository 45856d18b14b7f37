-- Our mover has demand 3, by its own plans and by any plan that performs an order. Assumes nothing.
use mathlib.Core.Path.{◌≡◌, refl, sym, ap, ap₂, ◌∙◌, subst}
use mathlib.Core.Bool.{Bool, true, cond}
use mathlib.Core.List.{List}
use mathlib.Core.Logic.{◌↔◌, ◌⊎◌, ⊎_elim}
use Prim.Native.Nat.{ℕ, zero, suc, ◌+◌, ◌-◌, ◌%◌, ◌*◌, ◌<◌, ◌≤◌}
use native.Mathlib.Nat.{le_of_eq, mul_comm, mul-zero, zero-add}
use native.Mathlib.Numerals.{add-one}
use native.Mathlib.Omega.{arith}
use lib.Dec.{eqb}
use lib.ListN.{length}
use Rattle.algebra.proofs.Listed.{listed_length}
use Rattle.algebra.specs.Matrix.{columns, rank}
use Rattle.bank.specs.Limits.{PASSES, ROWS}
use Rattle.bank.specs.declared.Geometry.{Geometry}
use Rattle.bank.specs.Geometry.{records}
use Rattle.order.specs.declared.Order.{Order}
use Rattle.addresses.specs.declared.Target.{Target}
use Rattle.order.specs.Order.{matrix_of, judgement}
use Rattle.addresses.specs.Address.{sent_to}
use Rattle.order.proofs.Accepted.{Accepted, judgement→accepted, matrix_below, matrix_length}
use Rattle.planning.specs.declared.Plan.{Plan}
use Rattle.planning.specs.Columns.{phi}
use Rattle.planning.specs.Making.{divided_up}
use Rattle.planning.specs.Pass.{Pass, pass_steps, performed, total}
use Rattle.planning.specs.Stored.{plan_for, plan_of, route_of, stored_rows}
use Rattle.planning.proofs.Made.{runs_bound}
use Rattle.planning.proofs.Running.{sound_allowed, sound→can_run, sound→runs}
use Rattle.planning.proofs.Still.{still_or, still_target, target_still}
use Rattle.planning.proofs.Stored.{route_length, route_none}
use Rattle.plan.specs.declared.make.Planned.{Planned}
use Rattle.plan.specs.Answer.{planned_for}
use Rattle.totals.specs.Total.{result_area}
use Rattle.plan.proofs.Answered.{planned_taken}
use Rattle.plan.proofs.Main.{made_accepted}
use Rattle.moving.specs.Bytes.{AllZero, record_of}
use Rattle.moving.specs.Step.Area.{zeroth, first}
use Rattle.moving.specs.Step.{Buffers, bytes_of, area_read, buffers_fit}
use Rattle.moving.specs.Call.{Moment, begun}
use Rattle.moving.proofs.Calls.{CallReady, can→ready, next_number, ready_run, run_next}
use Rattle.moving.proofs.Numbers.{pass-stripes}
use Rattle.moving.proofs.Kept.{Kept, delivered, kept_begun, kept_ready, kept_run, kept_step, spent, step_advance, still_bytes}
use Rattle.mover.proofs.Asked.{total_is}
use Rattle.demands.specs.Mover.{beginning}
use Rattle.demands.specs.Ours.{ours}
use Rattle.demands.specs.Chain.{Called, Chain, new_steps}
use Rattle.demands.specs.Chain.Chain.{no_calls, step, run, stray_step, stray_run}
use Rattle.demands.specs.Delivers.{Blanked, Carries, Delivered, Delivers, DeliversForeign, Performs, Reached, Runnable, area_named, rounds_for, steps_a_pass}
use Rattle.demands.specs.PassCounts.{PassCounts}
use Rattle.demands.specs.Still.{StillOrder}
use Rattle.demands.proofs.OneStep.{one_step}
use Rattle.demands.proofs.Repeats.{ours_repeats}
use Rattle.demands.proofs.Promised.{run_moment, step_moment, step_number_lem}
use Rattle.demands.proofs.Answers.{ours_answers}
use Rattle.demands.proofs.Sends.{ours-sends}
use Rattle.demands.proofs.Chains.{stray_run_lem, stray_step_lem}

-- ---- a chain of our calls keeps what each call keeps, and its state counts the new steps

kept_chain : {plan : Plan} {m end : Moment} {cs : List Called} (v : Buffers) → Chain ours plan m cs end → Kept plan v m → Kept plan v end
kept_chain v no_calls k = k
kept_chain {plan} v (step {m = m} {w = w} i answer p rest) k =
    kept_chain v rest (rw (step_moment plan m i answer w p) (kept_step plan v m k i))
kept_chain {plan} v (run {m = m} {w = w} q answer p rest) k = kept_chain v rest (rw (run_moment plan m q answer w p) (kept_run plan v m k q))
kept_chain v (stray_step {m = m} {w = w} stray i answer p f rest) k = kept_chain v rest (rw (stray_step_lem ours ours_answers stray m i answer w p f) k)
kept_chain v (stray_run {m = m} {w = w} stray q answer p f rest) k = kept_chain v rest (rw (stray_run_lem ours ours_answers stray m q answer w p f) k)

chain_advance : {plan : Plan} {m end : Moment} {cs : List Called} → Chain ours plan m cs end → end.state.next.0 ≡ m.state.next.0 + new_steps cs
unfolding new_steps
chain_advance no_calls = omega arith
chain_advance {plan} (step {m = m} {w = w} i answer p rest) =
    let left = ap (λ (n : Moment). n.state.next.0) (step_moment plan m i answer w p) in
    let one = ap {B = ℕ} (λ k. cond (eqb k 0) 1 0) (step_number_lem plan m i answer w p) in
    omega (arith, chain_advance rest, left, step_advance plan m i, one)
chain_advance {plan} (run {m = m} {w = w} q answer p rest) =
    let left = ap (λ (n : Moment). n.state.next.0) (run_moment plan m q answer w p) in
    omega (arith, chain_advance rest, left, run_next plan m q, p.count)
chain_advance (stray_step stray i answer p f rest) = chain_advance rest
chain_advance (stray_run stray q answer p f rest) = chain_advance rest

-- ---- the areas, by their numbers

-- the area of a pass's number is the one that it reads
area_read_lem : (p : ℕ) (v : Buffers) → area_named (p % 2) v ≡ bytes_of (area_read p) v
unfolding area_named
area_read_lem p v = by (p % 2) (omega arith)
  where
    by : (k : ℕ) → k < 2 → area_named k v ≡ bytes_of (cond (eqb k 0) zeroth first) v
    by zero h = refl
    by (suc zero) h = refl
    by (suc (suc k)) h = absurd (omega arith)

-- and our call names that of the pass after the last
area_is : (plan : Plan) (v : Buffers) → area_named (ours.area plan) v ≡ bytes_of (area_read plan.count) v
unfolding result_area
area_is plan v = area_read_lem plan.count v

-- ---- a plan that can run, whoever made it

module _ (plan : Plan) (can : Runnable plan) where
  all : ours.total plan ≡ total (route_of plan)
  all = total_is plan can.runnable

  module _ (v : Buffers) (fitting : buffers_fit plan.geometry v ≡ true) (cs : List Called) (end : Moment)
      (chain : Chain ours plan (beginning ours v) cs end) where
    kept : Kept plan v end
    kept = kept_chain v chain (kept_begun plan v)

    -- no call of the chain is refused with 7 or 4
    ready : CallReady plan end
    ready = kept_ready plan v end kept (can→ready plan (begun v) (sound→can_run plan (begun v).state can.runnable (omega arith)) fitting)

    reached : Reached ours plan cs end
    reached =
        record {
          in_total = omega (arith, all, kept.in_total);
          counted = chain_advance chain ∙ zero-add _;
          goes_on = λ h r w p.
              let next = end.state.next.0 in
              step_number_lem plan end next r w p ∙ next_number plan end next ready (omega (arith, all)) refl;
          runs_on = λ q r w p. p.number ∙ ready_run plan end ready;
        }

  carries : Carries ours plan
  unfolding total route_of
  carries =
      record {
        steps = all ∙ ap₂ (λ (each passes : ℕ). each * passes) (pass-stripes (route_of plan) (sound_allowed plan can.runnable)) (route_length plan);
        one_block = one_step plan can;
        chains = reached;
      }

  -- ---- where it blanks

  module _ (marked : plan.blanks ≡ true) (v : Buffers) (fitting : buffers_fit plan.geometry v ≡ true) (cs : List Called) (end : Moment)
      (chain : Chain ours plan (beginning ours v) cs end) where
    each : pass_steps (route_of plan) ≡ steps_a_pass plan
    unfolding route_of
    each = pass-stripes (route_of plan) (sound_allowed plan can.runnable)

    -- after pass p, the area that it read and memory are zero
    spent_pass : (p : ℕ) → p < plan.count → end.state.next.0 ≡ steps_a_pass plan * (p + 1)
        → AllZero (area_named (p % 2) end.buffers) × AllZero end.buffers.memory
    spent_pass p h ends =
        rw (area_read_lem p end.buffers)
        (spent plan (sound→runs plan can.room can.runnable) v fitting end (kept v fitting cs end chain) marked p h
        (ends ∙ ap₂ (λ (i k : ℕ). i * k) (sym each) (add-one p) ∙ mul_comm (pass_steps (route_of plan)) (suc p)))

    -- at the end pass p was the last, and the area that it read isn't the one named
    spent_end : (p : ℕ) → plan.count ≡ p + 1 → end.state.next.0 ≡ ours.total plan
        → AllZero (area_named (1 - ours.area plan) end.buffers) × AllZero end.buffers.memory
    unfolding total result_area
    spent_end p e ends =
        subst (λ (k : ℕ). AllZero (area_named k end.buffers) × AllZero end.buffers.memory) (omega (arith, e))
        (spent_pass p (omega (arith, e)) (ends ∙ all ∙ ap₂ (λ (i k : ℕ). i * k) each (route_length plan ∙ e)))

  blanked : plan.blanks ≡ true → Blanked ours plan
  unfolding total
  blanked marked =
      record {
        after-pass = spent_pass marked;
        at_end = λ v fitting cs end chain some ends. spent_end marked v fitting cs end chain (plan.count - 1) (omega arith) ends;
        no_pass = λ v fitting cs end chain none.
            still_bytes plan v end (kept v fitting cs end chain) (ap (λ (k : ℕ). pass_steps (route_of plan) * k) (route_length plan ∙ none) ∙ mul-zero (pass_steps (route_of plan)));
      }

-- ---- a plan that performs an order, whoever made it

module _ (order : Order) (plan : Plan) (does : Performs order plan) where
  performs : (x : ℕ) → x < records plan.geometry → performed (route_of plan).passes x ≡ sent_to order x
  performs x h = does.takes x (subst (λ (g : Geometry). x < records g) does.on_its_bank h)

  -- what is to be delivered, if the bank is g
  abbrev OnBank : Geometry → Type 0
  OnBank g =
      (v : Buffers) → buffers_fit g v ≡ true → (cs : List Called) (end : Moment) → Chain ours plan (beginning ours v) cs end
      → end.state.next.0 ≡ ours.total plan → (x : ℕ) → x < records g
      → record_of g.r (area_named (ours.area plan) end.buffers) (sent_to order x) ≡ record_of g.r v.area0 x

  delivers : OnBank plan.geometry
  delivers v fitting cs end chain ends x h =
      rw (area_is plan end.buffers, ← route_length plan)
      (delivered plan (sound→runs plan does.runs.room does.runs.runnable) (matrix_of order) order.complement performs v fitting end
      (kept plan does.runs v fitting cs end chain) (ends ∙ all plan does.runs) x h)

  foreign_delivers : Delivered ours order plan
  foreign_delivers = subst OnBank does.on_its_bank delivers

pub ours_foreign : DeliversForeign ours
ours_foreign = foreign_delivers

-- ---- our own plan performs its order

-- what was asked of the spent area
own_keeps : (order : Order) (taken : judgement order ≡ 0) (blanks : Bool) → (planned_for order blanks).plan.blanks ≡ blanks
unfolding plan_for plan_of
own_keeps order taken blanks = ap (λ (a : Planned). a.plan.blanks) (planned_taken order blanks taken)

module _ (order : Order) (room : length order.rows ≡ ROWS) (taken : judgement order ≡ 0) where
  own_room : (blanks : Bool) → length (planned_for order blanks).plan.rows ≡ PASSES * ROWS
  unfolding plan_for plan_of stored_rows
  own_room blanks = ap (λ (a : Planned). length a.plan.rows) (planned_taken order blanks taken) ∙ listed_length _ (PASSES * ROWS) 0

  own_performs : (blanks : Bool) → Performs order (planned_for order blanks).plan
  own_performs blanks =
      let k = made_accepted order room taken blanks in
      record { on_its_bank = k.on_its_bank; runs = record { runnable = k.sound_plan; room = own_room blanks }; takes = k.performs }

  formed : Accepted order
  formed = judgement→accepted order taken

  long : length (matrix_of order) ≡ order.geometry.n
  long = matrix_length order formed.inside room

  still_or_not : StillOrder order ⊎ (StillOrder order → ⊥)
  still_or_not = still_or order.geometry (matrix_of order) order.complement long

  own_none : (blanks : Bool) → StillOrder order → (planned_for order blanks).plan.count ≡ 0
  own_none blanks = (made_accepted order room taken blanks).no_pass

  pub own_passes : (StillOrder order → ⊥) → (blanks : Bool) → (planned_for order blanks).plan.count ≡ rounds_for order + 1
  own_passes f blanks = (made_accepted order room taken blanks).passes f

  -- at most one more than rounds, whichever of the two it is
  own_few : (blanks : Bool) → (planned_for order blanks).plan.count ≤ rounds_for order + 1
  own_few blanks =
      ⊎_elim (λ (s : StillOrder order). omega (arith, own_none blanks s)) (λ (f : StillOrder order → ⊥). le_of_eq (own_passes f blanks)) still_or_not

  sent : (x : ℕ) → x < records order.geometry → (ours.sends order x).address.0 ≡ sent_to order x
  sent x h = ap (λ (t : Target). t.address.0) ((ours-sends order room).sends taken x h)

  -- an order that sends every address to itself is such a one
  stays_still : ((x : ℕ) → x < records order.geometry → sent_to order x ≡ x) → StillOrder order
  stays_still =
      target_still order.geometry.n (matrix_of order) order.complement long (matrix_below order formed.inside room formed.form)

  -- and that is where every address is sent to itself
  own_stays : StillOrder order ↔ ((x : ℕ) → x < records order.geometry → (ours.sends order x).address.0 ≡ x)
  own_stays = (
    λ s x h. sent x h ∙ still_target order.geometry.n (matrix_of order) order.complement s x h,
    λ f. stays_still (λ x h. sym (sent x h) ∙ f x h),
  )

  -- a plan of no passes leaves every address where it is
  foreign_stays : (plan : Plan) → Performs order plan → plan.count ≡ 0 → StillOrder order
  unfolding performed
  foreign_stays plan does none = stays_still (λ x h. sym (does.takes x h) ∙ ap (λ (ps : List Pass). performed ps x) (route_none plan none))

  -- so ours has none exactly there
  own_exact : (blanks : Bool) → ((planned_for order blanks).plan.count ≡ 0) ↔ StillOrder order
  own_exact blanks = (foreign_stays (planned_for order blanks).plan (own_performs blanks), own_none blanks)

pub ours_delivers : Delivers ours
ours_delivers =
    record {
      own = λ order room taken blanks.
          let k = own_performs order room taken blanks in
          record {
            keeps = own_keeps order taken blanks;
            on_its_bank = k.on_its_bank;
            runs = k.runs;
            delivers = foreign_delivers order (planned_for order blanks).plan k;
            passes = own_few order room taken blanks;
          };
      carries = carries;
      blanked = blanked;
      repeats = ours_repeats;
    }

pub ours_counts : PassCounts ours
ours_counts =
    record {
      performs = own_performs;
      none = own_exact;
      none_moves = own_stays;
      exact = own_passes;
      none_others = foreign_stays;
      at_least = least;
      near_best = λ order room taken plan does blanks. omega (arith, own_few order room taken blanks, least order plan does);
    }
  where
    least : (order : Order) (plan : Plan) → Performs order plan → rounds_for order ≤ plan.count
    least order plan does =
        subst (λ (g : Geometry). divided_up (rank (phi g.m (columns g.n (matrix_of order))) g.m) (g.m - g.b) ≤ plan.count) does.on_its_bank
        (runs_bound plan does.runs.runnable (matrix_of order) order.complement (performs order plan does))
