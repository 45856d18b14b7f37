-- What does a call answer, and what does it leave? Assumes nothing.
use mathlib.Core.Path.{◌∙◌, ◌≡◌, ap, ap₂, refl, subst, sym}
use mathlib.Core.Bool.{Bool, ◌||◌, cond, false, false≢true, not, true, true≢false}
use mathlib.Core.Logic.{◌⊎◌, inl, inr}
use Prim.Native.Nat.{◌+◌, ◌-◌, ◌<◌, ◌≤◌, min, ℕ}
use native.Mathlib.Nat.{add_assoc, add-zero}
use native.Mathlib.Omega.{arith}
use borrow.Author.Tests.{eq-eqb, eqb-true, le-leb, leb-true, lt-leb, ne_eqb}
use lib.Dec.{eqb, leb}
use Rattle.algebra.proofs.Search.{and_both, and_l, and_r, le_or_lt, same_or}
use Rattle.moving.proofs.Again.{move-again}
use Rattle.moving.proofs.Fits.{Fits→buffers_fit, buffers_fit→Fits, move_fits, moves_from_fits, Fits}
use Rattle.moving.specs.Call.{Moment, buffers_by, ran, ready_number, refuses, run_count, run_number, state_by, step_number, stepped, turn_number}
use Rattle.moving.specs.Step.{Buffers, buffers_fit, move, moves_from}
use Rattle.planning.specs.Pass.{total}
use Rattle.planning.specs.Running.{can_run, sound}
use Rattle.planning.specs.State.{further_by}
use Rattle.planning.specs.Stored.{route_of}
use Rattle.planning.specs.declared.Plan.{Plan}
use Rattle.moving.proofs.Moves.{from_from}

-- ---- whose turn it is

module _ (all next asked : ℕ) where
  -- it is neither the next step nor the one before it
  abbrev Apart : Type 0
  Apart = (asked < all) × (asked ≡ next → ⊥) × (asked + 1 ≡ next → ⊥)

  pub past_turn : all ≤ asked → turn_number all next asked ≡ 6
  unfolding turn_number
  past_turn h = rw (le-leb all asked h)

  pub next_turn : asked < all → asked ≡ next → turn_number all next asked ≡ 0
  unfolding turn_number
  next_turn h e = rw (lt-leb all asked h, eq-eqb asked next e)

  pub again_turn : asked < all → asked + 1 ≡ next → turn_number all next asked ≡ 9
  unfolding turn_number
  again_turn h e = rw (lt-leb all asked h, ne_eqb asked next (λ f. omega arith), eq-eqb (asked + 1) next e)

  pub apart_turn : Apart → turn_number all next asked ≡ 5
  unfolding turn_number
  apart_turn h = rw (lt-leb all asked h.0, ne_eqb asked next h.1, ne_eqb (asked + 1) next h.2)

  pub by_turn : (P : ℕ → Type 0) → (all ≤ asked → P 6) → (asked < all → asked ≡ next → P 0) → (asked < all → asked + 1 ≡ next → P 9) → (Apart → P 5)
      → P (turn_number all next asked)
  by_turn P six done nine five = go (le_or_lt all asked) (same_or asked next) (same_or (asked + 1) next)
    where
      go : (all ≤ asked) ⊎ (asked < all) → (asked ≡ next) ⊎ (asked ≡ next → ⊥) → (asked + 1 ≡ next) ⊎ (asked + 1 ≡ next → ⊥) → P (turn_number all next asked)
      go (inl h) s t = subst P (sym (past_turn h)) (six h)
      go (inr h) (inl e) t = subst P (sym (next_turn h e)) (done h e)
      go (inr h) (inr n) (inl e) = subst P (sym (again_turn h e)) (nine h e)
      go (inr h) (inr n) (inr f) = subst P (sym (apart_turn (h, n, f))) (five (h, n, f))

-- ---- what is checked before

module _ (plan : Plan) (moment : Moment) where
  -- the plan can't run
  abbrev pub Stuck : Type 0
  Stuck = can_run plan moment.state ≡ false

  -- it can, and a buffer isn't of its length
  abbrev pub Unfit : Type 0
  Unfit = (can_run plan moment.state ≡ true) × (buffers_fit plan.geometry moment.buffers ≡ false)

  module _ (later : ℕ) where
    pub stuck_number : Stuck → ready_number plan moment later ≡ 7
    unfolding ready_number
    stuck_number e = rw e

    pub unfit_number : Unfit → ready_number plan moment later ≡ 4
    unfolding ready_number buffers_fit
    unfit_number e = rw (e.0, e.1)

    pub ready_number_lem : can_run plan moment.state ≡ true → buffers_fit plan.geometry moment.buffers ≡ true → ready_number plan moment later ≡ later
    unfolding ready_number buffers_fit
    ready_number_lem c f = rw (c, f)

    pub by_checks : (P : ℕ → Type 0) → (Stuck → P 7) → (Unfit → P 4)
        → (can_run plan moment.state ≡ true → buffers_fit plan.geometry moment.buffers ≡ true → P later) → P (ready_number plan moment later)
    by_checks P seven four rest = go (can_run plan moment.state) (buffers_fit plan.geometry moment.buffers) refl refl
      where
        go : (c f : Bool) → can_run plan moment.state ≡ c → buffers_fit plan.geometry moment.buffers ≡ f → P (ready_number plan moment later)
        go false f p q = subst P (sym (stuck_number p)) (seven p)
        go true false p q = subst P (sym (unfit_number (p, q))) (four (p, q))
        go true true p q = subst P (sym (ready_number_lem p q)) (rest p q)

-- ---- a moment at which a call is not refused with 7 or 4

pub record CallReady (plan : Plan) (moment : Moment) : Type 0 where
  pub sound_plan : sound plan ≡ true
  pub in_total : moment.state.next.0 ≤ total (route_of plan)
  pub fitting : Fits plan.geometry moment.buffers

module _ (plan : Plan) (moment : Moment) where
  abbrev next : ℕ
  next = moment.state.next.0

  abbrev all : ℕ
  all = total (route_of plan)

  pub can→ready : can_run plan moment.state ≡ true → buffers_fit plan.geometry moment.buffers ≡ true → CallReady plan moment
  unfolding can_run
  can→ready c f =
      record {
        sound_plan = and_l (sound plan) (leb next all) c;
        in_total = leb-true next all (and_r (sound plan) (leb next all) c);
        fitting = buffers_fit→Fits plan.geometry moment.buffers f;
      }

  ready_is : (later : ℕ) → CallReady plan moment → ready_number plan moment later ≡ later
  unfolding can_run
  ready_is later k =
      ready_number_lem plan moment later (and_both (sound plan) (leb next all) k.sound_plan (le-leb next all k.in_total))
      (Fits→buffers_fit plan.geometry moment.buffers k.fitting)

  -- ---- a step

  module _ (asked : ℕ) where
    abbrev moved : Buffers
    moved = move (route_of plan) asked moment.buffers

    -- what each number leaves
    abbrev stepped_by : ℕ → Moment
    stepped_by k = record { state = state_by k moment.state; buffers = buffers_by k moved moment.buffers }

    refused_by : (k : ℕ) → refuses k ≡ true → stepped_by k ≡ moment
    refused_by k e = go (eqb k 0) (eqb k 9) e
      where
        go : (z n : Bool) → not (z || n) ≡ true
            → ◌≡◌ {A = Moment} (record { state = cond z (further_by moment.state 1) moment.state; buffers = cond (z || n) moved moment.buffers }) moment
        go true n e = absurd (false≢true e)
        go false true e = absurd (false≢true e)
        go false false e = refl

    -- a step's number refuses, or it is 0 for the next step, or 9 for the one before
    by_step : (P : ℕ → Type 0) → ((k : ℕ) → refuses k ≡ true → P k) → (CallReady plan moment → asked < all → asked ≡ next → P 0)
        → (CallReady plan moment → asked < all → asked + 1 ≡ next → P 9) → P (step_number plan moment asked)
    unfolding step_number
    by_step P refused done nine =
        by_checks plan moment (turn_number all next asked) P (λ e. refused 7 refl) (λ e. refused 4 refl)
        (λ c f. let r = can→ready c f in by_turn all next asked P (λ h. refused 6 refl) (done r) (nine r) (λ h. refused 5 refl))

    -- and what it leaves
    pub by_stepped : (P : Moment → Type 0) → P moment
        → (CallReady plan moment → asked < all → asked ≡ next → P (record { state = further_by moment.state 1; buffers = moved }))
        → (CallReady plan moment → asked < all → asked + 1 ≡ next → P (record { state = moment.state; buffers = moved }))
        → P (stepped plan moment asked)
    unfolding stepped
    by_stepped P stays done nine = by_step (λ (k : ℕ). P (stepped_by k)) (λ k f. subst P (sym (refused_by k f)) stays) done nine

    -- the move is made, and the next step advances
    pub step_done : step_number plan moment asked ≡ 0 → stepped plan moment asked ≡ record { state = further_by moment.state 1; buffers = moved }
    unfolding stepped
    step_done e = ap stepped_by e

    -- the move is made again, and the state stays
    pub step_nine : step_number plan moment asked ≡ 9 → stepped plan moment asked ≡ record { state = moment.state; buffers = moved }
    unfolding stepped
    step_nine e = ap stepped_by e

    pub nine_state : step_number plan moment asked ≡ 9 → (stepped plan moment asked).state ≡ moment.state
    nine_state e = ap (λ (w : Moment). w.state) (step_nine e)

    -- REFUSED. Neither the state nor a byte changes
    pub refused_keeps : refuses (step_number plan moment asked) ≡ true → stepped plan moment asked ≡ moment
    unfolding stepped
    refused_keeps e = refused_by (step_number plan moment asked) e

    -- NOT REFUSED. The move is made
    pub taken_moves : refuses (step_number plan moment asked) ≡ false → CallReady plan moment × ((stepped plan moment asked).buffers ≡ moved)
    unfolding stepped
    taken_moves =
        by_step (λ (k : ℕ). refuses k ≡ false → CallReady plan moment × ((stepped_by k).buffers ≡ moved))
        (λ k f e. absurd (true≢false (sym f ∙ e))) (λ r h q e. (r, refl)) (λ r h q e. (r, refl))

    -- a step's number is 0 only where it is the next step, and 9 only where it is the one before
    pub zero_means : step_number plan moment asked ≡ 0 → CallReady plan moment × (asked < all) × (asked ≡ next)
    zero_means =
        by_step (λ (k : ℕ). k ≡ 0 → CallReady plan moment × (asked < all) × (asked ≡ next))
        (λ k f e. absurd (true≢false (sym f ∙ ap refuses e))) (λ r h q e. (r, h, q)) (λ r h q e. absurd (omega arith))

    pub nine_means : step_number plan moment asked ≡ 9 → CallReady plan moment × (asked < all) × (asked + 1 ≡ next)
    nine_means =
        by_step (λ (k : ℕ). k ≡ 9 → CallReady plan moment × (asked < all) × (asked + 1 ≡ next))
        (λ k f e. absurd (true≢false (sym f ∙ ap refuses e))) (λ r h q e. absurd (omega arith)) (λ r h q e. (r, h, q))

    -- and there it is
    pub next_number : CallReady plan moment → asked < all → asked ≡ next → step_number plan moment asked ≡ 0
    unfolding step_number
    next_number k h e = ready_is (turn_number all next asked) k ∙ next_turn all next asked h e

    pub again_number : CallReady plan moment → asked < all → asked + 1 ≡ next → step_number plan moment asked ≡ 9
    unfolding step_number
    again_number k h e = ready_is (turn_number all next asked) k ∙ again_turn all next asked h e

    -- a moment stays ready
    pub step_ready : CallReady plan moment → CallReady plan (stepped plan moment asked)
    step_ready k =
        let f = move_fits plan.geometry (route_of plan) asked moment.buffers k.fitting in
        by_stepped (CallReady plan) k
        (λ r h e. record { sound_plan = k.sound_plan; in_total = omega arith; fitting = f })
        (λ r h e. record { sound_plan = k.sound_plan; in_total = k.in_total; fitting = f })

-- DONE AGAIN. A step asked once more right after it was done answers 9 and changes no byte
module _ (plan : Plan) (moment : Moment) (asked : ℕ) (done : step_number plan moment asked ≡ 0) where
  pub repeat_number : step_number plan (stepped plan moment asked) asked ≡ 9
  repeat_number =
      let k = zero_means plan moment asked done in
      again_number plan (stepped plan moment asked) asked (step_ready plan moment asked k.0) k.1
      (ap (λ (i : ℕ). i + 1) k.2 ∙ sym (ap (λ (w : Moment). w.state.next.0) (step_done plan moment asked done)))

  pub repeat_keeps : (stepped plan (stepped plan moment asked) asked).buffers ≡ (stepped plan moment asked).buffers
  repeat_keeps =
      let bytes = ap (λ (w : Moment). w.buffers) (step_done plan moment asked done) in
      ap (λ (w : Moment). w.buffers) (step_nine plan (stepped plan moment asked) asked repeat_number)
      ∙ ap (move (route_of plan) asked) bytes ∙ move-again (route_of plan) asked moment.buffers ∙ sym bytes

-- ---- a run

-- the moment k steps on
unfoldable steps_on : Plan → Moment → ℕ → Moment
steps_on plan moment k =
    record { state = further_by moment.state k; buffers = moves_from (move (route_of plan)) moment.state.next.0 k moment.buffers }

on_none : (plan : Plan) (moment : Moment) → steps_on plan moment 0 ≡ moment
unfolding steps_on moves_from
on_none plan moment = ap (λ (i : ℕ). record { state = record { next = record { 0 = i } }; buffers = moment.buffers }) (add-zero moment.state.next.0)

on_on : (plan : Plan) (moment : Moment) (j k : ℕ) → steps_on plan (steps_on plan moment j) k ≡ steps_on plan moment (j + k)
unfolding steps_on
on_on plan moment j k =
    ap₂ (λ (i : ℕ) (w : Buffers). record { state = record { next = record { 0 = i } }; buffers = w })
    (add_assoc moment.state.next.0 j k) (from_from (move (route_of plan)) moment.state.next.0 j k moment.buffers)

module _ (plan : Plan) (moment : Moment) where
  run_on : (q k : ℕ) → run_count plan moment q ≡ k → ran plan moment q ≡ steps_on plan moment k
  unfolding ran steps_on
  run_on q k e = ap (steps_on plan moment) e

  pub run_ready : run_number plan moment ≡ 0 → CallReady plan moment
  unfolding run_number
  run_ready =
      by_checks plan moment 0 (λ (k : ℕ). k ≡ 0 → CallReady plan moment)
      (λ s e. absurd (omega arith)) (λ u e. absurd (omega arith)) (λ c f e. can→ready plan moment c f)

  pub ready_run : CallReady plan moment → run_number plan moment ≡ 0
  unfolding run_number
  ready_run k = ready_is plan moment 0 k

  -- REFUSED. Neither the state nor a byte changes, and no step is done
  pub refused_count : (q : ℕ) → eqb (run_number plan moment) 0 ≡ false → run_count plan moment q ≡ 0
  unfolding run_count
  refused_count q e = rw e

  pub refused_run : (q : ℕ) → eqb (run_number plan moment) 0 ≡ false → ran plan moment q ≡ moment
  refused_run q e = run_on q 0 (refused_count q e) ∙ on_none plan moment

  -- DONE. As many steps as are allowed and left
  pub run_count_lem : (q : ℕ) → run_number plan moment ≡ 0 → run_count plan moment q ≡ min q (total (route_of plan) - moment.state.next.0)
  unfolding run_count
  run_count_lem q e = rw (eq-eqb (run_number plan moment) 0 e)

  pub run_next : (q : ℕ) → (ran plan moment q).state.next.0 ≡ moment.state.next.0 + run_count plan moment q
  unfolding ran
  run_next q = refl

  on_ready : (k : ℕ) → k ≤ total (route_of plan) - moment.state.next.0 → CallReady plan moment → CallReady plan (steps_on plan moment k)
  unfolding steps_on
  on_ready k h r =
      record {
        sound_plan = r.sound_plan;
        in_total = omega arith;
        fitting = moves_from_fits plan.geometry (route_of plan) moment.state.next.0 k moment.buffers r.fitting;
      }

  -- a moment stays ready
  pub ran_ready : (q : ℕ) → CallReady plan moment → CallReady plan (ran plan moment q)
  ran_ready q r =
      let e = run_count_lem q (ready_run r) in
      subst (CallReady plan) (sym (run_on q (run_count plan moment q) refl)) (on_ready (run_count plan moment q) (omega (arith, e)) r)

  pub by_run : (P : Type 0) → (run_number plan moment ≡ 0 → P) → (eqb (run_number plan moment) 0 ≡ false → P) → P
  by_run P does refused = go (eqb (run_number plan moment) 0) refl
    where
      go : (t : Bool) → eqb (run_number plan moment) 0 ≡ t → P
      go true e = does (eqb-true (run_number plan moment) 0 e)
      go false e = refused e

-- allowances that give the same count do the same
pub run_same : (plan : Plan) (moment : Moment) (q k : ℕ) → run_count plan moment q ≡ run_count plan moment k → ran plan moment q ≡ ran plan moment k
run_same plan moment q k e = run_on plan moment q (run_count plan moment k) e ∙ sym (run_on plan moment k (run_count plan moment k) refl)

pub run_none : (plan : Plan) (moment : Moment) → ran plan moment 0 ≡ moment
run_none plan moment =
    by_run plan moment (ran plan moment 0 ≡ moment)
    (λ e. run_on plan moment 0 0 (run_count_lem plan moment 0 e ∙ omega arith) ∙ on_none plan moment) (refused_run plan moment 0)

-- a run of q followed by one of k is a run of their sum, refused or not
pub run_again : (plan : Plan) (moment : Moment) (q k : ℕ) → ran plan (ran plan moment q) k ≡ ran plan moment (q + k)
unfolding steps_on
run_again plan moment q k =
    by_run plan moment (ran plan (ran plan moment q) k ≡ ran plan moment (q + k))
    (λ e. let between = steps_on plan moment done in
    let r = ready_run plan between (on_ready plan moment done (omega arith) (run_ready plan moment e)) in
    ap (λ (w : Moment). ran plan w k) (run_on plan moment q done (run_count_lem plan moment q e))
    ∙ run_on plan between k more (run_count_lem plan between k r)
    ∙ on_on plan moment done more
    ∙ sym (run_on plan moment (q + k) (done + more) (run_count_lem plan moment (q + k) e ∙ omega arith)))
    (λ e. ap (λ (w : Moment). ran plan w k) (refused_run plan moment q e) ∙ refused_run plan moment k e ∙ sym (refused_run plan moment (q + k) e))
  where
    done : ℕ
    done = min q (total (route_of plan) - moment.state.next.0)

    more : ℕ
    more = min k (total (route_of plan) - (moment.state.next.0 + done))

-- a run of one is the next step
pub run_one : (plan : Plan) (moment : Moment) → CallReady plan moment → moment.state.next.0 < total (route_of plan)
    → ran plan moment 1 ≡ stepped plan moment moment.state.next.0
unfolding steps_on moves_from
run_one plan moment r h =
    run_on plan moment 1 1 (run_count_lem plan moment 1 (ready_run plan moment r) ∙ omega arith)
    ∙ ap (λ (s : ℕ). record { state = further_by moment.state 1; buffers = move (route_of plan) s moment.buffers }) (add-zero moment.state.next.0)
    ∙ sym (step_done plan moment moment.state.next.0 (next_number plan moment moment.state.next.0 r h refl))

-- of two runs in a row the second is refused where the first is, and by the same number; and their counts add up
pub again-refused : (plan : Plan) (moment : Moment) (q : ℕ) → run_number plan (ran plan moment q) ≡ run_number plan moment
again-refused plan moment q =
    by_run plan moment (run_number plan (ran plan moment q) ≡ run_number plan moment)
    (λ e. ready_run plan (ran plan moment q) (ran_ready plan moment q (run_ready plan moment e)) ∙ sym e)
    (λ e. ap (run_number plan) (refused_run plan moment q e))

pub again_count : (plan : Plan) (moment : Moment) (q k : ℕ) → run_count plan moment q + run_count plan (ran plan moment q) k ≡ run_count plan moment (q + k)
again_count plan moment q k =
    let on = run_next plan (ran plan moment q) k in
    let same = ap (λ (w : Moment). w.state.next.0) (run_again plan moment q k) in
    omega (arith, run_next plan moment q, on, run_next plan moment (q + k), same)
