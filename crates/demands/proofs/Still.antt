-- Why does our mover do nothing for an order that leaves every record where it is? Its plan can run, and has no step. Assumes nothing.
use mathlib.Core.Path.{◌≡◌, refl, sym, ap, ap₂, ◌∙◌, subst}
use mathlib.Core.Bool.{Bool, true, false}
use mathlib.Core.List.{List, [], ◌++◌}
use mathlib.Core.Logic.{◌↔◌}
use Prim.Native.Nat.{ℕ, ◌*◌, ◌≤◌}
use native.Mathlib.Nat.{mul-zero}
use native.Mathlib.Omega.{arith}
use borrow.Author.Tests.{le-leb, lt-leb, leb-false, leb-true}
use lib.Dec.{leb}
use lib.ListN.{length, drop}
use Rattle.planning.specs.declared.Plan.{Plan}
use Rattle.planning.specs.declared.state.State.{State}
use Rattle.planning.specs.Pass.{Pass, pass_steps, total}
use Rattle.planning.specs.Running.{can_run, sound}
use Rattle.planning.specs.Stored.{route_of}
use Rattle.planning.proofs.Stored.{route_length, route_none}
use Rattle.plan.specs.Answer.{planned_for}
use Rattle.plan.proofs.Main.{made_accepted}
use Rattle.totals.specs.Total.{result_area}
use Rattle.moving.specs.Step.{Buffers}
use Rattle.moving.specs.Call.{Moment, refuses, run_count}
use Rattle.moving.proofs.Calls.{by_run, refused_count, run_count_lem, run_none, run_same}
use Rattle.mover.specs.declared.step.Stepped.{Stepped}
use Rattle.mover.specs.declared.run.Ran.{Ran}
use Rattle.mover.specs.Promise.{RunPromise, StepPromise, number_of, state_of}
use Rattle.mover.proofs.Asked.{total_is}
use Rattle.text.specs.Lines.{decimal, digits_in, line}
use Rattle.listing.specs.Listing.{head_lines, listing, passes_lines, passes_word, result_word, steps_word}
use Rattle.listing.proofs.Passes.{has_room, listing_parts}
use Rattle.demands.specs.Ours.{ours}
use Rattle.demands.specs.Numbers.{fitting}
use Rattle.demands.specs.Still.{AtStart, CostsNothing, PastStart, StillNumber, zero_lines}
use Rattle.demands.proofs.Numbers.{ours_numbers}
use Rattle.demands.proofs.Promised.{run_moment, step_refused}

-- the first lines of a listing, by what they tell
abbrev three_lines : ℕ → ℕ → ℕ → List ℕ
three_lines passes steps area =
    line (passes_word ++ decimal passes) ++ (line (steps_word ++ decimal steps) ++ line (result_word ++ decimal area))

-- ---- a plan that can run and has no pass

module _ (plan : Plan) (can : sound plan ≡ true) (none : plan.count ≡ 0) where
  no_total : total (route_of plan) ≡ 0
  unfolding total
  no_total = ap (λ (k : ℕ). pass_steps (route_of plan) * k) (route_length plan ∙ none) ∙ mul-zero (pass_steps (route_of plan))

  -- it can run from step 0, and from no other
  runs_at : (state : State) → can_run plan state ≡ leb state.next.0 0
  unfolding can_run
  runs_at state = rw (can, no_total)

  module _ (m : Moment) where
    at_start : can_run plan m.state ≡ true → AtStart m
    at_start e = omega (arith, leb-true m.state.next.0 0 (sym (runs_at m.state) ∙ e))

    from_start : AtStart m → can_run plan m.state ≡ true
    from_start e = runs_at m.state ∙ le-leb m.state.next.0 0 (omega (arith, e))

    past_start : (can_run plan m.state ≡ false) ↔ PastStart m
    past_start =
        (λ e. leb-false m.state.next.0 0 (sym (runs_at m.state) ∙ e), λ h. runs_at m.state ∙ lt-leb m.state.next.0 0 h)

    -- a call whose numbers are those of the demands
    numbered : (done number : ℕ) → (number ≡ 7) ↔ (can_run plan m.state ≡ false)
        → (number ≡ 4) ↔ ((can_run plan m.state ≡ true) × (fitting plan m ≡ false))
        → (number ≡ done) ↔ ((can_run plan m.state ≡ true) × (fitting plan m ≡ true))
        → StillNumber plan m done number
    numbered done number seven four rest =
        record {
          gives_7 = (λ e. past_start.0 (seven.0 e), λ h. seven.1 (past_start.1 h));
          gives_4 = (λ e. let h = four.0 e in (at_start h.0, h.1), λ h. four.1 (from_start h.0, h.1));
          gives_done = (λ e. let h = rest.0 e in (at_start h.0, h.1), λ h. rest.1 (from_start h.0, h.1));
        }

    -- one of the three is given
    one_of : {done number : ℕ} → StillNumber plan m done number → (P : ℕ → Type 0) → P 7 → P 4 → P done → P number
    one_of {done} {number} k P seven four rest = go (can_run plan m.state) (fitting plan m) refl refl
      where
        go : (c f : Bool) → can_run plan m.state ≡ c → fitting plan m ≡ f → P number
        go false f p q = subst P (sym (k.gives_7.1 (past_start.0 p))) seven
        go true false p q = subst P (sym (k.gives_4.1 (at_start p, q))) four
        go true true p q = subst P (sym (k.gives_done.1 (at_start p, q))) rest

    step_still : (k : ℕ) (r : Stepped) (w : Buffers) → StepPromise plan m k r w
        → StillNumber plan m 6 (number_of r) × (state_of r ≡ m.state) × (w ≡ m.buffers)
    step_still k r w p =
        let number = ours_numbers.of_step plan m k r w p in
        let past = number.gives_6 in
        let all = total_is plan can ∙ no_total in
        let still = numbered 6 (number_of r) number.gives_7 number.gives_4 (λ e. (past.0 e).0, λ h. past.1 (h, omega (arith, all))) in
        let left = step_refused plan m k r w p (one_of still (λ j. refuses j ≡ true) refl refl refl) in
        (still, ap (λ (n : Moment). n.state) left, ap (λ (n : Moment). n.buffers) left)

    no_count : (q : ℕ) → run_count plan m q ≡ 0
    no_count q = by_run plan m (run_count plan m q ≡ 0) (λ e. omega (arith, run_count_lem plan m q e, no_total)) (refused_count plan m q)

    run_still : (q : ℕ) (r : Ran) (w : Buffers) → RunPromise plan m q r w
        → StillNumber plan m 0 r.number × (r.count ≡ 0) × (r.state ≡ m.state) × (w ≡ m.buffers)
    run_still q r w p =
        let number = ours_numbers.of_run plan m q r w p in
        let left = run_moment plan m q r w p ∙ run_same plan m q 0 (no_count q ∙ sym (no_count 0)) ∙ run_none plan m in (
          numbered 0 r.number number.gives_7 number.gives_4 number.gives_0,
          p.count ∙ no_count q,
          ap (λ (n : Moment). n.state) left,
          ap (λ (n : Moment). n.buffers) left,
        )

  area_0 : result_area plan ≡ 0
  unfolding result_area
  area_0 = omega (arith, none)

  -- the three lines, and nothing after them
  zero_listed : listing plan ≡ zero_lines
  unfolding head_lines passes_lines decimal digits_in
  zero_listed =
      listing_parts plan can
      ∙ ap₂ (λ (a : ℕ) (ps : List Pass). three_lines a (total (route_of plan)) (result_area plan) ++ passes_lines plan.geometry.n 0 ps) none (route_none plan none)
      ∙ ap₂ (λ (b c : ℕ). three_lines 0 b c ++ []) no_total area_0

-- ---- the plan that is made

module _ (plan : Plan) where
  -- a room that is long enough holds these lines, and then what it held
  abbrev Listed : List ℕ → Type 0
  Listed lines =
      (room : List ℕ) → length lines ≤ length room
      → (ours.lists plan room ≡ length lines) × (ours.leaves plan room ≡ lines ++ drop (length lines) room)

pub ours_still : CostsNothing ours
ours_still order room taken still blanks =
    let k = made_accepted order room taken blanks in
    let made = (planned_for order blanks).plan in
    let none = k.no_pass still in
    let can = k.sound_plan in
    record {
      on_its_bank = k.on_its_bank;
      no_pass = none;
      no_step = total_is made can ∙ no_total made can none;
      in_area_0 = area_0 made can none;
      steps = step_still made can none;
      runs = run_still made can none;
      listed = subst (Listed made) (zero_listed made can none) (has_room made);
    }
