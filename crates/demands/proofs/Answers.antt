-- Has each of our calls one outcome, and what does a refusal hand back and leave? Our mover has demand 1. Assumes nothing.
use mathlib.Core.Path.{◌≡◌, refl, sym, ap, ◌∙◌}
use mathlib.Core.Bool.{Bool}
use mathlib.Core.List.{List, []}
use Prim.Native.Nat.{ℕ, zero, suc, ◌+◌, ◌-◌, ◌<◌, min}
use native.Mathlib.Omega.{arith}
use lib.ListN.{length}
use Rattle.algebra.specs.Matrix.{source}
use Rattle.order.specs.declared.Order.{Order}
use Rattle.addresses.specs.declared.Target.{Target}
use Rattle.addresses.specs.Address.{Source}
use Rattle.addresses.specs.Address.{Source as answer}
use Rattle.order.specs.Order.{matrix_of, with_z, z_with}
use Rattle.addresses.specs.Address.{Found, found_for, meaning_of, question_number, target_of}
use Rattle.addresses.proofs.Asked.{source_given, source-refused, target-refused}
use Rattle.addresses.proofs.Main.{one_answer}
use Rattle.planning.specs.declared.state.State.{State}
use Rattle.planning.specs.Stored.{empty_plan}
use Rattle.planning.proofs.Running.{empty_stuck}
use Rattle.plan.specs.declared.make.Planned.{Planned}
use Rattle.plan.specs.Answer.{planned_for}
use Rattle.plan.proofs.Answered.{planned-refused}
use Rattle.plan.proofs.Main.{made_accepted}
use Rattle.moving.specs.Call.{Moment, ran, stepped}
use Rattle.moving.proofs.Calls.{nine_state, run_count_lem, run_next, run_ready, step_done}
use Rattle.mover.proofs.Asked.{total_is}
use Rattle.listing.specs.Listing.{head_lines, listing}
use Rattle.listing.proofs.Passes.{has_room, listing_parts, no_room}
use Rattle.reading.specs.Reading.{Reads, no_order}
use Rattle.reading.specs.Reading.Reads.{no_first_line, outside, no_rest, singular, taken}
use Rattle.reading.proofs.First.{read_first}
use Rattle.reading.proofs.Main.{one_reading, read_taken, some_reading}
use Rattle.demands.specs.Ours.{ours}
use Rattle.demands.specs.Answers.{Answers}
use Rattle.demands.specs.Numbers.{Refusal}
use Rattle.demands.proofs.Numbers.{ours_numbers}
use Rattle.demands.proofs.Shows.{ours_explains}
use Rattle.demands.proofs.Promised.{run_promised, run_refused, run_answer, step_number_lem, step_promised, step_refused, step_state, step_answer}

-- asked backwards: an answer for each number
some_source : (order : Order) (y : ℕ) → (a : Source) × (meaning_of a ≡ found_for order y)
some_source order y = by (question_number order y) refl
  where
    by : (k : ℕ) → question_number order y ≡ k → (a : Source) × (meaning_of a ≡ found_for order y)
    by zero e = (answer.From (record { 0 = source order.geometry.n (matrix_of order) order.complement y }), source_given order y _ e refl)
    by (suc k) e =
        let z = z_with (question_number order y) order in
        (answer.Refused (suc k) (record { 0 = z }), source-refused order y (suc k) z (sym e) refl (λ z. omega arith))

no_source : (order : Order) (y : ℕ) (a : Source) → meaning_of a ≡ found_for order y → Refusal (meaning_of a).number → (meaning_of a).sources ≡ []
unfolding found_for meaning_of
no_source order y a p f =
    let q = source-refused order y (question_number order y) _ refl refl (λ e. f (ap (λ (r : Found). r.number) p ∙ e)) in
    ap (λ (r : Found). r.sources) (p ∙ sym q)

-- a text that is refused gives no order
refused_empty : {text : List ℕ} {k : ℕ} {order : Order} {z : ℕ} → Reads text k order z → Refusal k → order ≡ no_order
refused_empty (no_first_line h) f = refl
refused_empty (outside g b e) f = refl
refused_empty (no_rest g b e h) f = refl
refused_empty (singular g order b e w j) f = refl
refused_empty (taken g order b e w j) f = absurd (f refl)

-- the plan of an order that is taken can run, and has the first lines of a listing
something_listed : (text : List ℕ) (order : Order) (z : ℕ) (blanks : Bool) → Reads text 0 order z → 0 < length (listing (planned_for order blanks).plan)
unfolding head_lines
something_listed text order z blanks r =
    let t = read_taken r refl in
    rw (listing_parts (planned_for order blanks).plan (made_accepted order t.room t.judged blanks).sound_plan) (omega arith)

pub ours_answers : Answers ours
unfolding target_of planned_for
ours_answers =
    record {
      numbered = ours_numbers;
      explained = ours_explains;
      target-refused = λ order x f. sym (ap (λ (t : Target). t.address.0) (target-refused order x (with_z (question_number order x) order) refl f));
      source-refused = no_source;
      source_some = some_source;
      source_one = λ order y a b p q. one_answer a b (p ∙ sym q);
      plan_number = λ order blanks. refl;
      plan_refused = λ order blanks f. ap (λ (a : Planned). a.plan) (planned-refused order blanks f);
      empty_step = λ m k r w p. (ours_numbers.of_step empty_plan m k r w p).gives_7.1 (empty_stuck m.state);
      empty_run = λ m q r w p. (ours_numbers.of_run empty_plan m q r w p).gives_7.1 (empty_stuck m.state);
      step_done = λ plan m k r w p e.
          let done = step_done plan m k (sym (step_number_lem plan m k r w p) ∙ e) in
          ap (λ (s : State). s.next.0) (step_state plan m k r w p ∙ ap (λ (n : Moment). n.state) done);
      step_again = λ plan m k r w p e. step_state plan m k r w p ∙ nine_state plan m k (sym (step_number_lem plan m k r w p) ∙ e);
      step_refused = λ plan m k r w p f.
          let e = step_refused plan m k r w p f in (ap (λ (n : Moment). n.state) e, ap (λ (n : Moment). n.buffers) e);
      step_some = λ plan m k. (step_answer plan m k, (stepped plan m k).buffers, step_promised plan m k);
      step_one = λ plan m k r r' w w' p q. (p.answered ∙ sym q.answered, p.bytes ∙ sym q.bytes);
      run_done = λ plan m q r w p e.
          let done = sym p.number ∙ e in (
            p.count ∙ run_count_lem plan m q done
                ∙ ap (λ (all : ℕ). min q (all - m.state.next.0)) (sym (total_is plan (run_ready plan m done).sound_plan)),
            ap (λ (s : State). s.next.0) p.state' ∙ run_next plan m q ∙ ap (λ (i : ℕ). m.state.next.0 + i) (sym p.count),
          );
      run_refused = λ plan m q r w p f.
          let e = run_refused plan m q r w p f in (e.0, ap (λ (n : Moment). n.state) e.1, ap (λ (n : Moment). n.buffers) e.1);
      run_some = λ plan m q. (run_answer plan m q, (ran plan m q).buffers, run_promised plan m q);
      run_one = λ plan m q r r' w w' p k. (
        λ i. record { number = (p.number ∙ sym k.number) i; count = (p.count ∙ sym k.count) i; state = (p.state' ∙ sym k.state') i },
        p.bytes ∙ sym k.bytes,
      );
      read_refused = λ text k order z r f. refused_empty r f;
      read_some = some_reading;
      read_one = one_reading;
      read_first = read_first;
      listing_whole = has_room;
      listing_none = λ plan room h. let e = no_room plan room h in (sym e.0, sym e.1);
      listing_some = something_listed;
    }
