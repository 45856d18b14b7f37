-- Which number do our calls give, and exactly when? A table says when each number is due; what is given is due, and what is due is given.
-- Assumes nothing.
use mathlib.Core.Path.{◌≡◌, refl, sym, ap, ◌∙◌, subst}
use mathlib.Core.Bool.{cond}
use mathlib.Core.List.{List}
use mathlib.Core.Logic.{◌↔◌, inl, inr}
use Prim.Native.Nat.{ℕ, ◌+◌, ◌≤◌}
use lib.Dec.{eqb}
use Rattle.bank.specs.declared.Geometry.{Geometry}
use Rattle.order.specs.declared.Order.{Order}
use Rattle.order.specs.Order.{judgement}
use Rattle.planning.specs.declared.Plan.{Plan}
use Rattle.planning.specs.Pass.{total}
use Rattle.planning.specs.Stored.{route_of}
use Rattle.planning.proofs.Running.{can_run→sound}
use Rattle.mover.proofs.Asked.{total_is}
use Rattle.moving.specs.Call.{Moment, run_number, step_number, turn_number}
use Rattle.moving.proofs.Calls.{Stuck, Unfit, again_turn, apart_turn, by_checks, by_turn, next_turn, past_turn, ready_number_lem, stuck_number, unfit_number}
use Rattle.mover.specs.declared.step.Stepped.{Stepped}
use Rattle.mover.specs.declared.run.Ran.{Ran}
use Rattle.mover.specs.Promise.{number_of}
use Rattle.reading.specs.Reading.{Reads, Whole}
use Rattle.reading.specs.Reading.Reads.{no_first_line, outside, no_rest, singular, taken}
use Rattle.reading.proofs.Main.{one_reading, read_taken, read_written}
use Rattle.demands.specs.Ours.{ours}
use Rattle.demands.specs.Numbers.{Asked, Inside, Numbers, Outside, Ready, RunNumbers, StepNumbers, TextNumbers, Unreadable}
use Rattle.demands.proofs.Promised.{step_number_lem}

-- where the number given is due, and j is due only with it, j is given exactly when it is due
pub exactly : (due : ℕ → Type 0) {number said : ℕ} → number ≡ said → due said → (j : ℕ) → (due j → said ≡ j) → (number ≡ j) ↔ due j
exactly due is given j only = (λ e. subst due (sym is ∙ e) given, λ d. is ∙ only d)

-- ---- a run

module _ (plan : Plan) (m : Moment) where
  abbrev run_due : ℕ → Type 0
  run_due j = cond (eqb j 7) (Stuck plan m) (cond (eqb j 4) (Unfit plan m) (cond (eqb j 0) (Ready plan m) ⊥))

  run_due_lem : run_due (run_number plan m)
  unfolding run_number
  run_due_lem = by_checks plan m 0 run_due (λ e. e) (λ e. e) (λ c f. (c, f))

  run_numbers : (r : Ran) → r.number ≡ run_number plan m → RunNumbers plan m r
  unfolding run_number
  run_numbers r is =
      let gives = exactly run_due is run_due_lem in
      record {
        gives_7 = gives 7 (stuck_number plan m 0);
        gives_4 = gives 4 (unfit_number plan m 0);
        gives_0 = gives 0 (λ d. ready_number_lem plan m 0 d.0 d.1);
      }

-- ---- a step

module _ (plan : Plan) (m : Moment) (k : ℕ) where
  abbrev next : ℕ
  next = m.state.next.0

  abbrev step_due : ℕ → Type 0
  step_due j =
      cond (eqb j 7) (Stuck plan m)
      (cond (eqb j 4) (Unfit plan m)
      (cond (eqb j 6) (Ready plan m × (ours.total plan ≤ k))
      (cond (eqb j 0) (Asked ours plan m k × (k ≡ next))
      (cond (eqb j 9) (Asked ours plan m k × (k + 1 ≡ next))
      (cond (eqb j 5) (Asked ours plan m k × (k ≡ next → ⊥) × (k + 1 ≡ next → ⊥)) ⊥)))))

  once_is : Ready plan m → turn_number (ours.total plan) next k ≡ turn_number (total (route_of plan)) next k
  once_is r = ap (λ (all : ℕ). turn_number all next k) (total_is plan (can_run→sound plan m.state r.0))

  ready_step : Ready plan m → step_number plan m k ≡ turn_number (ours.total plan) next k
  unfolding step_number
  ready_step r = ready_number_lem plan m (turn_number (total (route_of plan)) next k) r.0 r.1 ∙ sym (once_is r)

  step_due_lem : step_due (step_number plan m k)
  unfolding step_number
  step_due_lem = by_checks plan m (turn_number (total (route_of plan)) next k) step_due (λ e. e) (λ e. e) (λ c f. turn_due (c, f))
    where
      turn_due : Ready plan m → step_due (turn_number (total (route_of plan)) next k)
      turn_due r =
          subst step_due (once_is r)
          (by_turn (ours.total plan) next k step_due (λ h. (r, h)) (λ h e. ((r, h), e)) (λ h e. ((r, h), e)) (λ a. ((r, a.0), a.1, a.2)))

  step_numbers : (r : Stepped) → number_of r ≡ step_number plan m k → StepNumbers ours plan m k r
  unfolding step_number
  step_numbers r is =
      let gives = exactly step_due is step_due_lem in
      let turn = turn_number (total (route_of plan)) next k in
      let all = ours.total plan in
      record {
        gives_7 = gives 7 (stuck_number plan m turn);
        gives_4 = gives 4 (unfit_number plan m turn);
        gives_6 = gives 6 (λ d. ready_step d.0 ∙ past_turn all next k d.1);
        gives_0 = gives 0 (λ d. ready_step d.0.0 ∙ next_turn all next k d.0.1 d.1);
        gives_9 = gives 9 (λ d. ready_step d.0.0 ∙ again_turn all next k d.0.1 d.1);
        gives_5 = gives 5 (λ d. ready_step d.0.0 ∙ apart_turn all next k (d.0.1, d.1, d.2));
      }

-- ---- a text

module _ (text : List ℕ) where
  -- it is an order's, judged so
  abbrev Judged : ℕ → Type 0
  Judged j = (g : Geometry) × (order : Order) × Inside text g × Whole text g order × (judgement order ≡ j)

  abbrev text_due : ℕ → Type 0
  text_due j =
      cond (eqb j 8) (Unreadable text)
      (cond (eqb j 1) ((g : Geometry) × Outside text g)
      (cond (eqb j 3) (Judged 3)
      (cond (eqb j 0) (Judged 0) ⊥)))

  text_due_lem : {k : ℕ} {order : Order} {z : ℕ} → Reads text k order z → text_due k
  text_due_lem (no_first_line f) = inl f
  text_due_lem (outside g b i) = (g, (b, i))
  text_due_lem (no_rest g b i n) = inr (g, (b, i), n)
  text_due_lem (singular g order b i w j) = (g, order, (b, i), w, j)
  text_due_lem (taken g order b i w j) = (g, order, (b, i), w, j)

  module _ (k : ℕ) (order : Order) (z : ℕ) (r : Reads text k order z) where
    is_read : {j : ℕ} {other : Order} {y : ℕ} → Reads text j other y → k ≡ j
    is_read {j} {other} {y} s = (one_reading text k j order other z y r s).0

    unread : Unreadable text → k ≡ 8
    unread (inl f) = is_read (no_first_line f)
    unread (inr d) = is_read (no_rest d.0 d.1.0 d.1.1 d.2)

    text_numbers : TextNumbers ours text k
    text_numbers =
        let gives = exactly text_due refl (text_due_lem r) in
        record {
          gives_8 = gives 8 unread;
          gives_1 = gives 1 (λ d. is_read (outside d.0 d.1.0 d.1.1));
          gives_3 = gives 3 (λ d. is_read (singular d.0 d.1 d.2.0 d.2.1 d.3 d.4));
          gives_0 = gives 0 (λ d. is_read (taken d.0 d.1 d.2.0 d.2.1 d.3 d.4));
        }

pub ours_numbers : Numbers ours
ours_numbers =
    record {
      of_step = λ plan m k r w p. step_numbers plan m k r (step_number_lem plan m k r w p);
      of_run = λ plan m q r w p. run_numbers plan m r p.number;
      of_text = text_numbers;
      reads_own = λ order room e. read_written order e room;
      only_own = λ text order z r. (read_taken r refl).is;
    }
