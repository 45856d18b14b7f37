-- Why is it true, what the page of facts says of the plan? Assumes nothing.
use mathlib.Core.Path.{◌∙◌, ◌≡◌, ap, sym}
use mathlib.Core.Bool.{false}
use mathlib.Core.List.{List}
use Prim.Native.Nat.{◌%◌, ◌*◌, ◌/◌, ◌<◌, ◌^◌, ◌≤◌, ℕ}
use native.Mathlib.Nat.{mul-mod_left}
use native.Mathlib.Omega.{arith}
use lib.Bits.{bit_xor, xor_self, xor_shr}
use lib.ListN.{get_or, length}
use Rattle.bank.proofs.Limits.{limits→allowed}
use Rattle.bank.specs.declared.Geometry.{Geometry}
use Rattle.algebra.proofs.Columns.{columns-lt}
use Rattle.algebra.proofs.Digits.{parts_xor, shr_below, xor-eq}
use Rattle.algebra.proofs.Linear.{apply_columns, comb-lt, comb_one}
use Rattle.algebra.proofs.Rank.{rank-le}
use Rattle.algebra.proofs.Singular.{regular_zero}
use Rattle.algebra.specs.Matrix.{columns, marked, rank, singular}
use Rattle.algebra.specs.Vector.{comb}
use Rattle.planning.proofs.Made.{made_route}
use Rattle.planning.proofs.Marks.{only_elim, only_intro}
use Rattle.planning.proofs.Parts.{delta-comb, phi_at}
use Rattle.planning.proofs.Round.{e_small, eraser_one, eraser-right, next_nonzero, next_ready, after-swaps_ready}
use Rattle.planning.proofs.Rounds.{rounds_end}
use Rattle.planning.proofs.Run.{moved_nonzero, moved_ready, plan_none}
use Rattle.planning.proofs.Running.{empty_stuck, runs_back, runs→sound, sound→runs}
use Rattle.planning.proofs.Still.{other_passes, still_passes}
use Rattle.planning.proofs.Step1.{delta_regular, pairing_total}
use Rattle.planning.proofs.Step2.{moved_zero, summands_one, summands-right, operations-inverse}
use Rattle.planning.specs.Columns.{phi, zero_column}
use Rattle.planning.specs.Facts.{Erasing, Facts, MarkedSum, OnlyOne, PlanFacts, RoundFacts, StepFacts, Taken, after_step2, nonzero}
use Rattle.planning.specs.Making.{eraser, summands, after_swaps}
use Rattle.planning.specs.Pass.{complemented}
use Rattle.planning.specs.Inner.{RoundReady}

-- ---- 1 and 2
sum-right : (m : ℕ) (cols : List ℕ) (j : ℕ) → j < m → marked (phi m cols) j ≡ false → OnlyOne (2 ^ m) (MarkedSum m cols j) (summands m cols j)
sum-right m cols j h e =
    let r = summands-right m cols j h e in
    record {
      below = r.0;
      holds = (only_intro (phi m cols) m (summands m cols j) r.1, r.2);
      only = λ s l q. summands_one m cols j s h e l (only_elim (phi m cols) m s q.0) q.1;
    }

steps_right : (n b m : ℕ) → b < m → m ≤ n → (rows : List ℕ) → length rows ≡ n → singular n rows ≡ false → StepFacts n b m (columns n rows)
steps_right n b m hb hm rows hr hs =
    record {
      all_paired = pairing_total n m hm a small regular;
      δ-nonsingular = delta_regular n m hm a small regular;
      one_sum = sum-right m _;
      P_own_inverse = operations-inverse n m hm a;
      φ-reduced = moved_zero n m hm a;
      φ-rank = as_rank;
      AP_ready = ready;
      F_dry = rounds_end n b m hb hm m (after_step2 n m a) ready (omega (arith, as_rank, rank-le (phi m a) m));
    }
  where
    a : List ℕ
    a = columns n rows

    small : (y : ℕ) → comb (columns n rows) y < 2 ^ n
    small y = comb-lt n (columns n rows) y (λ j l. columns-lt n rows j (omega (arith, hr)))

    regular : (z : ℕ) → z < 2 ^ n → comb (columns n rows) z ≡ 0 → z ≡ 0
    regular z h e = regular_zero n rows z hs h (sym (apply_columns n rows z h) ∙ e)

    as_rank : nonzero m (after_step2 n m (columns n rows)) ≡ rank (phi m (columns n rows)) m
    as_rank = moved_nonzero n b m hb hm rows hr hs

    ready : RoundReady n m (after_step2 n m (columns n rows))
    ready = moved_ready n b m hb hm rows hr hs

-- ---- 3
module _ (n b m : ℕ) (hm : m ≤ n) (cols : List ℕ) (k : RoundReady n m cols) (j : ℕ) (hb : b ≤ j) (h : j < m) (e : zero_column (phi m cols) j ≡ false) where
  -- what a set leaves of column j, in the lower part
  left : (z : ℕ) → bit_xor (get_or cols j 0) (comb cols z) / 2 ^ m ≡ bit_xor (get_or (phi m cols) j 0) (comb cols z / 2 ^ m)
  left z =
      xor_shr (get_or cols j 0) (comb cols z) m
      ∙ ap (λ (x : ℕ). bit_xor x (comb cols z / 2 ^ m)) (sym (phi_at m cols j h ∙ ap (λ (x : ℕ). x / 2 ^ m) (comb_one cols j)))

  set-right : OnlyOne (2 ^ n) (Erasing m cols j) (eraser n b m cols j)
  set-right =
      let r = eraser-right n b m hm cols k.small k.trailing j hb h e in
      let v = get_or (phi m cols) j 0 in
      record {
        below = e_small n b m hm cols j;
        holds = (
          ap (λ (x : ℕ). x % 2 ^ m) r.2 ∙ mul-mod_left r.0 (2 ^ m),
          left (eraser n b m cols j) ∙ ap (bit_xor v) (ap (λ (x : ℕ). comb cols x / 2 ^ m) r.2 ∙ sym (delta-comb m cols r.0) ∙ r.3) ∙ xor_self v,
        );
        only = λ z l q.
            let whole : z ≡ z / 2 ^ m * 2 ^ m = sym (parts_xor m z) ∙ ap (λ (x : ℕ). bit_xor x (z / 2 ^ m * 2 ^ m)) q.0 in
            whole ∙ sym (eraser_one n b m hm cols k.small k.trailing j (z / 2 ^ m) hb h e (shr_below n m z hm l)
            (delta-comb m cols (z / 2 ^ m) ∙ ap (λ (x : ℕ). comb cols x / 2 ^ m) (sym whole) ∙ sym (xor-eq v (comb cols z / 2 ^ m) (sym (left z) ∙ q.1))));
      }

round_right : (n b m : ℕ) → b ≤ m → m ≤ n → (cols : List ℕ) → RoundReady n m cols → RoundFacts n b m cols
round_right n b m hb hm cols k =
    let ready = after-swaps_ready n b m hb hm cols k in
    record {
      S_keeps = ready;
      one_set = set-right n b m hm (after_swaps n b m cols) ready;
      E_keeps = next_ready n b m hb hm cols k;
      round_clears = next_nonzero n b m hb hm cols k;
    }

-- ---- 4
plan_right : (g : Geometry) (rows : List ℕ) (c : ℕ) → Taken g rows c → PlanFacts g rows c
plan_right g rows c k =
    let a = limits→allowed g k.inside in
    let hm : g.m ≤ g.n = omega (arith, a.memory_below) in
    record {
      steps = steps_right g.n g.b g.m a.block_below hm rows k.rows_all k.regular;
      no_pass = still_passes g rows c k.rows_all;
      no_rounds = λ f e. other_passes g rows c k.rows_all f ∙ unfold complemented in
          ap (λ (l : List (List ℕ)). complemented l c) (plan_none g.n g.b g.m a.block_below hm rows k.rows_all k.regular k.rows_below e);
      holds = made_route g rows c k.inside k.rows_all k.regular k.complement_below;
    }

pub facts_right : Facts
facts_right =
    record { plan = plan_right; round = round_right; sound_runs = sound→runs; runs_sound = runs→sound; comes_back = runs_back; empty_stuck = empty_stuck }
