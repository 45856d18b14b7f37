-- Which plans are sound? Those whose route can run and whose other places are zero. Assumes nothing.
use mathlib.Core.Path.{◌∙◌, ◌≡◌, ap, refl}
use mathlib.Core.Bool.{Bool, ◌&&◌, ◌||◌, false, not, true}
use mathlib.Core.Logic.{◌⊎◌, inl, inr, ⊎_elim}
use mathlib.Core.List.{List, []}
use Prim.Native.Nat.{◌%◌, ◌*◌, ◌+◌, ◌/◌, ◌<◌, ◌≤◌, ℕ}
use native.Mathlib.Omega.{arith}
use lib.Dec.{eqb, leb}
use lib.ListN.{get_or-eq_default, get_or, length}
use borrow.Author.Tests.{eq-eqb, le-leb, leb-false, leb-true, lt-leb, not-true}
use Rattle.bank.proofs.Limits.{Allowed, limits→allowed}
use Rattle.bank.specs.Geometry.{in_limits, records}
use Rattle.bank.specs.Limits.{PASSES, ROWS}
use Rattle.bank.specs.declared.Geometry.{Geometry}
use Rattle.algebra.proofs.Search.{and_both, and_l, and_r, le_or_lt, none_elim, none_intro}
use Rattle.algebra.specs.Matrix.{singular, spills}
use Rattle.algebra.specs.Search.{any_below}
use Rattle.planning.proofs.Stored.{route_at, route_back, route_length, stored_complement, stored_place, stored_row, taken_at, taken_length}
use Rattle.planning.specs.Pass.{Pass, Route, pass_at, pass_in, total}
use Rattle.planning.specs.Running.{can_run, count_in_limits, meant_zero, singular_pass, sound}
use Rattle.planning.specs.Running.{spare_complement, spare_row, spilling_pass, stray_complement, stray_row}
use Rattle.planning.specs.Stored.{empty_plan, plan_of, route_of, stored_complements, stored_pass, stored_rows}
use Rattle.planning.specs.declared.Plan.{Plan}
use Rattle.planning.specs.declared.state.State.{State}
use Rattle.planning.specs.Inner.{Runs}

-- the conditions of number 7, one by one
pub record Checked (plan : Plan) : Type 0 where
  pub limits : in_limits plan.geometry ≡ true
  pub count : count_in_limits plan ≡ true
  pub rows_below : stray_row plan ≡ false
  pub complements_below : stray_complement plan ≡ false
  pub rows_zero : spare_row plan ≡ false
  pub complements_zero : spare_complement plan ≡ false
  pub regular : singular_pass plan ≡ false
  pub dry : spilling_pass plan ≡ false

pub sound→checked : (plan : Plan) → sound plan ≡ true → Checked plan
unfolding sound
sound→checked plan e =
    let c1 = in_limits plan.geometry && count_in_limits plan in
    let c2 = c1 && not (stray_row plan) in
    let c3 = c2 && not (stray_complement plan) in
    let c4 = c3 && not (spare_row plan) in
    let c5 = c4 && not (spare_complement plan) in
    let c6 = c5 && not (singular_pass plan) in
    let e6 = and_l c6 (not (spilling_pass plan)) e in
    let e5 = and_l c5 (not (singular_pass plan)) e6 in
    let e4 = and_l c4 (not (spare_complement plan)) e5 in
    let e3 = and_l c3 (not (spare_row plan)) e4 in
    let e2 = and_l c2 (not (stray_complement plan)) e3 in
    let e1 = and_l c1 (not (stray_row plan)) e2 in
    record {
      limits = and_l (in_limits plan.geometry) (count_in_limits plan) e1;
      count = and_r (in_limits plan.geometry) (count_in_limits plan) e1;
      rows_below = not-true (stray_row plan) (and_r c1 (not (stray_row plan)) e2);
      complements_below = not-true (stray_complement plan) (and_r c2 (not (stray_complement plan)) e3);
      rows_zero = not-true (spare_row plan) (and_r c3 (not (spare_row plan)) e4);
      complements_zero = not-true (spare_complement plan) (and_r c4 (not (spare_complement plan)) e5);
      regular = not-true (singular_pass plan) (and_r c5 (not (singular_pass plan)) e6);
      dry = not-true (spilling_pass plan) (and_r c6 (not (spilling_pass plan)) e);
    }

checked→sound : (plan : Plan) → Checked plan → sound plan ≡ true
unfolding sound
checked→sound plan k =
    rw (k.limits, k.count, k.rows_below, k.complements_below, k.rows_zero, k.complements_zero, k.regular, k.dry)

-- ---- a route that can run, stored, is a sound plan
or_cases : (a b : Bool) → a || b ≡ true → (a ≡ true) ⊎ (b ≡ true)
or_cases true b e = inl refl
or_cases false b e = inr e

and_never : (a b : Bool) → (a ≡ true → b ≡ false) → a && b ≡ false
and_never true b f = f refl
and_never false b f = refl

module _ (route : Route) (k : Runs route) where
  abbrev g : Geometry
  g = route.geometry

  pub runs_allowed : Allowed g
  runs_allowed = limits→allowed g k.inside

  abbrev ps : List Pass
  ps = route.passes

  pub runs_back : route_of (plan_of route) ≡ route
  runs_back = route_back route k.few_passes runs_allowed.n_high (λ p h. (k.each_runs p h).rows_all)

  -- past the passes, and past the rows of a pass, the rows are zero
  zero_past : (p i : ℕ) → length ps ≤ p → get_or (pass_in ps p).rows i 0 ≡ 0
  zero_past p i h = ap (λ (q : Pass). get_or q.rows i 0) (get_or-eq_default ps (record { rows = []; complement = 0 }) h)

  zero_above : (p i : ℕ) → g.n ≤ i → get_or (pass_in ps p).rows i 0 ≡ 0
  zero_above p i h =
      ⊎_elim (λ (l : length ps ≤ p). zero_past p i l)
      (λ (l : p < length ps). get_or-eq_default (pass_in ps p).rows 0 (omega (arith, (k.each_runs p l).rows_all))) (le_or_lt (length ps) p)

  counted : leb (length ps) PASSES ≡ true
  counted = le-leb (length ps) PASSES k.few_passes

  no_stray_row : (p i : ℕ) → p < length ps → i < g.n → leb (records g) (get_or (stored_rows PASSES ROWS ps) (p * ROWS + i) 0) ≡ false
  no_stray_row p i hp hi =
      lt-leb (records g) (get_or (stored_rows PASSES ROWS ps) (p * ROWS + i) 0)
      (rw (stored_row PASSES ROWS ps p i (omega (arith, k.few_passes)) (omega (arith, runs_allowed.n_high))) ((k.each_runs p hp).rows_below i hi))

  no_stray_complement : (p : ℕ) → p < length ps → leb (records g) (get_or (stored_complements PASSES ps) p 0) ≡ false
  no_stray_complement p hp =
      lt-leb (records g) (get_or (stored_complements PASSES ps) p 0)
      (rw (stored_complement PASSES ROWS ps p (omega (arith, k.few_passes))) (k.each_runs p hp).complement_below)

  no_spare_row : (q : ℕ) → q < PASSES * ROWS → leb (length ps) (q / ROWS) || leb g.n (q % ROWS) ≡ true
      → not (eqb (get_or (stored_rows PASSES ROWS ps) q 0) 0) ≡ false
  no_spare_row q h e =
      ap not (eq-eqb (get_or (stored_rows PASSES ROWS ps) q 0) 0 (stored_place PASSES ROWS ps q h
      ∙ ⊎_elim (λ (l : leb (length ps) (q / ROWS) ≡ true). zero_past (q / ROWS) (q % ROWS) (leb-true (length ps) (q / ROWS) l))
      (λ (l : leb g.n (q % ROWS) ≡ true). zero_above (q / ROWS) (q % ROWS) (leb-true g.n (q % ROWS) l))
      (or_cases (leb (length ps) (q / ROWS)) (leb g.n (q % ROWS)) e)))

  no_spare_complement : (p : ℕ) → p < PASSES → leb (length ps) p ≡ true → not (eqb (get_or (stored_complements PASSES ps) p 0) 0) ≡ false
  no_spare_complement p h e =
      ap not (eq-eqb (get_or (stored_complements PASSES ps) p 0) 0 (stored_complement PASSES ROWS ps p h
      ∙ ap (λ (q : Pass). q.complement) (get_or-eq_default ps (record { rows = []; complement = 0 }) (leb-true (length ps) p e))))

  pub runs→sound : sound (plan_of route) ≡ true
  runs→sound = checked→sound (plan_of route) (record {
    limits = unfold plan_of in k.inside;
    count = unfold plan_of count_in_limits in counted;
    rows_below = unfold plan_of stray_row in
        none_intro (λ p. any_below (λ i. leb (records g) (get_or (stored_rows PASSES ROWS ps) (p * ROWS + i) 0)) g.n) (length ps)
        (λ p hp. none_intro (λ i. leb (records g) (get_or (stored_rows PASSES ROWS ps) (p * ROWS + i) 0)) g.n (λ i hi. no_stray_row p i hp hi));
    complements_below = unfold plan_of stray_complement in
        none_intro (λ p. leb (records g) (get_or (stored_complements PASSES ps) p 0)) (length ps) (λ p hp. no_stray_complement p hp);
    rows_zero = unfold plan_of spare_row meant_zero in
        none_intro (λ q. (leb (length ps) (q / ROWS) || leb g.n (q % ROWS)) && not (eqb (get_or (stored_rows PASSES ROWS ps) q 0) 0)) (PASSES * ROWS)
        (λ q h. and_never (leb (length ps) (q / ROWS) || leb g.n (q % ROWS)) (not (eqb (get_or (stored_rows PASSES ROWS ps) q 0) 0)) (no_spare_row q h));
    complements_zero = unfold plan_of spare_complement in
        none_intro (λ p. leb (length ps) p && not (eqb (get_or (stored_complements PASSES ps) p 0) 0)) PASSES
        (λ p h. and_never (leb (length ps) p) (not (eqb (get_or (stored_complements PASSES ps) p 0) 0)) (no_spare_complement p h));
    regular = unfold plan_of singular_pass in
        none_intro (λ p. singular g.n (pass_at (route_of (plan_of route)) p).rows) (length ps)
        (λ p h. ap (λ (r : Route). singular g.n (pass_at r p).rows) runs_back ∙ (k.each_runs p h).regular);
    dry = unfold plan_of spilling_pass in
        none_intro (λ p. spills g.b g.m (pass_at (route_of (plan_of route)) p).rows) (length ps)
        (λ p h. ap (λ (r : Route). spills g.b g.m (pass_at r p).rows) runs_back ∙ (k.each_runs p h).dry);
  })

-- ---- what a sound plan gives
module _ (plan : Plan) (e : sound plan ≡ true) where
  checked : Checked plan
  checked = sound→checked plan e

  pub sound_allowed : Allowed plan.geometry
  sound_allowed = limits→allowed plan.geometry checked.limits

  pub sound_few : plan.count ≤ PASSES
  unfolding count_in_limits
  sound_few = leb-true plan.count PASSES checked.count

  sound_row : (p i : ℕ) → p < plan.count → i < plan.geometry.n → get_or plan.rows (p * ROWS + i) 0 < records plan.geometry
  unfolding stray_row
  sound_row p i hp hi =
      let stray : ℕ → ℕ → Bool = λ p i. leb (records plan.geometry) (get_or plan.rows (p * ROWS + i) 0) in
      leb-false (records plan.geometry) (get_or plan.rows (p * ROWS + i) 0) (none_elim (stray p) plan.geometry.n i
      (none_elim (λ p. any_below (stray p) plan.geometry.n) plan.count p checked.rows_below hp) hi)

  sound_complement : (p : ℕ) → p < plan.count → get_or plan.complements p 0 < records plan.geometry
  unfolding stray_complement
  sound_complement p hp =
      leb-false (records plan.geometry) (get_or plan.complements p 0)
      (none_elim (λ p. leb (records plan.geometry) (get_or plan.complements p 0)) plan.count p checked.complements_below hp)

  sound_regular : (p : ℕ) → p < plan.count → singular plan.geometry.n (pass_at (route_of plan) p).rows ≡ false
  unfolding singular_pass
  sound_regular p = none_elim (λ p. singular plan.geometry.n (pass_at (route_of plan) p).rows) plan.count p checked.regular

  pub sound_dry : (p : ℕ) → p < plan.count → spills plan.geometry.b plan.geometry.m (pass_at (route_of plan) p).rows ≡ false
  unfolding spilling_pass
  sound_dry p = none_elim (λ p. spills plan.geometry.b plan.geometry.m (pass_at (route_of plan) p).rows) plan.count p checked.dry

-- the route of a sound plan can run
pub sound→runs : (plan : Plan) → length plan.rows ≡ PASSES * ROWS → sound plan ≡ true → Runs (route_of plan)
unfolding route_of stored_pass
sound→runs plan long e = record {
  inside = (sound→checked plan e).limits;
  few_passes = omega (arith, sound_few plan e, route_length plan);
  each_runs = λ p h.
      let n = plan.geometry.n in
      let hp : p < plan.count = rw route_length at h in record {
        rows_all = ap (λ (q : Pass). length q.rows) (route_at plan p hp)
            ∙ taken_length PASSES ROWS n plan.rows p long (sound_allowed plan e).n_high (omega (arith, sound_few plan e));
        rows_below = λ i hi. rw (route_at plan p hp, taken_at ROWS n plan.rows p i hi) (sound_row plan e p i hp hi);
        complement_below = rw (route_at plan p hp) (sound_complement plan e p hp);
        regular = sound_regular plan e p hp;
        dry = sound_dry plan e p hp;
      };
}

-- ---- the state's next step
module _ (plan : Plan) (state : State) where
  pub can_run→sound : can_run plan state ≡ true → sound plan ≡ true
  unfolding can_run
  can_run→sound e = and_l (sound plan) _ e

  pub sound→can_run : sound plan ≡ true → state.next.0 ≤ total (route_of plan) → can_run plan state ≡ true
  unfolding can_run
  sound→can_run e h = and_both (sound plan) (leb state.next.0 (total (route_of plan))) e (le-leb state.next.0 (total (route_of plan)) h)

-- the empty plan's geometry is outside the limits, so it can't run
empty_outside : in_limits empty_plan.geometry ≡ false
unfolding in_limits
empty_outside = refl

pub empty_stuck : (state : State) → can_run empty_plan state ≡ false
unfolding can_run sound
empty_stuck state = rw empty_outside refl
