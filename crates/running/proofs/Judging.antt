-- Which plans are judged sound, and which can run from where they are? Assumes nothing.
use mathlib.Core.Path.{◌≡◌, refl, sym, ap, ◌∙◌}
use mathlib.Core.Bool.{Bool, true, false, false≢true, true≢false, not, ◌&&◌, ◌||◌}
use mathlib.Core.List.{List}
use Prim.Native.Nat.{ℕ, ◌+◌, ◌*◌, ◌/◌, ◌%◌, ◌<◌, ◌≤◌}
use native.Mathlib.Omega.{arith}
use lib.Dec.{eqb, leb}
use lib.ListN.{get_or, length, length-drop, take, drop}
use lib.Seq.{get_or-drop, length-take-le, take-take}
use Rattle.algebra.proofs.Search.{and_both, any_ext}
use Rattle.bank.specs.Limits.{ROWS, PASSES}
use Rattle.bank.specs.Geometry.{in_limits, records}
use Rattle.algebra.specs.Search.{any_below}
use Rattle.algebra.specs.Matrix.{singular, spills}
use Rattle.planning.specs.Pass.{Pass, pass_at, total}
use Rattle.planning.specs.Running.{can_run, count_in_limits, singular_pass, sound, meant_zero, spare_complement, spare_row, spilling_pass, stray_complement, stray_row}
use Rattle.planning.specs.Stored.{route_of, stored_pass}
use Rattle.planning.specs.declared.Plan.{Plan}
use Rattle.planning.specs.declared.state.State.{State}
use Rattle.planning.proofs.Running.{sound→checked}
use Rattle.planning.proofs.Stored.{route_at}
use Rattle.totals.specs.Total.{total_steps}
use Rattle.totals.proofs.Total.{size_allowed, size_few, total_inside}
use Rattle.order.proofs.Passing.{any_of_first}
use Rattle.algebra.proofs.Digits.{share}

-- ---- one pass, in the room that its rows have
module _ (rows part : List ℕ) (p n : ℕ) (few : n ≤ ROWS) (is : part ≡ take ROWS (drop (p * ROWS) rows)) where
  pub part_matrix : take n (drop (p * ROWS) rows) ≡ take n part
  part_matrix = sym (ap (take n) is ∙ take-take n ROWS (drop (p * ROWS) rows) few)

-- ---- the conditions as the code asks them: of the rows, the complements and the numbers
module _ (plan : Plan) where
  -- the rows of pass p
  abbrev pub rows_at : ℕ → List ℕ
  rows_at p = take plan.geometry.n (drop (p * ROWS) plan.rows)

  pub stray_complements_asked : (size : ℕ) → size ≡ records plan.geometry → plan.count ≤ length plan.complements
      → stray_complement plan
      ≡ any_below (λ p. leb size (get_or (take plan.count plan.complements) p 0)) (length (take plan.count plan.complements))
  unfolding stray_complement
  stray_complements_asked size is fits =
      ap (λ (k : ℕ). any_below (λ p. leb k (get_or plan.complements p 0)) plan.count) (sym is)
      ∙ sym (any_of_first (leb size) plan.count plan.complements fits)

  pub spare_rows_asked : spare_row plan
      ≡ any_below (λ q. (leb plan.count (q / ROWS) || leb plan.geometry.n (q % ROWS)) && not (eqb (get_or plan.rows q 0) 0)) (PASSES * ROWS)
  unfolding spare_row meant_zero
  spare_rows_asked = refl

  pub spare_complements_asked : spare_complement plan ≡ any_below (λ p. leb plan.count p && not (eqb (get_or plan.complements p 0) 0)) PASSES
  unfolding spare_complement
  spare_complements_asked = refl

  -- a question of the matrix of a pass
  passes_asked : (Q : List ℕ → Bool) → any_below (λ p. Q (pass_at (route_of plan) p).rows) plan.count
      ≡ any_below (λ p. Q (rows_at p)) plan.count
  unfolding stored_pass
  passes_asked Q =
      any_ext (λ p. Q (pass_at (route_of plan) p).rows) (λ p. Q (rows_at p)) plan.count
      (λ p h. ap (λ (q : Pass). Q q.rows) (route_at plan p h))

  pub spilling_passes_asked : spilling_pass plan
      ≡ any_below (λ p. spills plan.geometry.b plan.geometry.m (rows_at p)) plan.count
  unfolding spilling_pass
  spilling_passes_asked = passes_asked (spills plan.geometry.b plan.geometry.m)

  -- every used pass has room for its rows
  module _ (inside : in_limits plan.geometry && count_in_limits plan ≡ true) (room : length plan.rows ≡ PASSES * ROWS) where
    fits : (p : ℕ) → p < plan.count → plan.geometry.n ≤ length (drop (p * ROWS) plan.rows)
    fits p h =
        omega (
          arith,
          length-drop (p * ROWS) plan.rows,
          share p PASSES ROWS (omega (arith, size_few plan inside)),
          (size_allowed plan inside).n_high,
        )

    long_at : (p : ℕ) → p < plan.count → length (rows_at p) ≡ plan.geometry.n
    long_at p h = length-take-le plan.geometry.n (drop (p * ROWS) plan.rows) (fits p h)

    pub singular_passes_asked : singular_pass plan ≡ any_below (λ p. singular (length (rows_at p)) (rows_at p)) plan.count
    unfolding singular_pass
    singular_passes_asked =
        passes_asked (singular plan.geometry.n)
        ∙ any_ext (λ p. singular plan.geometry.n (rows_at p)) (λ p. singular (length (rows_at p)) (rows_at p)) plan.count
        (λ p h. ap (λ (k : ℕ). singular k (rows_at p)) (sym (long_at p h)))

    pub stray_rows_asked : (size : ℕ) → size ≡ records plan.geometry
        → stray_row plan ≡ any_below (λ p. any_below (λ i. leb size (get_or (rows_at p) i 0)) (length (rows_at p))) plan.count
    unfolding stray_row
    stray_rows_asked size is =
        let n = plan.geometry.n in
        ap (λ (k : ℕ). any_below (λ p. any_below (λ i. leb k (get_or plan.rows (p * ROWS + i) 0)) n) plan.count) (sym is)
        ∙ any_ext (λ p. any_below (λ i. leb size (get_or plan.rows (p * ROWS + i) 0)) n)
        (λ p. any_below (λ i. leb size (get_or (rows_at p) i 0)) (length (rows_at p))) plan.count
        (λ p h.
        any_ext (λ i. leb size (get_or plan.rows (p * ROWS + i) 0)) (λ i. leb size (get_or (drop (p * ROWS) plan.rows) i 0)) n
        (λ i l. ap (leb size) (sym (get_or-drop (p * ROWS) plan.rows i 0)))
        ∙ sym (any_of_first (leb size) n (drop (p * ROWS) plan.rows) (fits p h)))

-- ---- the judgement
none_of : (a b c d s t : Bool) → not a && not b && not c && not d && not s && not t ≡ not (a || b || c || d) && not (s || t)
none_of true b c d s t = refl
none_of false true c d s t = refl
none_of false false true d s t = refl
none_of false false false true s t = refl
none_of false false false false true t = refl
none_of false false false false false t = refl

sound_of : (l a b c d s t : Bool) → l && not a && not b && not c && not d && not s && not t ≡ l && not (a || b || c || d) && not (s || t)
sound_of true a b c d s t = none_of a b c d s t
sound_of false a b c d s t = refl

-- inside the limits, well stored, and well made
pub sound_asked : (plan : Plan) → sound plan
    ≡ (in_limits plan.geometry && count_in_limits plan) && not (stray_row plan || stray_complement plan || spare_row plan || spare_complement plan)
    && not (singular_pass plan || spilling_pass plan)
unfolding sound
sound_asked plan =
    sound_of (in_limits plan.geometry && count_in_limits plan) (stray_row plan) (stray_complement plan) (spare_row plan) (spare_complement plan)
    (singular_pass plan) (spilling_pass plan)

-- the value of `t || a`, by the branches of t
pub or_then : (t a : Bool) {v : Bool} → t ≡ true → v ≡ t → v ≡ t || a
or_then true a e q = q
or_then false a e q = absurd (false≢true e)

pub or_else : (t a : Bool) {v : Bool} → t ≡ false → v ≡ a → v ≡ t || a
or_else true a e q = absurd (true≢false e)
or_else false a e q = q

-- the value of `t && a`, by the branches of t
pub and_then : (t a : Bool) {v : Bool} → t ≡ true → v ≡ a → v ≡ t && a
and_then true a e q = q
and_then false a e q = absurd (false≢true e)

pub and_else : (t a : Bool) {v : Bool} → t ≡ false → v ≡ t → v ≡ t && a
and_else true a e q = absurd (true≢false e)
and_else false a e q = q

-- ---- the state's next step
pub sound-total : (plan : Plan) → sound plan ≡ true → total_steps plan ≡ total (route_of plan)
sound-total plan e =
    let k = sound→checked plan e in
    total_inside plan (and_both (in_limits plan.geometry) (count_in_limits plan) k.limits k.count)

pub can_run_next : (plan : Plan) (state : State) (steps : ℕ) → sound plan ≡ true → steps ≡ total_steps plan → leb state.next.0 steps ≡ can_run plan state
unfolding can_run
can_run_next plan state steps e is = rw e (ap (leb state.next.0) (is ∙ sound-total plan e))
