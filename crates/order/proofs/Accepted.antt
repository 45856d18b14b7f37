-- What does an order that is taken give a proof? Assumes nothing.
use mathlib.Core.Path.{◌≡◌, sym, ap, ◌∙◌}
use mathlib.Core.Bool.{Bool, true, false, not, ◌&&◌, ◌||◌}
use Prim.Native.Nat.{ℕ, ◌≤◌, ◌<◌}
use native.Mathlib.Omega.{arith}
use borrow.Author.Tests.{eqb-true, le-leb, leb-false, not-false}
use lib.Dec.{eqb, leb}
use lib.ListN.{get_or, length, length-take}
use lib.Seq.{get_or-take}
use Rattle.bank.specs.Limits.{ROWS}
use Rattle.bank.specs.Geometry.{in_limits, records}
use Rattle.bank.proofs.Limits.{limits→allowed}
use Rattle.algebra.specs.Matrix.{singular}
use Rattle.algebra.proofs.Search.{none_elim, or_none}
use Rattle.bank.specs.Checks.{refuse}
use Rattle.order.specs.Order.{form_number, matrix_of, stray_row, stray_complement, spare_row, bad_form, judgement}
use Rattle.order.specs.declared.Order.{Order}
use Rattle.order.proofs.Judged.{form_none, or_later_none, refuse_none}

-- an order that is taken, condition by condition
pub record Accepted (order : Order) : Type 0 where
  pub inside : in_limits order.geometry ≡ true
  pub form : bad_form order ≡ false
  pub regular : singular order.geometry.n (matrix_of order) ≡ false

pub judgement→accepted : (order : Order) → judgement order ≡ 0 → Accepted order
unfolding judgement
judgement→accepted order e =
    let regular = singular order.geometry.n (matrix_of order) in
    let o = or_later_none (form_number order) (refuse regular 3 0) e in
    let f = form_none order o.0 in
    record { inside = f.0; form = f.1; regular = (refuse_none regular 2 0 o.1).0 }

-- ---- good form, place by place
module _ (order : Order) (form : bad_form order ≡ false) where
  parts : (stray_row order ≡ false) × (stray_complement order ≡ false) × (spare_row order ≡ false)
  unfolding bad_form
  parts =
      let last = or_none (stray_row order || stray_complement order) (spare_row order) form in
      let first = or_none (stray_row order) (stray_complement order) last.0 in
      (first.0, first.1, last.1)

  row_below : (i : ℕ) → i < order.geometry.n → get_or order.rows i 0 < records order.geometry
  unfolding stray_row
  row_below i h =
      leb-false (records order.geometry) (get_or order.rows i 0)
      (none_elim (λ i. leb (records order.geometry) (get_or order.rows i 0)) order.geometry.n i parts.0 h)

  pub complement_below : order.complement < records order.geometry
  unfolding stray_complement
  complement_below = leb-false (records order.geometry) order.complement parts.1

  pub place_zero : (i : ℕ) → order.geometry.n ≤ i → i < ROWS → get_or order.rows i 0 ≡ 0
  unfolding spare_row
  place_zero i h l =
      eqb-true (get_or order.rows i 0) 0
      (not-false (eqb (get_or order.rows i 0) 0)
      (sym (ap (λ (t : Bool). t && not (eqb (get_or order.rows i 0) 0)) (le-leb order.geometry.n i h))
      ∙ none_elim (λ i. leb order.geometry.n i && not (eqb (get_or order.rows i 0) 0)) ROWS i parts.2 l))

-- ---- A has n rows, none with a bit at n or above
module _ (order : Order) (inside : in_limits order.geometry ≡ true) (room : length order.rows ≡ ROWS) where
  pub matrix_length : length (matrix_of order) ≡ order.geometry.n
  matrix_length = length-take order.geometry.n order.rows ∙ omega (arith, room, (limits→allowed order.geometry inside).n_high)

  pub matrix_below : bad_form order ≡ false → (i : ℕ) → i < order.geometry.n → get_or (matrix_of order) i 0 < records order.geometry
  matrix_below form i h = rw (get_or-take order.geometry.n order.rows i 0 h) (row_below order form i h)
