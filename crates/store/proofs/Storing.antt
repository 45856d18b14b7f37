-- What is a stored route with one pass more? Assumes nothing.
use mathlib.Core.Path.{◌≡◌, ap, subst, sym, ◌∙◌}
use mathlib.Core.Bool.{Bool}
use mathlib.Core.List.{List, [], ◌∷◌, ◌++◌}
use mathlib.Core.Logic.{⊎_elim}
use Prim.Native.Nat.{ℕ, ◌+◌, ◌-◌, ◌*◌, ◌/◌, ◌%◌, ◌≤◌, ◌<◌}
use native.Mathlib.Nat.{div-add-mod', eq-or-lt_of_le, mod-lt, mul-le-mul_right, suc-mul}
use native.Mathlib.Omega.{arith}
use lib.Arith.{digits_div, digits_lt}
use lib.ListN.{get_or-append, get_or-eq_default, length, get_or, get_or-replicate, set, length-append, length-replicate, length-set, replicate}
use lib.Seq.{ext_get_or, get_or-append_seam, get_or-set_same, get_or-set_other, length-paste, paste}
use Rattle.bank.specs.Limits.{ROWS, PASSES}
use Rattle.bank.specs.declared.Geometry.{Geometry}
use Rattle.algebra.proofs.Listed.{listed_length}
use Rattle.algebra.proofs.Lists.{padded_at, paste_after, paste_before, paste_in}
use Rattle.algebra.proofs.Search.{le_or_lt}
use Rattle.planning.specs.Pass.{Pass, pass_in}
use Rattle.planning.specs.Stored.{plan_of, stored_complements, stored_rows}
use Rattle.planning.proofs.Stored.{stored_complement, stored_length, stored_place, stored_row}
use Rattle.store.specs.Store.{with_pass}

complements_length : (room : ℕ) (ps : List Pass) → length (stored_complements room ps) ≡ room
unfolding stored_complements
complements_length room ps = listed_length (λ p. (pass_in ps p).complement) room 0

-- ---- one pass more
module _ (ps : List Pass) (f : List ℕ) (c : ℕ) where
  abbrev more : List Pass
  more = ps ++ (record { rows = f; complement = c } ∷ [])

  length_more : length more ≡ length ps + 1
  length_more = length-append ps (record { rows = f; complement = c } ∷ [])

  more_old : (p : ℕ) → p < length ps → pass_in more p ≡ pass_in ps p
  more_old p h = get_or-append ps (record { rows = f; complement = c } ∷ []) (record { rows = []; complement = 0 }) p h

  more_last : pass_in more (length ps) ≡ record { rows = f; complement = c }
  more_last = get_or-append_seam ps (record { rows = f; complement = c }) [] (record { rows = []; complement = 0 })

  more_past : (p : ℕ) → length ps < p → pass_in more p ≡ pass_in ps p
  more_past p h =
      get_or-eq_default more (record { rows = []; complement = 0 }) (omega (arith, length_more))
      ∙ sym (get_or-eq_default ps (record { rows = []; complement = 0 }) (omega arith))

  module _ (room width : ℕ) (some : 0 < width) (fits : length ps < room) (narrow : length f ≤ width) where
    abbrev padded : List ℕ
    padded = f ++ replicate (width - length f) 0

    abbrev before : List ℕ
    before = stored_rows room width ps

    abbrev pasted : List ℕ
    pasted = paste before (length ps * width) padded width

    padded_long : width ≤ length padded
    padded_long = omega (arith, length-append f (replicate (width - length f) 0), length-replicate {A = ℕ} (width - length f) 0)

    inside : length ps * width + width ≤ length before
    inside = omega (arith, stored_length room width ps, suc-mul (length ps) width, mul-le-mul_right width fits)

    same_place : (p i : ℕ) → i < width → p * width + i < room * width → pass_in more p ≡ pass_in ps p
        → (get_or pasted (p * width + i) 0 ≡ get_or before (p * width + i) 0)
        → get_or (stored_rows room width more) (p * width + i) 0 ≡ get_or pasted (p * width + i) 0
    same_place p i hi h e g =
        stored_place room width more (p * width + i) h
        ∙ ap (λ (x : Pass). get_or x.rows ((p * width + i) % width) 0) (ap (pass_in more) (digits_div p hi) ∙ e ∙ ap (pass_in ps) (sym (digits_div p hi)))
        ∙ sym (g ∙ stored_place room width ps (p * width + i) h)

    at_place : (p i : ℕ) → i < width → p * width + i < room * width
        → get_or (stored_rows room width more) (p * width + i) 0 ≡ get_or pasted (p * width + i) 0
    at_place p i hi h =
        ⊎_elim
        (λ (l : length ps ≤ p).
        ⊎_elim (λ (e : length ps ≡ p). subst (λ (k : ℕ). get_or (stored_rows room width more) (k * width + i) 0 ≡ get_or pasted (k * width + i) 0) e last)
        (λ (l : length ps < p).
        same_place p i hi h (more_past p l)
        (paste_after before padded (length ps * width) width inside padded_long (p * width + i)
        (omega (arith, suc-mul (length ps) width, mul-le-mul_right width l))))
        (eq-or-lt_of_le l))
        (λ (l : p < length ps).
        same_place p i hi h (more_old p l) (paste_before before padded (length ps * width) width inside padded_long (p * width + i) (digits_lt l hi)))
        (le_or_lt (length ps) p)
      where
        last : get_or (stored_rows room width more) (length ps * width + i) 0 ≡ get_or pasted (length ps * width + i) 0
        last =
            stored_row room width more (length ps) i fits hi
            ∙ ap (λ (x : Pass). get_or x.rows i 0) more_last
            ∙ sym (paste_in before padded (length ps * width) width inside padded_long i hi ∙ padded_at f (width - length f) i)

    stored_rows_more : stored_rows room width more ≡ pasted
    stored_rows_more =
        ext_get_or 0 (stored_rows room width more) pasted
        (stored_length room width more ∙ sym (length-paste before (length ps * width) padded width inside padded_long ∙ stored_length room width ps))
        (λ q h.
        subst (λ (k : ℕ). get_or (stored_rows room width more) k 0 ≡ get_or pasted k 0) (div-add-mod' q width)
        (at_place (q / width) (q % width) (mod-lt q some) (omega (arith, div-add-mod' q width, stored_length room width more))))

    stored_complements_more : stored_complements room more ≡ set (stored_complements room ps) (length ps) c
    stored_complements_more =
        ext_get_or 0 (stored_complements room more) (set (stored_complements room ps) (length ps) c)
        (complements_length room more ∙ sym (length-set (stored_complements room ps) (length ps) c ∙ complements_length room ps))
        (λ p h.
        let hp : p < room = omega (arith, complements_length room more) in
        stored_complement room width more p hp
        ∙ ⊎_elim
        (λ (l : length ps ≤ p).
        ⊎_elim (λ (e : length ps ≡ p). subst (λ (k : ℕ). (pass_in more k).complement ≡ get_or (set (stored_complements room ps) (length ps) c) k 0) e last)
        (λ (l : length ps < p). other p hp (more_past p l) (λ e. omega arith)) (eq-or-lt_of_le l))
        (λ (l : p < length ps). other p hp (more_old p l) (λ e. omega arith)) (le_or_lt (length ps) p))
      where
        last : (pass_in more (length ps)).complement ≡ get_or (set (stored_complements room ps) (length ps) c) (length ps) 0
        last =
            ap (λ (x : Pass). x.complement) more_last
            ∙ sym (get_or-set_same (stored_complements room ps) (length ps) c 0 (omega (arith, complements_length room ps)))

        other : (p : ℕ) → p < room → pass_in more p ≡ pass_in ps p → (p ≡ length ps → ⊥)
            → (pass_in more p).complement ≡ get_or (set (stored_complements room ps) (length ps) c) p 0
        other p h e f =
            ap (λ (x : Pass). x.complement) e
            ∙ sym (get_or-set_other (stored_complements room ps) (length ps) p c 0 f ∙ stored_complement room width ps p h)

-- ---- no pass
rows_none : (room width : ℕ) → stored_rows room width [] ≡ replicate (room * width) 0
rows_none room width =
    ext_get_or 0 (stored_rows room width []) (replicate (room * width) 0) (stored_length room width [] ∙ sym (length-replicate {A = ℕ} (room * width) 0))
    (λ q h.
    let l : q < room * width = omega (arith, stored_length room width []) in
    stored_place room width [] q l ∙ sym (get_or-replicate (room * width) q 0 0 l))

complements_none : (room : ℕ) → stored_complements room [] ≡ replicate room 0
complements_none room =
    ext_get_or 0 (stored_complements room []) (replicate room 0) (complements_length room [] ∙ sym (length-replicate {A = ℕ} room 0))
    (λ p h.
    let l : p < room = omega (arith, complements_length room []) in
    stored_complement room 1 [] p l ∙ sym (get_or-replicate room p 0 0 l))

-- a route with one pass more, as it is stored
pub stored_more : (g : Geometry) (blanks : Bool) (ps : List Pass) (f : List ℕ) (c n : ℕ) → length ps < PASSES → n ≤ ROWS → length f ≡ n
    → plan_of (record { geometry = g; blanks = blanks; passes = ps ++ (record { rows = f; complement = c } ∷ []) })
    ≡ with_pass (plan_of (record { geometry = g; blanks = blanks; passes = ps })) (length ps) (f ++ replicate (ROWS - n) 0) c
unfolding plan_of with_pass
stored_more g blanks ps f c n fits narrow long =
    let complements = stored_complements_more ps f c PASSES ROWS (omega arith) fits (omega arith) in
    λ i. record { geometry = g; blanks = blanks; count = length_more ps f c i; rows = rows i; complements = complements i }
  where
    rows : stored_rows PASSES ROWS (more ps f c) ≡ paste (stored_rows PASSES ROWS ps) (length ps * ROWS) (f ++ replicate (ROWS - n) 0) ROWS
    rows =
        stored_rows_more ps f c PASSES ROWS (omega arith) fits (omega arith)
        ∙ ap (λ (k : ℕ). paste (stored_rows PASSES ROWS ps) (length ps * ROWS) (f ++ replicate (ROWS - k) 0) ROWS) long

-- and with none
pub stored_none : (g : Geometry) (blanks : Bool) → plan_of (record { geometry = g; blanks = blanks; passes = [] })
    ≡ record { geometry = g; blanks = blanks; count = 0; rows = replicate (PASSES * ROWS) 0; complements = replicate PASSES 0 }
unfolding plan_of
stored_none g blanks = λ i. record { geometry = g; blanks = blanks; count = 0; rows = rows_none PASSES ROWS i; complements = complements_none PASSES i }
