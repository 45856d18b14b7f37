-- What does an area hold after a block was written, and after a block on each of the first drives? Assumes nothing.
use mathlib.Core.Path.{◌≡◌, refl, sym, ap, ap₂, ◌∙◌, subst}
use mathlib.Core.Logic.{⊎_elim}
use mathlib.Core.Bool.{Bool, true, false, cond, ◌&&◌}
use mathlib.Core.List.{List, ◌++◌}
use Prim.Native.Nat.{ℕ, zero, suc, ◌+◌, ◌-◌, ◌*◌, ◌/◌, ◌%◌, ◌≤◌, ◌<◌}
use native.Mathlib.Nat.{add_assoc, add-mul, div-add-mod', div-div-eq-div-mul, div-lt_iff_lt-mul, le-div_iff_mul-le, mod-lt, mul_assoc, mul_comm}
use native.Mathlib.Nat.{mul-zero, not-suc-le-zero, suc-mul, zero-lt-suc}
use native.Mathlib.Omega.{arith}
use borrow.Author.Tests.{eq-eqb, eqb-false, eqb-true, le-ltb, lt-ltb, ne_eqb}
use lib.Arith.{digits_div, digits_mod}
use lib.Dec.{eqb, ltb}
use lib.ListN.{length, get_or, take, drop}
use Rattle.algebra.proofs.Search.{le_or_lt}
use Rattle.moving.proofs.Bytes.{copied_ext, copied_none, each-each, get_or-copied, length-copied}
use Rattle.moving.specs.Bytes.{copied}
use Rattle.moving.proofs.Laid.{by_run, within-after, within_before, within_in}
use Rattle.copying.proofs.Parts.{back_each}
use Rattle.algebra.specs.Carry.{place_by}
use Rattle.blocks.specs.Places.{block_place, drive_place, every, in_block, on_drives}
use Rattle.moving.specs.Laid.{within}

-- r is positive where a * r is
pub pos_right : (a r j : ℕ) → j < a * r → 0 < r
pos_right a zero j h = absurd (not-suc-le-zero (subst (λ (k : ℕ). j < k) (mul-zero a) h))
pos_right a (suc r) j h = zero-lt-suc r

-- ---- one block, of count records of r bytes

module _ (count r : ℕ) (pos : 0 < count * r) where
  abbrev size : ℕ
  size = count * r

  pos_r : 0 < r
  pos_r = pos_right count r 0 pos

  -- a byte's block, by its record
  by_record : (i : ℕ) → i / size ≡ i / r / count
  by_record i = ap (λ (k : ℕ). i / k) (mul_comm count r) ∙ sym (div-div-eq-div-mul i r count)

  module _ (y : ℕ) where
    before : (i : ℕ) → i < y * size → i / r / count ≡ y → ⊥
    before i h e = omega (arith, (div-lt_iff_lt-mul pos).1 h, by_record i)

    after : (i : ℕ) → y * size + size ≤ i → i / r / count ≡ y → ⊥
    after i h e = omega (arith, (le-div_iff_mul-le {k = size} {x = suc y} {y = i} pos).1 (omega (arith, suc-mul y size)), by_record i)

    -- byte j of block y
    module _ (j : ℕ) (h : j < size) where
      abbrev at : ℕ
      at = y * size + j

      split : at ≡ (y * count + j / r) * r + j % r
      split =
          sym (ap (λ (k : ℕ). k + j % r) (add-mul (y * count) (j / r) r) ∙ add_assoc (y * count * r) (j / r * r) (j % r)
          ∙ ap₂ (λ (u v : ℕ). u + v) (mul_assoc y count r) (div-add-mod' j r))

      its_block : at / r / count ≡ y
      its_block = sym (by_record at) ∙ digits_div y h

      its_record : at / r % count ≡ j / r
      its_record =
          ap (λ (k : ℕ). k % count) (ap (λ (k : ℕ). k / r) split ∙ digits_div (y * count + j / r) (mod-lt j pos_r))
          ∙ digits_mod y ((div-lt_iff_lt-mul pos_r).1 h)

      its_byte : at % r ≡ j % r
      its_byte = ap (λ (k : ℕ). k % r) split ∙ digits_mod (y * count + j / r) (mod-lt j pos_r)

  -- block y was lent, and came back as ys, filled from the places P
  pub block_back : (P : ℕ → ℕ) (m xs b ys : List ℕ) (y o k : ℕ) → o ≡ y * size → k ≡ size → o + size ≤ length xs → length b ≡ size → ys ≡ copied every P r m b
      → take o xs ++ (ys ++ drop k (drop o xs)) ≡ copied (in_block count y) (λ x. P (x % count)) r m xs
  unfolding copied
  block_back P m xs b ys y o k eo ek fits long e =
      back_each o k xs ys (omega arith) (ap length e ∙ length-copied every P r m b ∙ long ∙ sym ek)
      (λ i x. cond (eqb (i / r / count) y) (get_or m (P (i / r % count) * r + i % r) 0) x)
      (λ i l. go i (get_or xs i 0))
    where
      inside : (j : ℕ) → j < size → (i : ℕ) → i ≡ y * size + j → get_or ys j 0 ≡ get_or m (P (i / r % count) * r + i % r) 0
      inside j h i w =
          ap (λ (l : List ℕ). get_or l j 0) e ∙ get_or-copied every P r m b j (omega arith)
          ∙ sym (ap (λ (z : ℕ). get_or m (P (z / r % count) * r + z % r) 0) w ∙ ap₂ (λ (u v : ℕ). get_or m (P u * r + v) 0) (its_record y j h) (its_byte y j h))

      go : (i x : ℕ) → within o k i (get_or ys (i - o) 0) x ≡ cond (eqb (i / r / count) y) (get_or m (P (i / r % count) * r + i % r) 0) x
      go i x =
          by_run o k i
          (λ h. rw (within_before, ne_eqb (i / r / count) y (before y i (omega arith))))
          (λ h l. let w : i ≡ y * size + (i - o) = omega arith in
          rw (within_in, eq-eqb (i / r / count) y (ap (λ (z : ℕ). z / r / count) w ∙ its_block y (i - o) (omega arith))) (inside (i - o) (omega arith) i w))
          (λ h. rw (within-after, ne_eqb (i / r / count) y (after y i (omega arith))))

-- ---- drive after drive

module _ (Y : ℕ → ℕ) (D : ℕ) where
  -- block z is that of its drive, and the drive is below q
  abbrev below : ℕ → ℕ → Bool
  below q z = ltb (z % D) q && eqb z (Y (z % D))

  below_same : (q z : ℕ) → z % D < q → below q z ≡ eqb z (Y (z % D))
  below_same q z h = ap (λ (t : Bool). t && eqb z (Y (z % D))) (lt-ltb (z % D) q h)

  below_not : (q z : ℕ) → q ≤ z % D → below q z ≡ false
  below_not q z h = ap (λ (t : Bool). t && eqb z (Y (z % D))) (le-ltb (z % D) q h)

  -- block z is not drive q's: then drive q changes nothing
  other : (q z : ℕ) → (z ≡ Y q → ⊥) → below q z ≡ below (q + 1) z
  other q z ne =
      ⊎_elim
      (λ (h : q ≤ z % D). ⊎_elim
      (λ (l : q + 1 ≤ z % D). below_not q z h ∙ sym (below_not (q + 1) z l))
      (λ (l : z % D < q + 1). let d : z % D ≡ q = omega arith in
      below_not q z h ∙ sym (below_same (q + 1) z l ∙ ne_eqb z (Y (z % D)) (λ e. ne (e ∙ ap Y d))))
      (le_or_lt (q + 1) (z % D)))
      (λ (h : z % D < q). below_same q z h ∙ sym (below_same (q + 1) z (omega arith)))
      (le_or_lt q (z % D))

  own : (q z : ℕ) → z ≡ Y q → z % D ≡ q → below (q + 1) z ≡ true
  own q z e d = below_same (q + 1) z (omega arith) ∙ eq-eqb z (Y (z % D)) (e ∙ ap Y (sym d))

  once_byte : (q y z w' w x : ℕ) → y ≡ Y q → y % D ≡ q → (z ≡ y → w' ≡ w) → cond (eqb z y) w' (cond (below q z) w x) ≡ cond (below (q + 1) z) w x
  once_byte q y z w' w x ey yq same = go (eqb z y) refl
    where
      go : (t : Bool) → eqb z y ≡ t → cond t w' (cond (below q z) w x) ≡ cond (below (q + 1) z) w x
      go true e =
          let q' : z ≡ y = eqb-true z y e in
          same q' ∙ sym (ap (λ (t : Bool). cond t w x) (own q z (q' ∙ ey) (ap (λ (k : ℕ). k % D) q' ∙ yq)))
      go false e = ap (λ (t : Bool). cond t w x) (other q z (λ h. eqb-false z y e (h ∙ sym ey)))

  module _ (P : ℕ → ℕ) (columns : List ℕ) (r count : ℕ) (m a : List ℕ) where
    -- the area once the drives below q have their block
    abbrev pub drives_done : ℕ → List ℕ
    drives_done q = copied (λ x. below q (x / count)) (drive_place count D P columns) r m a

    pub drives_none : a ≡ drives_done 0
    drives_none = copied_none (drive_place count D P columns) r m a (λ x. below 0 (x / count)) (λ x. below_not 0 (x / count) (omega arith))

    pub drives-all : 0 < D → drives_done D ≡ copied (on_drives count D Y) (drive_place count D P columns) r m a
    drives-all pos =
        copied_ext (drive_place count D P columns) r m a (λ x. below D (x / count)) (on_drives count D Y)
        (λ x. below_same D (x / count) (mod-lt (x / count) pos))

    pub drives_once : (a₁ : List ℕ) (q y base : ℕ) → a₁ ≡ drives_done q → y ≡ Y q → y % D ≡ q → base ≡ P q
        → copied (in_block count y) (block_place count base columns) r m a₁ ≡ drives_done (q + 1)
    unfolding copied
    drives_once a₁ q y base e ey yq eb =
        ap (copied (in_block count y) (block_place count base columns) r m) e
        ∙ each-each (λ i x. cond (below q (i / r / count)) (new i) x) (λ i x. cond (eqb (i / r / count) y) (own' i) x)
        (λ i x. cond (below (q + 1) (i / r / count)) (new i) x) a
        (λ i h. once_byte q y (i / r / count) (own' i) (new i) (get_or a i 0) ey yq
        (λ z. ap (λ (p : ℕ). get_or m (place_by p columns (i / r % count) * r + i % r) 0) (eb ∙ ap P (sym (ap (λ (k : ℕ). k % D) z ∙ yq)))))
      where
        -- byte i as its own drive's block has it, and as block y would
        new : ℕ → ℕ
        new i = get_or m (drive_place count D P columns (i / r) * r + i % r) 0

        own' : ℕ → ℕ
        own' i = get_or m (block_place count base columns (i / r) * r + i % r) 0
