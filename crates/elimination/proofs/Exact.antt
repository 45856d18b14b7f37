-- What do the entries made of exactly a matrix's columns answer, with no zeros after the columns? Assumes nothing.
use mathlib.Core.Path.{◌∙◌, ◌≡◌, ap, ap₂, refl, sym}
use mathlib.Core.Bool.{false, true}
use mathlib.Core.List.{List, ◌++◌}
use mathlib.Core.Logic.{◌⊎◌}
use Prim.Native.Nat.{◌+◌, ◌-◌, ◌<◌, ◌^◌, ◌≤◌, ℕ}
use native.Mathlib.Nat.{le_refl}
use lib.Bits.{bit_xor}
use lib.ListN.{drop, get_or, length, replicate, take}
use lib.Seq.{take-append_seam, take_all}
use Rattle.algebra.proofs.Basis.{rest_of, used_of}
use Rattle.algebra.proofs.Built.{built_same}
use Rattle.algebra.proofs.Columns.{columns-length}
use Rattle.algebra.proofs.Lists.{padded_at}
use Rattle.algebra.proofs.Questions.{AllMarked, inverse-built, kernel_tag, marked_next, singular_tag, source-built, spills_no, spills_yes, through_next}
use Rattle.algebra.proofs.Spill.{Through}
use Rattle.algebra.specs.Elimination.{Echelon, built}
use Rattle.algebra.specs.Matrix.{applied, columns, inverse, kernel, singular, source, spills}
use Rattle.algebra.specs.Vector.{WORD}

-- the columns, out of an array that holds zeros after them
pub exactly : (room n : ℕ) (rows cols : List ℕ) → cols ≡ columns n rows ++ replicate (room - n) 0 → take n cols ≡ columns n rows
exactly room n rows cols e = ap₂ take (sym (columns-length n rows)) e ∙ take-append_seam (columns n rows) (replicate (room - n) 0)

pub exactly-length : (room n : ℕ) (rows cols : List ℕ) → cols ≡ columns n rows ++ replicate (room - n) 0 → length (take n cols) ≡ n
exactly-length room n rows cols e = ap length (exactly room n rows cols e) ∙ columns-length n rows

-- such zeros change no entries
built_zeros : (room : ℕ) (cols : List ℕ) (z j : ℕ) → built room cols j ≡ built room (cols ++ replicate z 0) j
built_zeros room cols z j = built_same room cols (cols ++ replicate z 0) j (λ i h. sym (padded_at cols z i))

module _ (room : ℕ) (rows : List ℕ) (fits : length rows ≤ room) (word : room ≤ WORD) where
  abbrev n : ℕ
  n = length rows

  abbrev cols : List ℕ
  cols = columns n rows

  abbrev zeros : ℕ
  zeros = room - n

  all : take n rows ≡ rows
  all = take_all n rows (le_refl n)

  padded : cols ++ replicate zeros 0 ≡ columns n (take n rows) ++ replicate zeros 0
  padded = rw all refl

  -- what column j leaves, where the columns before it are marked
  module _ (j left tag unit : ℕ) (e : Echelon) (hj : j < n) (he : e ≡ built room cols j) (hleft : left ≡ rest_of e (get_or cols j 0))
      (hunit : unit ≡ 2 ^ j) (htag : tag ≡ bit_xor unit (used_of e (get_or cols j 0))) (m : AllMarked n rows j) where
    he' : e ≡ built room (cols ++ replicate zeros 0) j
    he' = he ∙ built_zeros room cols zeros j

    hleft' : left ≡ rest_of e (get_or (cols ++ replicate zeros 0) j 0)
    hleft' = rw (padded_at cols zeros j) hleft

    htag' : tag ≡ bit_xor unit (used_of e (get_or (cols ++ replicate zeros 0) j 0))
    htag' = rw (padded_at cols zeros j) htag

    pub kernel_exact : left ≡ 0 → tag ≡ kernel n rows
    kernel_exact z =
        rw all at (kernel_tag room n rows (cols ++ replicate zeros 0) fits word padded j left tag unit e hj he' hleft' hunit htag' (rw all m) z)

    pub singular_exact : left ≡ 0 → singular n rows ≡ true
    singular_exact z =
        rw all at (singular_tag room n rows (cols ++ replicate zeros 0) fits word padded j left tag unit e hj he' hleft' hunit htag' (rw all m) z)

    pub marked_exact : (left ≡ 0 → ⊥) → AllMarked n rows (j + 1)
    marked_exact f =
        rw all at (marked_next room n rows (cols ++ replicate zeros 0) fits word padded j left tag unit e hj he' hleft' hunit htag' (rw all m) f)

  -- the entries of all columns
  module _ (e : Echelon) (he : e ≡ built room cols n) (s : singular n rows ≡ false) where
    pub source_exact : (c y : ℕ) → c < 2 ^ n → y < 2 ^ n → used_of e (bit_xor y c) ≡ source n rows c y
    source_exact c y hc hy =
        rw all at (source-built room n rows (cols ++ replicate zeros 0) fits word padded e (he ∙ built_zeros room cols zeros n) (rw all s) c y hc hy)

    pub inverse_exact : (j : ℕ) → j < n → used_of e (2 ^ j) ≡ get_or (columns n (inverse n rows)) j 0
    inverse_exact j hj =
        rw all at (inverse-built room n rows (cols ++ replicate zeros 0) fits word padded e (he ∙ built_zeros room cols zeros n) (rw all s) j hj)

-- ---- the middle rows and the lower ones
module _ (rows : List ℕ) (b m : ℕ) (hb : b ≤ m) (hm : m ≤ length rows) where
  abbrev middle : List ℕ
  middle = take (m - b) (drop b rows)

  abbrev lower : List ℕ
  lower = take (length rows - m) (drop m rows)

  whole : take (length rows) rows ≡ rows
  whole = take_all (length rows) rows (le_refl (length rows))

  pub spills_no_exact : Through middle lower m → false ≡ spills b m rows
  spills_no_exact h = rw whole at (spills_no rows b m (length rows) hb hm h)

  module _ (room : ℕ) (fits : length rows ≤ room) (word : room ≤ WORD) (j left tag unit : ℕ) (e : Echelon) (hj : j < m)
      (he : e ≡ built room (columns m middle) j) (hleft : left ≡ rest_of e (get_or (columns m middle) j 0))
      (hunit : unit ≡ 2 ^ j) (htag : tag ≡ bit_xor unit (used_of e (get_or (columns m middle) j 0))) where
    abbrev zeros_m : ℕ
    zeros_m = room - m

    abbrev padded_m : List ℕ
    padded_m = columns m middle ++ replicate zeros_m 0

    pub spills_yes_exact : left ≡ 0 → (applied lower tag ≡ 0 → ⊥) → true ≡ spills b m rows
    spills_yes_exact z f =
        rw whole at (spills_yes rows b m (length rows) hb hm room fits word padded_m refl j left tag unit e hj (he ∙ built_zeros room (columns m middle) zeros_m j)
        (rw (padded_at (columns m middle) zeros_m j) hleft) hunit (rw (padded_at (columns m middle) zeros_m j) htag) z f)

    pub through_exact : ((left ≡ 0) × (applied lower tag ≡ 0)) ⊎ (left ≡ 0 → ⊥) → Through middle lower j → Through middle lower (j + 1)
    through_exact =
        through_next rows b m (length rows) hb hm room fits word padded_m refl j left tag unit e hj (he ∙ built_zeros room (columns m middle) zeros_m j)
        (rw (padded_at (columns m middle) zeros_m j) hleft) hunit (rw (padded_at (columns m middle) zeros_m j) htag)
