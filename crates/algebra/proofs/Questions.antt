-- What does an elimination answer: what is sent to zero, the source of an address, whether a pass spills? Assumes nothing.
use mathlib.Core.Path.{◌∙◌, ◌≡◌, ap, ap₂, subst, sym}
use mathlib.Core.Bool.{false, true}
use mathlib.Core.List.{List, [], ◌++◌, ◌∷◌}
use Prim.Native.Nat.{◌+◌, ◌-◌, ◌<◌, ◌^◌, ◌≤◌, suc, zero, ℕ}
use native.Mathlib.Nat.{le_antisymm, le_refl, lt_trans, sub-zero}
use native.Mathlib.Numerals.{add-one}
use native.Mathlib.Omega.{arith}
use lib.Pow.{pow-lt, pow_pos}
use lib.Dec.{ltb}
use lib.ListN.{drop, get_or, length, length-take, replicate, take}
use lib.Seq.{take-nil, take-take}
use lib.Bits.{bit_xor, xor_lt, xor_zero_r}
use borrow.Author.Tests.{ltb-false}
use mathlib.Core.Logic.{◌⊎◌, inl, inr}
use Rattle.algebra.proofs.Basis.{Basis, rest_of, rest→marked, solved_zero, used_below, used_of}
use Rattle.algebra.proofs.Built.{Built, built_is, built_same}
use Rattle.algebra.proofs.Columns.{columns_at, columns-lt}
use Rattle.algebra.proofs.Inverse.{inverse_apply}
use Rattle.algebra.proofs.Kernel.{top_zero, unmarked_intro}
use Rattle.algebra.proofs.Linear.{apply_columns}
use Rattle.algebra.proofs.Lists.{padded_at}
use Rattle.algebra.proofs.Pivots.{Pivots}
use Rattle.algebra.proofs.Rank.{singular-rank}
use Rattle.algebra.proofs.Search.{below_suc}
use Rattle.algebra.proofs.Solve.{marked→no_kernel, source-used, unmarked→kernel, unmarked→singular}
use Rattle.algebra.proofs.Spill.{Through, spill_witness, through_marked, through_unmarked, through→no_spill}
use Rattle.algebra.specs.Elimination.{Echelon, built, used}
use Rattle.algebra.specs.Matrix.{applied, columns, inverse, kernel, marked, singular, source, spills}
use Rattle.algebra.specs.Vector.{WORD, comb}

-- what the entries of the columns before column j leave of it: its tag is 2 ^ j and a sum of those columns
pub record Leaves (n : ℕ) (rows : List ℕ) (j left tag : ℕ) : Type 0 where
  pub sum : ℕ
  pub sum_lt : sum < 2 ^ j
  pub tag_is : tag ≡ bit_xor (2 ^ j) sum
  pub tag_lt : tag < 2 ^ n
  -- nothing: column j is that sum, and A sends the tag to zero
  pub is_sum : left ≡ 0 → comb (columns n rows) sum ≡ get_or (columns n rows) j 0
  pub killed : left ≡ 0 → applied rows tag ≡ 0
  -- something: column j is marked
  pub is_marked : (left ≡ 0 → ⊥) → marked (columns n rows) j ≡ true

-- ---- the entries made of the columns of a matrix, where zeros follow the columns
module _ (room n : ℕ) (rows cols : List ℕ) (hn : n ≤ room) (hr : room ≤ WORD) (hl : length rows ≤ n)
    (hc : cols ≡ columns n rows ++ replicate (room - n) 0) where
  column_is : (j : ℕ) → get_or cols j 0 ≡ get_or (columns n rows) j 0
  column_is j = ap (λ (l : List ℕ). get_or l j 0) hc ∙ padded_at (columns n rows) (room - n) j

  known : (j : ℕ) (e : Echelon) → j ≤ n → e ≡ built room cols j → Built room (columns n rows) n j e
  known j e hj he =
      subst (λ (x : Echelon). Built room (columns n rows) n j x) (sym (he ∙ built_same room cols (columns n rows) j (λ i h. column_is i)))
      (built_is room (columns n rows) n (omega arith) (λ i. columns-lt n rows i hl) j (omega arith))

  pub leaves : (j left tag unit : ℕ) (e : Echelon) → j < n → e ≡ built room cols j → left ≡ rest_of e (get_or cols j 0)
      → unit ≡ 2 ^ j → tag ≡ bit_xor unit (used_of e (get_or cols j 0)) → Leaves n rows j left tag
  leaves j left tag unit e hj he hleft hunit htag =
      record {
        sum = t;
        sum_lt = t_lt;
        tag_is = tag_is;
        tag_lt = tag_lt;
        is_sum = is_sum;
        killed = λ z. sym (apply_columns n rows tag tag_lt) ∙ ap (comb (columns n rows)) tag_is ∙ top_zero (columns n rows) j t (is_sum z);
        is_marked = λ f. rest→marked (columns n rows) j e.vectors e.pivots e.tags e.count so_far.basis (λ z. f (left_is ∙ z));
      }
    where
      so_far : Built room (columns n rows) n j e
      so_far = known j e (omega arith) he

      v : ℕ
      v = get_or (columns n rows) j 0

      t : ℕ
      t = used_of e v

      t_lt : t < 2 ^ j
      t_lt = used_below (columns n rows) j e.vectors e.pivots e.tags e.count so_far.basis v

      tag_is : tag ≡ bit_xor (2 ^ j) t
      tag_is = htag ∙ ap₂ (λ (u w : ℕ). bit_xor u (used_of e w)) hunit (column_is j)

      tag_lt : tag < 2 ^ n
      tag_lt = subst (λ (x : ℕ). x < 2 ^ n) (sym tag_is) (xor_lt n (2 ^ j) t (pow-lt hj) (lt_trans t_lt (pow-lt hj)))

      left_is : left ≡ rest_of e v
      left_is = hleft ∙ ap (rest_of e) (column_is j)

      is_sum : left ≡ 0 → comb (columns n rows) t ≡ v
      is_sum z = solved_zero (columns n rows) j e.vectors e.pivots e.tags e.count so_far.basis v (sym left_is ∙ z)

-- ---- the entries made of all columns of the first n rows
module _ (room n : ℕ) (all cols : List ℕ) (hn : n ≤ room) (hr : room ≤ WORD) (hc : cols ≡ columns n (take n all) ++ replicate (room - n) 0)
    (e : Echelon) (he : e ≡ built room cols n) where
  abbrev rows : List ℕ
  rows = take n all

  whole : Built room (columns n rows) n n e
  whole = known room n rows cols hn hr (simp length-take (omega arith)) hc n e (le_refl n) he

  singular-built : ltb e.count n ≡ singular n rows
  singular-built = ap (λ (x : ℕ). ltb x n) whole.count ∙ sym (singular-rank n rows)

  module _ (s : singular n rows ≡ false) where
    pub source-built : (c y : ℕ) → c < 2 ^ n → y < 2 ^ n → used_of e (bit_xor y c) ≡ source n rows c y
    source-built c y hc hy =
        let f : e.count ≡ n = le_antisymm whole.few (ltb-false e.count n (singular-built ∙ s)) in
        ap (λ (m : ℕ). used e.vectors e.pivots e.tags m (bit_xor y c)) f
        ∙ sym (source-used n rows c e.vectors e.pivots e.tags s
        (subst (λ (m : ℕ). Basis (columns n rows) n e.vectors e.pivots e.tags m) f whole.basis)
        (subst (λ (m : ℕ). Pivots e.vectors e.pivots m) f whole.pivots)
        (subst (λ (m : ℕ). (i : ℕ) → i < m → get_or e.vectors i 0 < 2 ^ n) f whole.small) hc y hy)

    pub inverse-built : (j : ℕ) → j < n → used_of e (2 ^ j) ≡ get_or (columns n (inverse n rows)) j 0
    inverse-built j hj =
        ap (used_of e) (sym (xor_zero_r (2 ^ j)))
        ∙ source-built 0 (2 ^ j) (pow_pos n) (pow-lt hj)
        ∙ sym (columns_at n (inverse n rows) j hj ∙ inverse_apply n rows s (simp length-take (omega arith)) (2 ^ j) (pow-lt hj))

-- ---- one column after the other, up to the first that leaves nothing

-- the first j columns are marked
abbrev pub AllMarked : ℕ → List ℕ → ℕ → Type 0
AllMarked n rows j = (i : ℕ) → i < j → marked (columns n rows) i ≡ true

pub none_marked : (n : ℕ) (rows : List ℕ) → AllMarked n rows 0
none_marked n rows i h = absurd (omega arith)

pub all-marked : (n : ℕ) (rows : List ℕ) (j : ℕ) → n ≤ j → AllMarked n rows j → kernel n rows ≡ 0
all-marked n rows j h m = marked→no_kernel n rows (λ i l. m i (omega arith))

module _ (room n : ℕ) (all cols : List ℕ) (hn : n ≤ room) (hr : room ≤ WORD) (hc : cols ≡ columns n (take n all) ++ replicate (room - n) 0)
    (j left tag unit : ℕ) (e : Echelon) (hj : j < n) (he : e ≡ built room cols j) (hleft : left ≡ rest_of e (get_or cols j 0))
    (hunit : unit ≡ 2 ^ j) (htag : tag ≡ bit_xor unit (used_of e (get_or cols j 0))) (m : AllMarked n (take n all) j) where
  here : Leaves n (take n all) j left tag
  here = leaves room n (take n all) cols hn hr (simp length-take (omega arith)) hc j left tag unit e hj he hleft hunit htag

  pub kernel_tag : left ≡ 0 → tag ≡ kernel n (take n all)
  kernel_tag z = here.tag_is ∙ sym (unmarked→kernel n (take n all) j here.sum hj m here.sum_lt (here.is_sum z))

  pub singular_tag : left ≡ 0 → singular n (take n all) ≡ true
  singular_tag z = unmarked→singular n (take n all) j hj (unmarked_intro (columns n (take n all)) j here.sum here.sum_lt (here.is_sum z))

  pub marked_next : (left ≡ 0 → ⊥) → AllMarked n (take n all) (j + 1)
  marked_next f i h = below_suc (λ (i : ℕ). marked (columns n (take n all)) i ≡ true) j m (here.is_marked f) i (omega arith)

-- ---- the first n rows: the middle ones and the lower ones
pub drop-take : (m n : ℕ) (l : List ℕ) → drop m (take n l) ≡ take (n - m) (drop m l)
drop-take zero n l = ap (λ (k : ℕ). take k l) (sym (sub-zero n))
drop-take (suc m) zero l = let e : 0 ≡ 0 - suc m = omega arith in ap (λ (k : ℕ). take k (drop (suc m) l)) e
drop-take (suc m) (suc n) [] = sym (take-nil (suc n - suc m))
drop-take (suc m) (suc n) (x ∷ l) = let e : n - m ≡ suc n - suc m = omega arith in drop-take m n l ∙ ap (λ (k : ℕ). take k (drop m l)) e

module _ (all : List ℕ) (b m n : ℕ) (hb : b ≤ m) (hm : m ≤ n) where
  abbrev mid : List ℕ
  mid = take (m - b) (drop b all)

  abbrev low : List ℕ
  low = take (n - m) (drop m all)

  middle_part : take (m - b) (drop b (take n all)) ≡ mid
  middle_part = ap (take (m - b)) (drop-take b n all) ∙ take-take (m - b) (n - b) (drop b all) (omega arith)

  pub spills_no : Through mid low m → false ≡ spills b m (take n all)
  spills_no h = sym (through→no_spill b m (take n all) (rw (middle_part, drop-take m n all) h))

  -- the columns of the middle rows up to j, and what column j leaves
  module _ (room : ℕ) (hn : n ≤ room) (hr : room ≤ WORD) (cols : List ℕ) (hc : cols ≡ columns m mid ++ replicate (room - m) 0)
      (j left tag unit : ℕ) (e : Echelon) (hj : j < m) (he : e ≡ built room cols j) (hleft : left ≡ rest_of e (get_or cols j 0))
      (hunit : unit ≡ 2 ^ j) (htag : tag ≡ bit_xor unit (used_of e (get_or cols j 0))) where
    middle : Leaves m mid j left tag
    middle = leaves room m mid cols (omega arith) hr (simp length-take (omega arith)) hc j left tag unit e hj he hleft hunit htag

    pub spills_yes : left ≡ 0 → (applied low tag ≡ 0 → ⊥) → true ≡ spills b m (take n all)
    spills_yes z f = sym (spill_witness b m (take n all) tag middle.tag_lt (rw middle_part (middle.killed z)) (rw (drop-take m n all) f))

    -- nothing is left and the lower rows send the tag to zero too, or something is left
    pub through_next : ((left ≡ 0) × (applied low tag ≡ 0)) ⊎ (left ≡ 0 → ⊥) → Through mid low j → Through mid low (j + 1)
    through_next (inl z) h =
        rw (add-one j) (through_unmarked m mid low j middle.sum middle.sum_lt (rw middle.tag_is at (middle.killed z.0)) (rw middle.tag_is at z.1) h)
    through_next (inr f) h = rw (add-one j) (through_marked m mid low j hj (middle.is_marked f) h)
