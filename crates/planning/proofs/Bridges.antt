-- How does code find what the definitions search for? Assumes nothing.
use mathlib.Core.Path.{◌∙◌, ◌≡◌, ap, ap₂, refl, subst, sym}
use mathlib.Core.Bool.{Bool, false, not, true, true≢false, cond}
use mathlib.Core.List.{List, ◌++◌}
use Prim.Native.Nat.{◌%◌, ◌*◌, ◌+◌, ◌-◌, ◌/◌, ◌<◌, ◌^◌, ◌≤◌, suc, zero, ℕ}
use native.Mathlib.Nat.{add_comm, le_refl, le-suc, le_trans, mod-lt, not-suc-le-zero}
use native.Mathlib.Numerals.{add-one}
use native.Mathlib.Omega.{arith}
use lib.Arith.{digits_lt}
use lib.Pow.{high, low, pow-add, pow_pos, shr_lt}
use lib.Dec.{eqb}
use lib.ListN.{get_or, length, set}
use lib.Seq.{get_or-append-add, get_or-set_other, get_or-set_same}
use lib.Bits.{bit_xor}
use borrow.Author.Tests.{eqb-false}
use Rattle.algebra.proofs.Basis.{rest→marked, solved_zero, spanned, used_below}
use Rattle.algebra.proofs.Built.{Built, built_is}
use Rattle.algebra.proofs.Digits.{bit-pow_other, bit_unless, bit-zero, unless_zero_lem}
use Rattle.algebra.proofs.Kernel.{marked_intro, unmarked_intro}
use Rattle.algebra.proofs.Linear.{comb-append}
use Rattle.algebra.proofs.Search.{below_suc, by_test}
use Rattle.algebra.specs.Elimination.{Echelon, built, grown, rest, used, with_entry}
use Rattle.algebra.specs.Matrix.{marked}
use Rattle.algebra.specs.Vector.{WORD, bit, comb, unless_zero}
use Rattle.planning.proofs.Marks.{Only, only_xor}
use Rattle.planning.proofs.Round.{eraser_one, eraser-right}
use Rattle.planning.proofs.Step1.{reached_elim, reached_intro}
use Rattle.planning.proofs.Step2.{summands_one}
use Rattle.planning.specs.Columns.{delta, phi, zero_column}
use Rattle.planning.specs.Making.{eraser, reached, summands}

-- ---- W: the columns of φ that are marked when δ's columns stand to the left of φ's
module _ (n m : ℕ) (hm : m ≤ n) (cols : List ℕ) (hl : length (delta m cols) ≡ n - m) (i : ℕ) (hi : i < m) where
  abbrev d : ℕ
  d = n - m

  abbrev both : List ℕ
  both = delta m cols ++ phi m cols

  at : get_or both (d + i) 0 ≡ get_or (phi m cols) i 0
  at = ap (λ (k : ℕ). get_or both (k + i) 0) (sym hl) ∙ get_or-append-add (delta m cols) (phi m cols) i 0

  sum : (s : ℕ) → comb both s ≡ bit_xor (comb (delta m cols) (s % 2 ^ d)) (comb (phi m cols) (s / 2 ^ d))
  sum s =
      comb-append (delta m cols) (phi m cols) s
      ∙ ap (λ (k : ℕ). bit_xor (comb (delta m cols) (s % 2 ^ k)) (comb (phi m cols) (s / 2 ^ k))) hl

  pub reached-marked : not (reached n m cols i) ≡ marked both (d + i)
  reached-marked =
      by_test (reached n m cols i)
      (λ e.
      let r = reached_elim n m hm cols i e in
      let s = r.1 * 2 ^ d + r.0 in
      let lt : s < 2 ^ (d + i) = rw (add_comm d i, pow-add 2 i d) (digits_lt r.3 r.2) in
      ap not e ∙ sym (unmarked_intro both (d + i) s lt
      (sum s ∙ ap₂ (λ (x y : ℕ). bit_xor (comb (delta m cols) x) (comb (phi m cols) y)) (low r.1 d r.2) (high r.1 d r.2) ∙ r.4 ∙ sym at)))
      (λ e. ap not e ∙ sym (marked_intro both (d + i) (λ s h q.
      let lt : s / 2 ^ d < 2 ^ i = shr_lt i d (rw (add_comm d i) at h) in
      true≢false (sym (reached_intro n m hm cols i (s % 2 ^ d) (s / 2 ^ d) (mod-lt s (pow_pos d)) lt (sym (sum s) ∙ q ∙ at)) ∙ e))))

-- ---- what an elimination uses picks marked columns only
abbrev pub rest_in : Echelon → ℕ → ℕ
rest_in e v = rest e.vectors e.pivots e.count v

abbrev pub used_in : Echelon → ℕ → ℕ
used_in e v = used e.vectors e.pivots e.tags e.count v

only_times : (p : ℕ → Bool) (k d x : ℕ) → Only p k x → Only p k (unless_zero d x)
only_times p k d x o i h e = bit_unless d x i ∙ ap (unless_zero d) (o i h e) ∙ unless_zero_lem d

used_only : (p : ℕ → Bool) (n : ℕ) (ws qs ts : List ℕ) (k v : ℕ) → ((i : ℕ) → i < k → Only p n (get_or ts i 0)) → Only p n (used ws qs ts k v)
unfolding used
used_only p n ws qs ts zero v h = λ i l e. bit-zero i
used_only p n ws qs ts (suc k) v h =
    let d = bit (rest ws qs k v) (get_or qs k 0) in
    only_xor p n (used ws qs ts k v) (unless_zero d (get_or ts k 0)) (used_only p n ws qs ts k v (λ i l. h i (le_trans l (le-suc k))))
    (only_times p n d (get_or ts k 0) (h k (le_refl (suc k))))

abbrev TagsOnly : List ℕ → ℕ → Echelon → Type 0
TagsOnly cols n e = (i : ℕ) → i < e.count → Only (marked cols) n (get_or e.tags i 0)

tags_only : (room : ℕ) (cols : List ℕ) (w : ℕ) → w ≤ WORD → ((i : ℕ) → get_or cols i 0 < 2 ^ w) → (n j : ℕ) → j ≤ room
    → TagsOnly cols n (built room cols j)
unfolding built
tags_only room cols w hw hc n zero hj = λ i h. absurd (not-suc-le-zero h)
tags_only room cols w hw hc n (suc j) hj =
    step (built room cols j) (built_is room cols w hw hc j (omega arith)) (tags_only room cols w hw hc n j (omega arith))
  where
    step : (e : Echelon) → Built room cols w j e → TagsOnly cols n e → TagsOnly cols n (grown e j (get_or cols j 0))
    step e b ih = unfold grown in go (eqb (rest_in e (get_or cols j 0)) 0) refl
      where
        go : (x : Bool) → eqb (rest_in e (get_or cols j 0)) 0 ≡ x
            → TagsOnly cols n (cond x e (with_entry e (rest_in e (get_or cols j 0)) (bit_xor (2 ^ j) (used_in e (get_or cols j 0)))))
        go true q i h = ih i h
        go false q i h =
            let v = get_or cols j 0 in
            let t = bit_xor (2 ^ j) (used_in e v) in
            let new = rest→marked cols j e.vectors e.pivots e.tags e.count b.basis (eqb-false (rest_in e v) 0 q) in
            below_suc (λ (i : ℕ). Only (marked cols) n (get_or (set e.tags e.count t) i 0)) e.count
            (λ i l. subst (Only (marked cols) n) (sym (get_or-set_other e.tags e.count i t 0 (λ s. omega (arith, l, s)))) (ih i l))
            (subst (Only (marked cols) n) (sym (get_or-set_same e.tags e.count t 0 (omega (arith, b.long_ts, b.few))))
            (only_xor (marked cols) n (2 ^ j) (used_in e v) (λ i l m. bit-pow_other j i (λ s. true≢false (sym new ∙ ap (marked cols) (sym s) ∙ m)))
            (used_only (marked cols) n e.vectors e.pivots e.tags e.count v ih)))
            i (subst (λ (k : ℕ). i < k) (add-one e.count) h)

-- step 2: what the elimination of φ uses for an unmarked column is the sum that the definition takes
pub summands-used : (room m : ℕ) (cols : List ℕ) (w : ℕ) → w ≤ WORD → m ≤ room → ((i : ℕ) → get_or (phi m cols) i 0 < 2 ^ w)
    → (j : ℕ) → j < m → marked (phi m cols) j ≡ false → used_in (built room (phi m cols) m) (get_or (phi m cols) j 0) ≡ summands m cols j
summands-used room m cols w hw hm hc j hj e =
    let F = phi m cols in
    let b = built room F m in
    let g = (built_is room F w hw hc m hm).basis in
    let v = get_or F j 0 in
    summands_one m cols j (used_in b v) hj e (used_below F m b.vectors b.pivots b.tags b.count g v)
    (used_only (marked F) m b.vectors b.pivots b.tags b.count v (tags_only room F w hw hc m m hm))
    (solved_zero F m b.vectors b.pivots b.tags b.count g v (g.span j hj))

-- E: what the elimination of δ uses for a column of φ is the set that the definition takes
pub eraser-used : (room : ℕ) → room ≤ WORD → (n b m : ℕ) (hm : m ≤ n) (cols : List ℕ) → ((y : ℕ) → comb cols y < 2 ^ n)
    → ((t : ℕ) → t < 2 ^ (n - m) → comb (delta m cols) t ≡ 0 → t ≡ 0)
    → n - m ≤ room → ((i : ℕ) → get_or (delta m cols) i 0 < 2 ^ (n - m)) → (j : ℕ) → b ≤ j → j < m → zero_column (phi m cols) j ≡ false
    → eraser n b m cols j ≡ used_in (built room (delta m cols) (n - m)) (get_or (phi m cols) j 0) * 2 ^ m
eraser-used room hroom n b m hm cols small trailing hd hc j hb hj e =
    let D = delta m cols in
    let a = built room D (n - m) in
    let g = (built_is room D (n - m) (omega arith) hc (n - m) hd).basis in
    let v = get_or (phi m cols) j 0 in
    let r = eraser-right n b m hm cols small trailing j hb hj e in
    let z : rest_in a v ≡ 0
    = ap (rest_in a) (sym r.3) ∙ spanned D (n - m) a.vectors a.pivots a.tags a.count g r.0 r.1 in
    eraser_one n b m hm cols small trailing j (used_in a v) hb hj e (used_below D (n - m) a.vectors a.pivots a.tags a.count g v)
    (solved_zero D (n - m) a.vectors a.pivots a.tags a.count g v z)
