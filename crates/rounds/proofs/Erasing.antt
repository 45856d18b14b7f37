-- Which columns of E has a loop made so far, and what does the elimination of δ give for the next? Assumes nothing.
use mathlib.Core.Path.{◌∙◌, ◌≡◌, ap, ap₂, refl, sym}
use mathlib.Core.Bool.{Bool, cond}
use mathlib.Core.List.{List, ◌++◌, map}
use mathlib.Core.Logic.{⊎_elim}
use Prim.Native.Nat.{◌%◌, ◌*◌, ◌+◌, ◌-◌, ◌/◌, ◌<◌, ◌^◌, ◌≤◌, suc, zero, ℕ}
use native.Mathlib.Nat.{lt_of_lt_of_le, mod-eq_of_lt, zero-mul}
use native.Mathlib.Omega.{arith}
use lib.Bits.{bit_xor, xor_zero_l, xor_zero_r}
use lib.Pow.{pow_mono}
use lib.Seq.{take_all}
use lib.Dec.{ltb}
use lib.ListN.{drop, get_or, length, length-drop, length-map, set, take}
use borrow.Author.Tests.{le-ltb, lt-ltb}
use Rattle.algebra.specs.Elimination.{Echelon, built, used}
use Rattle.algebra.specs.Matrix.{identity}
use Rattle.algebra.specs.Vector.{WORD, bit, comb, unless_zero}
use Rattle.algebra.proofs.Basis.{rest_linear}
use Rattle.algebra.proofs.Digits.{bit-zero, shr_below}
use Rattle.algebra.proofs.Linear.{comb_one, listed_units}
use Rattle.algebra.proofs.Listed.{listed_same, room_set}
use Rattle.algebra.proofs.Search.{by_test, le_or_lt}
use Rattle.planning.specs.Columns.{adding, delta, phi, zero_column}
use Rattle.planning.specs.Making.{eraser, erases}
use Rattle.planning.proofs.Bridges.{eraser-used, used_in}
use Rattle.planning.proofs.Parts.{delta-comb, zero_there}
use Rattle.planning.proofs.Round.{e_high, e_low, e_small, eraser-zero}
use Rattle.rounds.proofs.Products.{take_front}
use Rattle.planning.specs.Inner.{RoundReady}

-- ---- what an elimination uses for zero: nothing
used-zero : (ws qs ts : List ℕ) (k : ℕ) → used ws qs ts k 0 ≡ 0
unfolding used unless_zero
used-zero ws qs ts zero = refl
used-zero ws qs ts (suc k) =
    ap₂ bit_xor (used-zero ws qs ts k)
    (ap (λ (r : ℕ). unless_zero (bit r (get_or qs k 0)) (get_or ts k 0)) (rest_linear ws qs k).none
    ∙ ap (λ (d : ℕ). unless_zero d (get_or ts k 0)) (bit-zero (get_or qs k 0)))

-- ---- E so far
module _ (n b m : ℕ) (cols : List ℕ) where
  -- the set for column i, where i is below j
  unfoldable pub erased : ℕ → ℕ → ℕ
  erased j i = cond (ltb i j) (eraser n b m cols i) 0

  erased_yes : (j i : ℕ) → i < j → erased j i ≡ eraser n b m cols i
  unfolding erased
  erased_yes j i h = ap (λ (t : Bool). cond t (eraser n b m cols i) 0) (lt-ltb i j h)

  erased_not : (j i : ℕ) → j ≤ i → erased j i ≡ 0
  unfolding erased
  erased_not j i h = ap (λ (t : Bool). cond t (eraser n b m cols i) 0) (le-ltb i j h)

  module _ (hm : m ≤ n) where
    pub erased_none : (e r : List ℕ) → e ≡ identity n ++ r → e ≡ adding (erased b) n ++ r
    unfolding adding identity
    erased_none e r h =
        h ∙ ap (λ (l : List ℕ). l ++ r) (sym (listed_units n 0)
        ∙ listed_same (λ j. 2 ^ j) (λ j. bit_xor (2 ^ j) (erased b j)) n 0
        (λ j u v. sym (ap (bit_xor (2 ^ j)) (⊎_elim (λ (l : b ≤ j). erased_not b j l) (λ (l : j < b). erased_yes b j l ∙ e_low n b m hm cols j l)
        (le_or_lt b j)) ∙ xor_zero_r (2 ^ j))))

    pub erased_more : (j v : ℕ) (e r : List ℕ) → j < n → e ≡ adding (erased j) n ++ r → v ≡ bit_xor (2 ^ j) (eraser n b m cols j)
        → set e j v ≡ adding (erased (j + 1)) n ++ r
    unfolding adding
    erased_more j v e r hj h ev =
        ap (λ (l : List ℕ). set l j v) h
        ∙ room_set (λ i. bit_xor (2 ^ i) (erased j i)) (λ i. bit_xor (2 ^ i) (erased (j + 1) i)) n j v r hj
        (ev ∙ ap (bit_xor (2 ^ j)) (sym (erased_yes (j + 1) j (omega arith))))
        (λ i u w. ap (bit_xor (2 ^ i)) (⊎_elim (λ (l : j ≤ i). erased_not j i l ∙ sym (erased_not (j + 1) i (omega (arith, l, w))))
        (λ (l : i < j). erased_yes j i l ∙ sym (erased_yes (j + 1) i (omega arith))) (le_or_lt j i)))

    pub erased_all : (j : ℕ) (e r : List ℕ) → j ≡ m → e ≡ adding (erased j) n ++ r → e ≡ erases n b m cols ++ r
    unfolding adding erases
    erased_all j e r hj h =
        h ∙ ap (λ (l : List ℕ). l ++ r) (listed_same (λ i. bit_xor (2 ^ i) (erased j i)) (λ i. bit_xor (2 ^ i) (eraser n b m cols i)) n 0
        (λ i u v. ap (bit_xor (2 ^ i)) (⊎_elim (λ (l : j ≤ i). erased_not j i l ∙ sym (e_high n b m hm cols i (omega arith)))
        (λ (l : i < j). erased_yes j i l) (le_or_lt j i))))

-- ---- the next column of E
module _ (room n b m : ℕ) (small : room ≤ WORD) (hm : m ≤ n) (hn : n ≤ room) (cols : List ℕ) (sound : RoundReady n m cols) where
  delta-lt : (i : ℕ) → get_or (delta m cols) i 0 < 2 ^ (n - m)
  delta-lt i = rw (← comb_one (delta m cols) i, delta-comb) (shr_below n m (comb cols (2 ^ i * 2 ^ m)) hm (sound.small (2 ^ i * 2 ^ m)))

  eraser_tag : (j : ℕ) → b ≤ j → j < m → (e : Echelon) → e ≡ built room (delta m cols) (n - m) → eraser n b m cols j ≡ used_in e (get_or (phi m cols) j 0) * 2 ^ m
  eraser_tag j hb hj e ee =
      let v = get_or (phi m cols) j 0 in
      by_test (zero_column (phi m cols) j)
      (λ q.
      let nothing : used_in e v ≡ 0 = ap (used_in e) (zero_there (phi m cols) j q) ∙ used-zero e.vectors e.pivots e.tags e.count in
      eraser-zero n b m hm cols j q ∙ sym (ap (λ (k : ℕ). k * 2 ^ m) nothing ∙ zero-mul (2 ^ m)))
      (λ q. eraser-used room small n b m hm cols sound.small sound.trailing (omega arith) delta-lt j hb hj q
      ∙ ap (λ (x : Echelon). used_in x v * 2 ^ m) (sym ee))

  delta-length : length (delta m cols) ≡ n - m
  unfolding delta
  delta-length = length-map (drop m cols) (λ v. v / 2 ^ m) ∙ length-drop m cols ∙ ap (λ (k : ℕ). k - m) sound.long

  -- .. the entries of an array that holds δ
  pub delta_built : (array r : List ℕ) (e : Echelon) → array ≡ map (λ v. v / 2 ^ m) (take (n - m) (drop m cols)) ++ r
      → e ≡ built room (take (n - m) array) (length (take (n - m) array)) → e ≡ built room (delta m cols) (n - m)
  unfolding delta
  delta_built array r e ea ee =
      let few : length (drop m cols) ≤ n - m = omega (arith, length-drop m cols, sound.long) in
      let front : take (n - m) array ≡ delta m cols
      = take_front (n - m) array (delta m cols) r delta-length
      (ea ∙ ap (λ (l : List ℕ). map (λ v. v / 2 ^ m) l ++ r) (take_all (n - m) (drop m cols) few)) in
      ee ∙ ap (λ (l : List ℕ). built room l (length l)) front ∙ ap (built room (delta m cols)) delta-length

  -- .. by the entries of δ
  pub column_erased : (j : ℕ) → b ≤ j → j < m → (e : Echelon) → e ≡ built room (delta m cols) (n - m)
      → (power v tag : ℕ) → power ≡ 2 ^ j → v ≡ get_or (phi m cols) j 0 → tag ≡ bit_xor 0 (used_in e v)
      → bit_xor power (tag * 2 ^ m % 2 ^ WORD) ≡ bit_xor (2 ^ j) (eraser n b m cols j)
  column_erased j hb hj e ee power v tag ep ev et =
      let is : tag * 2 ^ m ≡ eraser n b m cols j
      = ap (λ (k : ℕ). k * 2 ^ m) (et ∙ xor_zero_l (used_in e v) ∙ ap (used_in e) ev) ∙ sym (eraser_tag j hb hj e ee) in
      let fits : n ≤ WORD = omega arith in
      ap₂ (λ (x y : ℕ). bit_xor x (y % 2 ^ WORD)) ep is ∙ ap (bit_xor (2 ^ j)) (mod-eq_of_lt (lt_of_lt_of_le (e_small n b m hm cols j) (pow_mono fits)))
