-- What does step 2 do, and why is P its own inverse? Assumes nothing.
use mathlib.Core.Path.{◌∙◌, ◌≡◌, ap, ap₂, refl, subst, sym}
use mathlib.Core.Bool.{Bool, ◌&&◌, and-false, cond, false, not, true, true≢false}
use mathlib.Core.Logic.{⊎_elim}
use mathlib.Core.List.{List}
use Prim.Native.Nat.{◌*◌, ◌-◌, ◌/◌, ◌<◌, ◌^◌, ◌≤◌, ℕ}
use native.Mathlib.Nat.{lt_of_lt_of_le}
use native.Mathlib.Omega.{arith}
use lib.Pow.{pow_mono, pow_pos}
use lib.Dec.{eqb, ltb}
use lib.ListN.{get_or, length}
use lib.Bits.{bit_xor, xor_comm, xor_lt, xor_self, xor_shr, xor_zero_r}
use borrow.Author.Tests.{eq-eqb, eqb-true, le-ltb, lt-ltb, ne_eqb}
use Rattle.algebra.proofs.Digits.{bit-zero, shl_below, unless_no, unless_zero_lem, xor_assoc, xor_cancel_r}
use Rattle.algebra.proofs.Inverse.{own_inverse}
use Rattle.algebra.proofs.Kernel.{marked_ext, unmarked_elim}
use Rattle.algebra.proofs.Linear.{comb-xor, listed_lt, none_above, sum_none, comb-after, after-length}
use Rattle.algebra.proofs.Listed.{which_ext, which_off}
use Rattle.algebra.proofs.Lists.{All}
use Rattle.algebra.proofs.Search.{and_l, and_r, by_test, first_found, first_lt, le_or_lt}
use Rattle.algebra.specs.Matrix.{after, columns, inverse, marked, rank}
use Rattle.algebra.specs.Search.{first_passing, listed, which}
use Rattle.algebra.specs.Vector.{bit, comb, unless_zero}
use Rattle.planning.proofs.Acts.{adding_at, adding_is, adding-length, adding-lt, twice_zero}
use Rattle.planning.proofs.Marks.{Only, marked-nonzero, marks_one, marks_span, only_elim, only_intro, only_more}
use Rattle.planning.proofs.Parts.{delta-comb, phi_at, phi-comb}
use Rattle.planning.proofs.Step1.{add1, add1_lt, add1_none, pair_is, pair_off, step1_is, step1_low, step1-lt, us_asc, w_marked}
use Rattle.planning.specs.Columns.{delta, only_marked, phi, zero_column}
use Rattle.planning.specs.Making.{chosen, operations, reached, step1, step2, summands, unmarked}
use Rattle.algebra.proofs.Rank.{rank-which}

-- ---- step 2, of any matrix
module _ (m : ℕ) (cols : List ℕ) where
  abbrev φ : List ℕ
  φ = phi m cols

  abbrev add : ℕ → ℕ
  add = summands m cols

  abbrev want : ℕ → ℕ → Bool
  want j s = only_marked φ m s && eqb (comb φ s) (get_or φ j 0)

  abbrev by : ℕ → Bool → ℕ
  by j x = cond x (first_passing (want j) (2 ^ m)) 0

  -- the sum that the definition takes
  pub summands-right : (j : ℕ) → j < m → marked φ j ≡ false
      → (add j < 2 ^ m) × Only (marked φ) m (add j) × (comb φ (add j) ≡ get_or φ j 0)
  unfolding summands
  summands-right j h e =
      subst (λ (x : Bool). (by j x < 2 ^ m) × Only (marked φ) m (by j x) × (comb φ (by j x) ≡ get_or φ j 0))
      (sym (ap₂ (λ (x y : Bool). x && not y) (lt-ltb j m h) e)) (
        first_lt (want j) (2 ^ m) (pow_pos m),
        only_elim φ m s (and_l (only_marked φ m s) (eqb (comb φ s) (get_or φ j 0)) found),
        eqb-true (comb φ s) (get_or φ j 0) (and_r (only_marked φ m s) (eqb (comb φ s) (get_or φ j 0)) found),
      )
    where
      s : ℕ
      s = first_passing (want j) (2 ^ m)

      found : want j s ≡ true
      found =
          let u = unmarked_elim φ j e in
          let z = marks_span φ m j u.0 (omega arith) u.1 in
          first_found (want j) (2 ^ m) z.0 (lt_of_lt_of_le z.1 (pow_mono (omega arith)))
          (ap₂ ◌&&◌ (only_intro φ m z.0 (only_more (marked φ) j m z.0 z.1 z.2)) (eq-eqb (comb φ z.0) (get_or φ j 0) (z.3 ∙ u.2)))

  -- and there is no other
  pub summands_one : (j s : ℕ) → j < m → marked φ j ≡ false → s < 2 ^ m → Only (marked φ) m s → comb φ s ≡ get_or φ j 0 → s ≡ add j
  summands_one j s h e hs o q =
      let r = summands-right j h e in
      marks_one φ m s (add j) hs r.0 o r.1 (q ∙ sym r.2)

  pub summands-marked : (j : ℕ) → marked φ j ≡ true → add j ≡ 0
  unfolding summands
  summands-marked j e = rw (summands, e, and-false (ltb j m)) refl

  pub summands_high : (j : ℕ) → m ≤ j → add j ≡ 0
  unfolding summands
  summands_high j h = rw (summands, le-ltb j m h) refl

  summands-lt : (j : ℕ) → add j < 2 ^ m
  unfolding summands
  summands-lt j = go (ltb j m && not (marked φ j))
    where
      go : (x : Bool) → by j x < 2 ^ m
      go true = first_lt (want j) (2 ^ m) (pow_pos m)
      go false = pow_pos m

  -- no unmarked column is added to any
  summands_off : (j : ℕ) → Only (marked φ) m (add j)
  summands_off j i h u =
      ⊎_elim (λ (l : m ≤ j). rw (summands_high j l) (bit-zero i))
      (λ (l : j < m). by_test (marked φ j) (λ e. rw (summands-marked j e) (bit-zero i)) (λ e. (summands-right j l e).1 i h u)) (le_or_lt m j)

  -- so where only marked columns of φ are picked, nothing is added
  summands_none : (x : ℕ) → Only (marked φ) m x → (i : ℕ) → unless_zero (bit x i) (add i) ≡ 0
  summands_none x o i =
      ⊎_elim (λ (l : m ≤ i). rw (summands_high i l) (unless_zero_lem (bit x i)))
      (λ (l : i < m).
      by_test (marked φ i) (λ e. rw (summands-marked i e) (unless_zero_lem (bit x i))) (λ e. unless_no (bit x i) (add i) (o i l e))) (le_or_lt m i)

  summands_nil : (j i : ℕ) → unless_zero (bit (add j) i) (add i) ≡ 0
  summands_nil j = summands_none (add j) (summands_off j)

  module _ (n : ℕ) (hm : m ≤ n) where
    small2 : (j : ℕ) → j < n → add j < 2 ^ n
    small2 j h = lt_of_lt_of_le (summands-lt j) (pow_mono hm)

    step2_is : (x : ℕ) → x < 2 ^ n → comb (step2 n m cols) x ≡ bit_xor x (comb (listed add n 0) x)
    unfolding step2
    step2_is x h = adding_is add n small2 summands_nil x h

    step2-lt : (x : ℕ) → x < 2 ^ n → comb (step2 n m cols) x < 2 ^ n
    unfolding step2
    step2-lt x h = adding-lt add n small2 summands_nil x h

    step2_at : (j : ℕ) → j < n → comb (step2 n m cols) (2 ^ j) ≡ bit_xor (2 ^ j) (add j)
    unfolding step2
    step2_at j h = adding_at add n j h

    -- the numbers below 2 ^ m stay among themselves
    step2_low : (x : ℕ) → x < 2 ^ m → comb (step2 n m cols) x < 2 ^ m
    step2_low x h =
        rw (step2_is x (lt_of_lt_of_le h (pow_mono hm)))
        (xor_lt m x (comb (listed add n 0) x) h (listed_lt add m n 0 x (λ j l. summands-lt j)))

    -- the columns from m on stay
    step2_high : (t : ℕ) → t < 2 ^ (n - m) → comb (step2 n m cols) (t * 2 ^ m) ≡ t * 2 ^ m
    step2_high t h =
        step2_is (t * 2 ^ m) (shl_below n m t hm h)
        ∙ ap (bit_xor (t * 2 ^ m)) (sum_none add n (t * 2 ^ m) (none_above add m t summands_high)) ∙ xor_zero_r (t * 2 ^ m)

    -- an unmarked column is zero below afterwards, a marked one is as it was
    step2-unmarked : (j : ℕ) → j < m → marked φ j ≡ false → get_or (phi m (after cols (step2 n m cols))) j 0 ≡ 0
    step2-unmarked j h e =
        let r = summands-right j h e in
        phi_at m (after cols (step2 n m cols)) j h
        ∙ ap (λ (k : ℕ). k / 2 ^ m) (comb-after cols (step2 n m cols) (2 ^ j) ∙ ap (comb cols) (step2_at j (omega arith)) ∙ comb-xor cols (2 ^ j) (add j))
        ∙ xor_shr (comb cols (2 ^ j)) (comb cols (add j)) m
        ∙ ap₂ bit_xor (sym (phi_at m cols j h)) (sym (phi-comb m cols (add j) r.0) ∙ r.2) ∙ xor_self (get_or φ j 0)

    step2-marked : (j : ℕ) → j < m → marked φ j ≡ true → get_or (phi m (after cols (step2 n m cols))) j 0 ≡ get_or φ j 0
    step2-marked j h e =
        phi_at m (after cols (step2 n m cols)) j h
        ∙ ap (λ (k : ℕ). k / 2 ^ m) (comb-after cols (step2 n m cols) (2 ^ j)
        ∙ ap (comb cols) (step2_at j (omega arith) ∙ ap (bit_xor (2 ^ j)) (summands-marked j e) ∙ xor_zero_r (2 ^ j)))
        ∙ sym (phi_at m cols j h)

    -- zero below: exactly the unmarked ones
    step2-zero : (j : ℕ) → j < m → not (zero_column (phi m (after cols (step2 n m cols))) j) ≡ marked φ j
    unfolding zero_column
    step2-zero j h =
        let v = get_or (phi m (after cols (step2 n m cols))) j 0 in
        by_test (marked φ j) (λ e. ap not (ne_eqb v 0 (λ q. marked-nonzero φ m j e (sym (step2-marked j h e) ∙ q))) ∙ sym e)
        (λ e. ap not (eq-eqb v 0 (step2-unmarked j h e)) ∙ sym e)

-- ---- P
module _ (n m : ℕ) (hm : m ≤ n) (cols : List ℕ) where
  abbrev one : List ℕ
  one = after cols (step1 n m cols)

  -- step 1 leaves φ
  phi_one : (s : ℕ) → s < 2 ^ m → comb (phi m one) s ≡ comb (phi m cols) s
  phi_one s h =
      phi-comb m one s h ∙ ap (λ (k : ℕ). k / 2 ^ m) (comb-after cols (step1 n m cols) s ∙ ap (comb cols) (step1_low n m hm cols s h))
      ∙ sym (phi-comb m cols s h)

  marked_one : (j : ℕ) → j < m → marked (phi m one) j ≡ marked (phi m cols) j
  marked_one j h = marked_ext (phi m one) (phi m cols) m j h phi_one

  operations_is : (x : ℕ) → comb (operations n m cols) x ≡ comb (step1 n m cols) (comb (step2 n m one) x)
  unfolding operations
  operations_is x = comb-after (step1 n m cols) (step2 n m one) x

  pub operations-lt : (x : ℕ) → x < 2 ^ n → comb (operations n m cols) x < 2 ^ n
  operations-lt x h = rw (operations_is x) (step1-lt n m hm cols (comb (step2 n m one) x) (step2-lt m one n hm x h))

  pub operations-length : length (operations n m cols) ≡ n
  unfolding operations step2
  operations-length = after-length (step1 n m cols) (step2 n m one) ∙ adding-length (summands m one) n

  -- the numbers below 2 ^ m stay among themselves
  pub operations_low : (x : ℕ) → x < 2 ^ m → comb (operations n m cols) x < 2 ^ m
  operations_low x h =
      let l = step2_low m one n hm x h in
      rw (operations_is x, step1_low n m hm cols (comb (step2 n m one) x) l) l

  -- what is added in step 1 gets nothing in step 2, and the other way round
  unfoldable G1 : ℕ → ℕ
  G1 x = comb (listed (add1 n m hm cols) n 0) x

  unfoldable G2 : ℕ → ℕ
  G2 x = comb (listed (summands m one) n 0) x

  G1_lt : (x : ℕ) → G1 x < 2 ^ m
  unfolding G1
  G1_lt x = listed_lt (add1 n m hm cols) m n 0 x (λ j l. add1_lt n m hm cols j)

  G2_lt : (x : ℕ) → G2 x < 2 ^ m
  unfolding G2
  G2_lt x = listed_lt (summands m one) m n 0 x (λ j l. summands-lt m one j)

  G1_low : (x : ℕ) → x < 2 ^ m → G1 x ≡ 0
  unfolding G1
  G1_low = add1_none n m hm cols

  G2_G1 : (x : ℕ) → x < 2 ^ n → G2 (G1 x) ≡ 0
  unfolding G1 G2
  G2_G1 x h =
      sum_none (summands m one) n (G1 x) (summands_none m one (G1 x) (λ i l e.
      ap (λ (k : ℕ). bit k i) (pair_is (unmarked n m cols) (chosen n m cols) n x (us_asc n m hm cols) h)
      ∙ pair_off (unmarked n m cols) (chosen n m cols) x i (not_chosen i l (sym (marked_one i l) ∙ e))))
    where
      not_chosen : (i : ℕ) → i < m → marked (phi m cols) i ≡ false → All (λ w. i ≡ w → ⊥) (chosen n m cols)
      not_chosen i l e =
          unfold chosen in which_off (λ i. not (reached n m cols i)) m 0 i
          (by_test (not (reached n m cols i)) (λ q. absurd (true≢false (sym (w_marked n m hm cols i l q) ∙ e))) (λ q. q))

  up : {x : ℕ} → x < 2 ^ m → x < 2 ^ n
  up h = lt_of_lt_of_le h (pow_mono hm)

  -- P x = x + G1 x + G2 x
  operations-sum : (x : ℕ) → x < 2 ^ n → comb (operations n m cols) x ≡ bit_xor x (bit_xor (G1 x) (G2 x))
  unfolding G1 G2
  operations-sum x h =
      let y = comb (step2 n m one) x in
      let e : y ≡ bit_xor x (G2 x) = step2_is m one n hm x h in
      operations_is x ∙ step1_is n m hm cols y (step2-lt m one n hm x h)
      ∙ ap₂ bit_xor e (ap G1 e ∙ comb-xor (listed (add1 n m hm cols) n 0) x (G2 x) ∙ ap (bit_xor (G1 x)) (G1_low (G2 x) (G2_lt x)) ∙ xor_zero_r (G1 x))
      ∙ xor_assoc x (G2 x) (G1 x) ∙ ap (bit_xor x) (xor_comm (G2 x) (G1 x))

  -- P undoes itself
  pub operations_twice : (x : ℕ) → x < 2 ^ n → comb (operations n m cols) (comb (operations n m cols) x) ≡ x
  unfolding G1 G2
  operations_twice x h =
      let q = bit_xor (G1 x) (G2 x) in
      let lq : q < 2 ^ m = xor_lt m (G1 x) (G2 x) (G1_lt x) (G2_lt x) in
      let g1 : G1 q ≡ 0 = G1_low q lq in
      let g2 : G2 q ≡ 0 = comb-xor (listed (summands m one) n 0) (G1 x) (G2 x) ∙ ap₂ bit_xor (G2_G1 x h) (G2_G2 x) in
      ap (comb (operations n m cols)) (operations-sum x h) ∙ comb-xor (operations n m cols) x q
      ∙ ap₂ bit_xor (operations-sum x h) (operations-sum q (up lq) ∙ ap (bit_xor q) (ap₂ bit_xor g1 g2) ∙ xor_zero_r q) ∙ xor_cancel_r x q
    where
      G2_G2 : (x : ℕ) → G2 (G2 x) ≡ 0
      G2_G2 x = twice_zero (summands m one) n (λ j l. lt_of_lt_of_le (summands-lt m one j) (pow_mono hm)) (summands_nil m one) x

  -- so P⁻¹ is P
  pub operations-inverse : columns n (inverse n (columns n (operations n m cols))) ≡ operations n m cols
  operations-inverse = own_inverse n (operations n m cols) operations-lt operations_twice operations-length

  -- A P, as A with step 1 and then step 2
  moved_is : (x : ℕ) → comb (after cols (operations n m cols)) x ≡ comb (after one (step2 n m one)) x
  moved_is x =
      comb-after cols (operations n m cols) x ∙ ap (comb cols) (operations_is x)
      ∙ sym (comb-after one (step2 n m one) x ∙ comb-after cols (step1 n m cols) (comb (step2 n m one) x))

  phi_moved : (j : ℕ) → j < m → get_or (phi m (after cols (operations n m cols))) j 0 ≡ get_or (phi m (after one (step2 n m one))) j 0
  phi_moved j h =
      phi_at m (after cols (operations n m cols)) j h ∙ ap (λ (k : ℕ). k / 2 ^ m) (moved_is (2 ^ j)) ∙ sym (phi_at m (after one (step2 n m one)) j h)

  -- the nonzero columns of φ in A P are those marked in A
  pub moved_zero : (j : ℕ) → j < m → not (zero_column (phi m (after cols (operations n m cols))) j) ≡ marked (phi m cols) j
  unfolding zero_column
  moved_zero j h = ap (λ (k : ℕ). not (eqb k 0)) (phi_moved j h) ∙ step2-zero m one n hm j h ∙ marked_one j h

  -- and number rank φ
  pub moved_rank : length (which (λ j. not (zero_column (phi m (after cols (operations n m cols))) j)) m 0) ≡ rank (phi m cols) m
  moved_rank =
      ap length (which_ext (λ j. not (zero_column (phi m (after cols (operations n m cols))) j)) (marked (phi m cols)) m 0 (λ i a b. moved_zero i (omega arith)))
      ∙ sym (rank-which (phi m cols) m)

  -- δ of A P is δ after step 1
  pub delta_moved : (t : ℕ) → t < 2 ^ (n - m) → comb (delta m (after cols (operations n m cols))) t ≡ comb (delta m one) t
  delta_moved t h =
      delta-comb m (after cols (operations n m cols)) t
      ∙ ap (λ (k : ℕ). k / 2 ^ m) (moved_is (t * 2 ^ m) ∙ comb-after one (step2 n m one) (t * 2 ^ m) ∙ ap (comb one) (step2_high m one n hm t h))
      ∙ sym (delta-comb m one t)
