-- What do the entries of an elimination reduce to zero? Assumes nothing.
use mathlib.Core.Path.{◌∙◌, ◌≡◌, ap, ap₂, refl, sym}
use mathlib.Core.Bool.{false, true}
use mathlib.Core.List.{List, []}
use Prim.Native.Nat.{◌<◌, ◌^◌, suc, zero, ℕ}
use native.Mathlib.Nat.{le_refl, le-suc, le_trans, lt_of_lt_of_le, not-suc-le-zero}
use lib.Pow.{pow_mono, pow_pos}
use lib.ListN.{get_or}
use lib.Bits.{bit_xor, xor_lt, xor_self, xor_zero_r}
use Rattle.algebra.proofs.Digits.{bit-lt, bit-xor, bit-zero, unless_add, unless_lt, unless_zero_lem, xor_assoc, xor4}
use Rattle.algebra.proofs.Kernel.{marked_intro, unmarked_intro}
use Rattle.algebra.proofs.Linear.{Linear, comb_linear, comb_one, linear_after, linear_ext, linear_unless}
use Rattle.algebra.proofs.Search.{below_suc}
use Rattle.algebra.specs.Elimination.{Echelon, rest, used}
use Rattle.algebra.specs.Matrix.{marked}
use Rattle.algebra.specs.Vector.{bit, comb, unless_zero}

module _ (ws qs : List ℕ) where
  rest-zero : (k : ℕ) → rest ws qs k 0 ≡ 0
  unfolding rest unless_zero
  rest-zero zero = refl
  rest-zero (suc k) =
      ap (λ (u : ℕ). bit_xor u (unless_zero (bit u (get_or qs k 0)) (get_or ws k 0))) (rest-zero k)
      ∙ ap (λ (d : ℕ). unless_zero d (get_or ws k 0)) (bit-zero (get_or qs k 0))

  rest-xor : (k x y : ℕ) → rest ws qs k (bit_xor x y) ≡ bit_xor (rest ws qs k x) (rest ws qs k y)
  unfolding rest
  rest-xor zero x y = refl
  rest-xor (suc k) x y =
      let u = rest ws qs k x in
      let v = rest ws qs k y in
      let q = get_or qs k 0 in
      let w = get_or ws k 0 in
      ap (λ (a : ℕ). bit_xor a (unless_zero (bit a q) w)) (rest-xor k x y)
      ∙ ap (bit_xor (bit_xor u v)) (ap (λ (d : ℕ). unless_zero d w) (bit-xor u v q) ∙ unless_add (bit u q) (bit v q) w (bit-lt u q) (bit-lt v q))
      ∙ xor4 u v (unless_zero (bit u q) w) (unless_zero (bit v q) w)

  pub rest_linear : (k : ℕ) → Linear (rest ws qs k)
  rest_linear k = record { none = rest-zero k; sum = rest-xor k }

  -- a linear function goes through the sum
  used_through : (g : ℕ → ℕ) → Linear g → (ts us : List ℕ) (k v : ℕ) → ((i : ℕ) → i < k → g (get_or ts i 0) ≡ get_or us i 0)
      → g (used ws qs ts k v) ≡ used ws qs us k v
  unfolding used
  used_through g l ts us zero v h = l.none
  used_through g l ts us (suc k) v h =
      let d = bit (rest ws qs k v) (get_or qs k 0) in
      l.sum (used ws qs ts k v) (unless_zero d (get_or ts k 0))
      ∙ ap₂ bit_xor (used_through g l ts us k v (λ i p. h i (le_trans p (le-suc k))))
      (linear_unless g l d (get_or ts k 0) ∙ ap (unless_zero d) (h k (le_refl (suc k))))

  used_none : (k v : ℕ) → used ws qs [] k v ≡ 0
  unfolding used
  used_none zero v = refl
  used_none (suc k) v = ap₂ bit_xor (used_none k v) (unless_zero_lem (bit (rest ws qs k v) (get_or qs k 0)))

  -- the rest is v and the entries that were added
  rest-used : (k v : ℕ) → rest ws qs k v ≡ bit_xor v (used ws qs ws k v)
  unfolding rest used
  rest-used zero v = sym (xor_zero_r v)
  rest-used (suc k) v =
      let a = unless_zero (bit (rest ws qs k v) (get_or qs k 0)) (get_or ws k 0) in
      ap (λ (u : ℕ). bit_xor u a) (rest-used k v) ∙ xor_assoc v (used ws qs ws k v) a

  used-lt : (ts : List ℕ) (j k v : ℕ) → ((i : ℕ) → i < k → get_or ts i 0 < 2 ^ j) → used ws qs ts k v < 2 ^ j
  unfolding used
  used-lt ts j zero v h = pow_pos j
  used-lt ts j (suc k) v h =
      let d = bit (rest ws qs k v) (get_or qs k 0) in
      xor_lt j (used ws qs ts k v) (unless_zero d (get_or ts k 0)) (used-lt ts j k v (λ i p. h i (le_trans p (le-suc k))))
      (unless_lt j d (get_or ts k 0) (h k (le_refl (suc k))))

  -- where the entries reduce to zero, what is reduced stays
  pub rest-rest : (k v : ℕ) → ((i : ℕ) → i < k → rest ws qs k (get_or ws i 0) ≡ 0) → rest ws qs k (rest ws qs k v) ≡ rest ws qs k v
  rest-rest k v h =
      ap (rest ws qs k) (rest-used k v) ∙ rest-xor k v (used ws qs ws k v)
      ∙ ap (bit_xor (rest ws qs k v)) (used_through (rest ws qs k) (rest_linear k) ws [] k v h ∙ used_none k v)
      ∙ xor_zero_r (rest ws qs k v)

-- only the first k entries count
pub rest_same : (ws qs ws' qs' : List ℕ) (k v : ℕ) → ((i : ℕ) → i < k → get_or ws' i 0 ≡ get_or ws i 0)
    → ((i : ℕ) → i < k → get_or qs' i 0 ≡ get_or qs i 0) → rest ws' qs' k v ≡ rest ws qs k v
unfolding rest
rest_same ws qs ws' qs' zero v hw hq = refl
rest_same ws qs ws' qs' (suc k) v hw hq =
    let e = rest_same ws qs ws' qs' k v (λ i p. hw i (le_trans p (le-suc k))) (λ i p. hq i (le_trans p (le-suc k))) in
    let a = hw k (le_refl (suc k)) in
    let b = hq k (le_refl (suc k)) in
    cc (e, a, b)

-- a linear function that sends the first j columns to zero sends what they span to zero
pub span_zero : (g : ℕ → ℕ) → Linear g → (cols : List ℕ) (j s : ℕ)
    → ((i : ℕ) → i < j → g (get_or cols i 0) ≡ 0) → s < 2 ^ j → g (comb cols s) ≡ 0
span_zero g l cols j s h p =
    linear_ext (λ t. g (comb cols t)) (λ t. 0) (linear_after g (comb cols) l (comb_linear cols)) (record { none = refl; sum = λ x y. refl }) j
    (λ i q. ap g (comb_one cols i) ∙ h i q) s p

-- what the entries of an echelon leave of a vector, and which columns they use
abbrev pub rest_of : Echelon → ℕ → ℕ
rest_of e v = rest e.vectors e.pivots e.count v

abbrev pub used_of : Echelon → ℕ → ℕ
used_of e v = used e.vectors e.pivots e.tags e.count v

-- what the first j columns have made
pub record Basis (cols : List ℕ) (j : ℕ) (ws qs ts : List ℕ) (k : ℕ) : Type 0 where
  pub sum : (i : ℕ) → i < k → comb cols (get_or ts i 0) ≡ get_or ws i 0
  pub tag_lt : (i : ℕ) → i < k → get_or ts i 0 < 2 ^ j
  pub own : (i : ℕ) → i < k → rest ws qs k (get_or ws i 0) ≡ 0
  pub span : (i : ℕ) → i < j → rest ws qs k (get_or cols i 0) ≡ 0

pub start : (cols ws qs ts : List ℕ) → Basis cols 0 ws qs ts 0
start cols ws qs ts = record {
  sum = λ i h. absurd (not-suc-le-zero h);
  tag_lt = λ i h. absurd (not-suc-le-zero h);
  own = λ i h. absurd (not-suc-le-zero h);
  span = λ i h. absurd (not-suc-le-zero h);
}

module _ (cols : List ℕ) (j : ℕ) (ws qs ts : List ℕ) (k : ℕ) (b : Basis cols j ws qs ts k) where
  -- v is the rest and the columns that were used
  pub solved : (v : ℕ) → bit_xor (rest ws qs k v) (comb cols (used ws qs ts k v)) ≡ v
  solved v =
      ap₂ bit_xor (rest-used ws qs k v) (used_through ws qs (comb cols) (comb_linear cols) ts ws k v b.sum)
      ∙ xor_assoc v (used ws qs ws k v) (used ws qs ws k v) ∙ ap (bit_xor v) (xor_self (used ws qs ws k v)) ∙ xor_zero_r v

  pub solved_zero : (v : ℕ) → rest ws qs k v ≡ 0 → comb cols (used ws qs ts k v) ≡ v
  solved_zero v e = sym (ap (λ (u : ℕ). bit_xor u (comb cols (used ws qs ts k v))) e) ∙ solved v

  pub used_below : (v : ℕ) → used ws qs ts k v < 2 ^ j
  used_below v = used-lt ws qs ts j k v b.tag_lt

  pub spanned : (s : ℕ) → s < 2 ^ j → rest ws qs k (comb cols s) ≡ 0
  spanned s h = span_zero (rest ws qs k) (rest_linear ws qs k) cols j s b.span h

  -- column j is marked exactly where its rest is not zero
  pub rest→marked : (rest ws qs k (get_or cols j 0) ≡ 0 → ⊥) → marked cols j ≡ true
  rest→marked f = marked_intro cols j (λ s h e. f (ap (rest ws qs k) (sym e) ∙ spanned s h))

  pub rest→unmarked : rest ws qs k (get_or cols j 0) ≡ 0 → marked cols j ≡ false
  rest→unmarked e = unmarked_intro cols j (used ws qs ts k (get_or cols j 0)) (used_below (get_or cols j 0)) (solved_zero (get_or cols j 0) e)

  -- nothing is inserted where the rest is zero
  pub skip : rest ws qs k (get_or cols j 0) ≡ 0 → Basis cols (suc j) ws qs ts k
  skip e = record {
    sum = b.sum;
    tag_lt = λ i h. lt_of_lt_of_le (b.tag_lt i h) (pow_mono (le-suc j));
    own = b.own;
    span = below_suc (λ (i : ℕ). rest ws qs k (get_or cols i 0) ≡ 0) j b.span e;
  }
