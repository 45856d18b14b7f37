-- Why is the pairing of step 1 total, and δ nonsingular after it? Assumes nothing.
use mathlib.Core.Path.{◌∙◌, ◌≡◌, ap, ap₂, refl, subst, sym}
use mathlib.Core.Bool.{Bool, ◌&&◌, false, not, true, true≢false, cond}
use mathlib.Core.List.{List, [], ◌∷◌}
use Prim.Native.Nat.{◌%◌, ◌*◌, ◌+◌, ◌-◌, ◌/◌, ◌<◌, ◌^◌, ◌≤◌, suc, ℕ}
use native.Mathlib.Nat.{le_antisymm, le_refl, lt_of_lt_of_le, mod-lt, zero-add}
use native.Mathlib.Omega.{arith}
use lib.Arith.{digits_lt}
use lib.Pow.{high, low, pow-add, pow-lt, pow_mono, pow_pos, shl-shr, shr_lt, split}
use lib.Dec.{eqb}
use lib.ListN.{get_or, length, length-map}
use lib.Bits.{bit_xor, xor_comm, xor_lt, xor_self, xor_shr, xor_zero_r}
use borrow.Author.Tests.{eq-eqb, eqb-false, eqb-true, ne_eqb, not-false, not-true}
use Rattle.algebra.proofs.Digits.{bit-lt, bit-pow, bit-pow_other, bit_shl, bit_unless, bit-xor, bit-zero, shl_below, shr_below, unless_no}
use Rattle.algebra.proofs.Digits.{unless_add, unless_one, unless_zero_lem, xor_assoc, xor_cancel_r, xor-eq, xor-move, xor4}
use Rattle.algebra.proofs.Kernel.{unmarked_elim}
use Rattle.algebra.proofs.Linear.{comb_inj, comb_linear, comb_one, comb-xor, comb-zero, linear_ext, listed_lt, none_below, sum_none, comb-after}
use Rattle.algebra.proofs.Listed.{listed_at, which_asc, which_from, which_member, which_not, which_off, which_upto}
use Rattle.algebra.proofs.Lists.{All, Asc, all_map, all_mono, all_unmap, asc_shift, off_above}
use Rattle.algebra.proofs.Pigeon.{covers, span_le}
use Rattle.algebra.proofs.Search.{and_r, any_elim, any_intro, by_test}
use Rattle.algebra.specs.Matrix.{marked, after}
use Rattle.algebra.specs.Search.{listed, any_below, which}
use Rattle.algebra.specs.Vector.{bit, comb, unless_zero}
use Rattle.planning.proofs.Acts.{adding_is, adding-lt}
use Rattle.planning.proofs.Dimension.{spread, spread_all, spread_inj, spread_lt, spread_only}
use Rattle.planning.proofs.Marks.{Only, indep, marks_indep, marks_span, only_intro, only_xor, spans}
use Rattle.planning.proofs.Parts.{delta-comb, lower_parts, phi-comb}
use Rattle.planning.specs.Columns.{delta, only_marked, phi}
use Rattle.planning.specs.Making.{chosen, partner, reached, step1, unmarked}

-- ---- pairs: what is added, as one sum
pub pairsum : List ℕ → List ℕ → ℕ → ℕ
pairsum [] ws x = 0
pairsum (u ∷ us) [] x = 0
pairsum (u ∷ us) (w ∷ ws) x = bit_xor (unless_zero (bit x u) (2 ^ w)) (pairsum us ws x)

pair_none : (us ws : List ℕ) → pairsum us ws 0 ≡ 0
unfolding pairsum
pair_none [] ws = refl
pair_none (u ∷ us) [] = refl
pair_none (u ∷ us) (w ∷ ws) = ap₂ bit_xor (ap (λ (d : ℕ). unless_zero d (2 ^ w)) (bit-zero u) ∙ unless_no 0 (2 ^ w) refl) (pair_none us ws)

pair_xor : (us ws : List ℕ) (x y : ℕ) → pairsum us ws (bit_xor x y) ≡ bit_xor (pairsum us ws x) (pairsum us ws y)
unfolding pairsum
pair_xor [] ws x y = refl
pair_xor (u ∷ us) [] x y = refl
pair_xor (u ∷ us) (w ∷ ws) x y =
    ap₂ bit_xor (ap (λ (d : ℕ). unless_zero d (2 ^ w)) (bit-xor x y u) ∙ unless_add (bit x u) (bit y u) (2 ^ w) (bit-lt x u) (bit-lt y u)) (pair_xor us ws x y)
    ∙ xor4 (unless_zero (bit x u) (2 ^ w)) (unless_zero (bit y u) (2 ^ w)) (pairsum us ws x) (pairsum us ws y)

pair_out : (us ws : List ℕ) (j : ℕ) → All (λ u. j ≡ u → ⊥) us → pairsum us ws (2 ^ j) ≡ 0
unfolding pairsum
pair_out [] ws j h = refl
pair_out (u ∷ us) [] j h = refl
pair_out (u ∷ us) (w ∷ ws) j h =
    ap₂ bit_xor (ap (λ (d : ℕ). unless_zero d (2 ^ w)) (bit-pow_other j u (λ e. h.0 (sym e))) ∙ unless_no 0 (2 ^ w) refl) (pair_out us ws j h.1)

unless_on : (v : ℕ) → unless_zero 1 v ≡ v
unfolding unless_zero
unless_on v = refl

pair_at : (us ws : List ℕ) (j : ℕ) → Asc us → pairsum us ws (2 ^ j) ≡ partner us ws j
unfolding pairsum partner
pair_at [] ws j a = refl
pair_at (u ∷ us) [] j a = refl
pair_at (u ∷ us) (w ∷ ws) j a =
    by_test (eqb j u)
    (λ e.
    let q : j ≡ u = eqb-true j u e in
    ap₂ bit_xor (ap (λ (k : ℕ). unless_zero (bit (2 ^ k) u) (2 ^ w)) q ∙ ap (λ (d : ℕ). unless_zero d (2 ^ w)) (bit-pow u) ∙ unless_on (2 ^ w))
    (pair_out us ws j (off_above j (suc u) us (omega arith) a.0)) ∙ xor_zero_r (2 ^ w) ∙ sym (rw (partner, e) refl))
    (λ e. ap₂ bit_xor (ap (λ (d : ℕ). unless_zero d (2 ^ w)) (bit-pow_other j u (λ r. eqb-false j u e (sym r))) ∙ unless_no 0 (2 ^ w) refl)
    (pair_at us ws j a.1) ∙ sym (rw (partner, e) refl))

pub pair_is : (us ws : List ℕ) (n x : ℕ) → Asc us → x < 2 ^ n → comb (listed (partner us ws) n 0) x ≡ pairsum us ws x
pair_is us ws n x a h =
    let l = listed (partner us ws) n 0 in
    linear_ext (comb l) (pairsum us ws) (comb_linear l) (record { none = pair_none us ws; sum = pair_xor us ws }) n
    (λ j h. comb_one l j ∙ listed_at 0 (partner us ws) n 0 j h ∙ ap (partner us ws) (zero-add j) ∙ sym (pair_at us ws j a)) x h

pub pair_off : (us ws : List ℕ) (x i : ℕ) → All (λ w. i ≡ w → ⊥) ws → bit (pairsum us ws x) i ≡ 0
unfolding pairsum
pair_off [] ws x i h = bit-zero i
pair_off (u ∷ us) [] x i h = bit-zero i
pair_off (u ∷ us) (w ∷ ws) x i h =
    bit-xor (unless_zero (bit x u) (2 ^ w)) (pairsum us ws x) i
    ∙ ap₂ bit_xor (bit_unless (bit x u) (2 ^ w) i ∙ ap (unless_zero (bit x u)) (bit-pow_other w i h.0) ∙ unless_zero_lem (bit x u)) (pair_off us ws x i h.1)

-- where the pairing is total, a sum that is zero adds nothing
pair_zero : (us ws : List ℕ) (x : ℕ) → length us ≡ length ws → Asc ws → pairsum us ws x ≡ 0 → All (λ u. bit x u ≡ 0) us
unfolding pairsum
pair_zero [] ws x l a e = tt
pair_zero (u ∷ us) [] x l a e = absurd (omega (arith, l))
pair_zero (u ∷ us) (w ∷ ws) x l a e =
    let d : bit x u ≡ 0
    = sym (bit-xor (unless_zero (bit x u) (2 ^ w)) (pairsum us ws x) w
    ∙ ap₂ bit_xor (bit_unless (bit x u) (2 ^ w) w ∙ ap (unless_zero (bit x u)) (bit-pow w) ∙ unless_one (bit x u) (bit-lt x u))
    (pair_off us ws x w (off_above w (suc w) ws (omega arith) a.0)) ∙ xor_zero_r (bit x u))
    ∙ ap (λ (k : ℕ). bit k w) e ∙ bit-zero w in (
      d,
      pair_zero us ws x (omega (arith, l)) a.1
          (sym (ap (λ (k : ℕ). bit_xor k (pairsum us ws x)) (ap (λ (k : ℕ). unless_zero k (2 ^ w)) d ∙ unless_no 0 (2 ^ w) refl)) ∙ e),
    )

-- ---- what is added
pub partner_low : (us ws : List ℕ) (m i : ℕ) → All (λ u. m ≤ u) us → i < m → partner us ws i ≡ 0
unfolding partner
partner_low [] ws m i h l = refl
partner_low (u ∷ us) [] m i h l = refl
partner_low (u ∷ us) (w ∷ ws) m i h l =
    rw (partner, ne_eqb i u (λ q. omega (arith, q, h.0))) (partner_low us ws m i h.1 l)

partner-lt : (us ws : List ℕ) (m j : ℕ) → All (λ w. w < m) ws → partner us ws j < 2 ^ m
unfolding partner
partner-lt [] ws m j h = pow_pos m
partner-lt (u ∷ us) [] m j h = pow_pos m
partner-lt (u ∷ us) (w ∷ ws) m j h = go (eqb j u) (partner-lt us ws m j h.1)
  where
    go : (x : Bool) → partner us ws j < 2 ^ m → cond x (2 ^ w) (partner us ws j) < 2 ^ m
    go true l = pow-lt h.0
    go false l = l

-- ---- step 1, of any matrix
module _ (n m : ℕ) (hm : m ≤ n) (cols : List ℕ) where
  abbrev δ : List ℕ
  δ = delta m cols

  abbrev φ : List ℕ
  φ = phi m cols

  -- the columns of φ that are in W, and those of δ that are unmarked
  abbrev W : ℕ → Bool
  W i = not (reached n m cols i)

  abbrev free : ℕ → Bool
  free u = not (marked δ u)

  abbrev pub add1 : ℕ → ℕ
  add1 = partner (unmarked n m cols) (chosen n m cols)

  us_high : All (λ u. m ≤ u) (unmarked n m cols)
  unfolding unmarked
  us_high =
      all_map (λ u. m ≤ u) (λ u. m + u) (which free (n - m) 0)
      (all_mono (λ x. 0 ≤ x) (λ x. m ≤ m + x) (λ x q. omega arith) (which free (n - m) 0) (which_from free (n - m) 0))

  pub us_asc : Asc (unmarked n m cols)
  unfolding unmarked
  us_asc = asc_shift m (which free (n - m) 0) (which_asc free (n - m) 0)

  ws_low : All (λ w. w < m) (chosen n m cols)
  unfolding chosen
  ws_low = which_upto W m 0 m (omega arith)

  ws_asc : Asc (chosen n m cols)
  unfolding chosen
  ws_asc = which_asc W m 0

  pub add1_lt : (j : ℕ) → add1 j < 2 ^ m
  add1_lt j = partner-lt (unmarked n m cols) (chosen n m cols) m j ws_low

  add1_low : (i : ℕ) → i < m → add1 i ≡ 0
  add1_low i h = partner_low (unmarked n m cols) (chosen n m cols) m i us_high h

  add1_nil : (j i : ℕ) → unless_zero (bit (add1 j) i) (add1 i) ≡ 0
  add1_nil j i = none_below add1 m (add1 j) add1_low (add1_lt j) i

  add1_small : (j : ℕ) → j < n → add1 j < 2 ^ n
  add1_small j h = lt_of_lt_of_le (add1_lt j) (pow_mono hm)

  pub step1_is : (x : ℕ) → x < 2 ^ n → comb (step1 n m cols) x ≡ bit_xor x (comb (listed add1 n 0) x)
  unfolding step1
  step1_is x h = adding_is add1 n add1_small add1_nil x h

  pub step1-lt : (x : ℕ) → x < 2 ^ n → comb (step1 n m cols) x < 2 ^ n
  unfolding step1
  step1-lt x h = adding-lt add1 n add1_small add1_nil x h

  -- the columns below m stay
  pub add1_none : (x : ℕ) → x < 2 ^ m → comb (listed add1 n 0) x ≡ 0
  add1_none x h = sum_none add1 n x (none_below add1 m x add1_low h)

  pub step1_low : (x : ℕ) → x < 2 ^ m → comb (step1 n m cols) x ≡ x
  step1_low x h = step1_is x (lt_of_lt_of_le h (pow_mono hm)) ∙ ap (bit_xor x) (add1_none x h) ∙ xor_zero_r x

  -- ---- reached
  abbrev hits : ℕ → ℕ → ℕ → Bool
  hits i s t = eqb (bit_xor (comb δ s) (comb φ t)) (get_or φ i 0)

  pub reached_elim : (i : ℕ) → reached n m cols i ≡ true
      → (s : ℕ) × (t : ℕ) × (s < 2 ^ (n - m)) × (t < 2 ^ i) × (bit_xor (comb δ s) (comb φ t) ≡ get_or φ i 0)
  unfolding reached
  reached_elim i e =
      let a = any_elim (λ s. only_marked δ (n - m) s && any_below (hits i s) (2 ^ i)) (2 ^ (n - m)) e in
      let b = any_elim (hits i a.0) (2 ^ i) (and_r (only_marked δ (n - m) a.0) (any_below (hits i a.0) (2 ^ i)) a.2) in
      (a.0, b.0, a.1, b.1, eqb-true (bit_xor (comb δ a.0) (comb φ b.0)) (get_or φ i 0) b.2)

  -- any sum of δ columns will do: it is one of marked ones
  pub reached_intro : (i s t : ℕ) → s < 2 ^ (n - m) → t < 2 ^ i → bit_xor (comb δ s) (comb φ t) ≡ get_or φ i 0 → reached n m cols i ≡ true
  unfolding reached
  reached_intro i s t hs ht e =
      let z = marks_span δ (n - m) (n - m) s (le_refl (n - m)) hs in
      any_intro (λ s. only_marked δ (n - m) s && any_below (hits i s) (2 ^ i)) (2 ^ (n - m)) z.0 z.1
      (ap₂ ◌&&◌ (only_intro δ (n - m) z.0 z.2) (any_intro (hits i z.0) (2 ^ i) t ht
      (eq-eqb (bit_xor (comb δ z.0) (comb φ t)) (get_or φ i 0) (ap (λ (k : ℕ). bit_xor k (comb φ t)) z.3 ∙ e))))

  -- sums of δ columns
  abbrev InDelta : ℕ → Type 0
  InDelta x = (t : ℕ) × (t < 2 ^ (n - m)) × (comb δ t ≡ x)

  in_none : InDelta 0
  in_none = (0, pow_pos (n - m), comb-zero δ)

  in_xor : (x y : ℕ) → InDelta x → InDelta y → InDelta (bit_xor x y)
  in_xor x y a b = (bit_xor a.0 b.0, xor_lt (n - m) a.0 b.0 a.1 b.1, comb-xor δ a.0 b.0 ∙ ap₂ bit_xor a.2 b.2)

  w_off : (j : ℕ) → j < m → W j ≡ false → (s : ℕ) × (s < 2 ^ j) × InDelta (bit_xor (comb φ s) (get_or φ j 0))
  w_off j h e =
      let r = reached_elim j (not-false (reached n m cols j) e) in
      (r.1, r.3, (r.0, r.2, xor-move (comb δ r.0) (comb φ r.1) (get_or φ j 0) r.4 ∙ xor_comm (get_or φ j 0) (comb φ r.1)))

  w_on : (j s : ℕ) → j < m → W j ≡ true → s < 2 ^ j → InDelta (bit_xor (comb φ s) (get_or φ j 0)) → ⊥
  w_on j s h e l r =
      true≢false (sym (reached_intro j r.0 s r.1 l
      (ap (λ (k : ℕ). bit_xor k (comb φ s)) (r.2 ∙ xor_comm (comb φ s) (get_or φ j 0)) ∙ xor_cancel_r (get_or φ j 0) (comb φ s)))
      ∙ not-true (reached n m cols j) e)

  -- a sum of W columns that is a sum of δ columns is the empty one
  w_indep : (z : ℕ) → z < 2 ^ m → Only W m z → InDelta (comb φ z) → z ≡ 0
  w_indep z h o r = indep φ W InDelta in_none in_xor m w_off w_on m z (le_refl m) h o r

  -- every sum of φ columns is one of W columns and δ columns
  w_span : (s : ℕ) → s < 2 ^ m → (z : ℕ) × (z < 2 ^ m) × Only W m z × InDelta (bit_xor (comb φ z) (comb φ s))
  w_span s h = spans φ W InDelta in_none in_xor m w_off w_on m s (le_refl m) h

  -- a W column is marked in φ
  pub w_marked : (j : ℕ) → j < m → W j ≡ true → marked φ j ≡ true
  w_marked j h e =
      by_test (marked φ j) (λ q. q) (λ q.
      let t = unmarked_elim φ j q in
      absurd (w_on j t.0 h e t.1 (rw (t.2, xor_self (get_or φ j 0)) in_none)))

  -- ---- of a nonsingular matrix
  module _ (small : (y : ℕ) → comb cols y < 2 ^ n) (regular : (z : ℕ) → z < 2 ^ n → comb cols z ≡ 0 → z ≡ 0) where
    -- the lower part takes every value
    lower_onto : (y : ℕ) → y < 2 ^ (n - m) → (x : ℕ) × (x < 2 ^ n) × (comb cols x / 2 ^ m ≡ y)
    lower_onto y h =
        let inj = comb_inj cols n regular in
        let t = covers (2 ^ n) (comb cols) (λ i l. small i) (λ i j l q e. omega (arith, inj i j (omega arith) q e)) (y * 2 ^ m) (shl_below n m y hm h) in
        (t.0, t.1, ap (λ (k : ℕ). k / 2 ^ m) t.2 ∙ shl-shr y m)

    lower-lt : (x : ℕ) → comb cols x / 2 ^ m < 2 ^ (n - m)
    lower-lt x = shr_below n m (comb cols x) hm (small x)

    abbrev cm : ℕ
    cm = length (which (marked δ) (n - m) 0)

    abbrev cw : ℕ
    cw = length (which W m 0)

    a_of : ℕ → ℕ
    a_of z = spread (marked δ) (n - m) (z % 2 ^ cm)

    b_of : ℕ → ℕ
    b_of z = spread W m (z / 2 ^ cm)

    -- marked δ columns and W columns, as z picks them
    both : ℕ → ℕ
    both z = bit_xor (comb δ (a_of z)) (comb φ (b_of z))

    both_lt : (z : ℕ) → both z < 2 ^ (n - m)
    unfolding both a_of b_of
    both_lt z =
        xor_lt (n - m) (comb δ (a_of z)) (comb φ (b_of z))
        (rw (delta-comb m cols (a_of z)) (lower-lt (a_of z * 2 ^ m)))
        (rw (phi-comb m cols (b_of z) (spread_lt W m (z / 2 ^ cm))) (lower-lt (b_of z)))

    mod_same : (x y : ℕ) → x % 2 ^ cm ≡ y % 2 ^ cm → x / 2 ^ cm ≡ y / 2 ^ cm → x ≡ y
    mod_same x y p q = sym (split x cm) ∙ ap₂ (λ (u v : ℕ). u * 2 ^ cm + v) q p ∙ split y cm

    both_inj : (x y : ℕ) → x < 2 ^ (cw + cm) → y < 2 ^ (cw + cm) → both x ≡ both y → x ≡ y
    unfolding both a_of b_of
    both_inj x y hx hy e =
        let ax = a_of x in
        let ay = a_of y in
        let bx = b_of x in
        let by = b_of y in
        let la : (z : ℕ) → a_of z < 2 ^ (n - m) = λ z. spread_lt (marked δ) (n - m) (z % 2 ^ cm) in
        let lb : (z : ℕ) → b_of z < 2 ^ m = λ z. spread_lt W m (z / 2 ^ cm) in
        let sum : bit_xor (comb δ (bit_xor ax ay)) (comb φ (bit_xor bx by)) ≡ 0
        = ap₂ bit_xor (comb-xor δ ax ay) (comb-xor φ bx by)
        ∙ xor4 (comb δ ax) (comb δ ay) (comb φ bx) (comb φ by)
        ∙ ap (λ (k : ℕ). bit_xor k (both y)) e ∙ xor_self (both y) in
        let same : comb δ (bit_xor ax ay) ≡ comb φ (bit_xor bx by) = xor-eq (comb δ (bit_xor ax ay)) (comb φ (bit_xor bx by)) sum in
        let b0 : bit_xor bx by ≡ 0
        = w_indep (bit_xor bx by) (xor_lt m bx by (lb x) (lb y))
        (only_xor W m bx by (spread_only W m (x / 2 ^ cm)) (spread_only W m (y / 2 ^ cm)))
        (bit_xor ax ay, xor_lt (n - m) ax ay (la x) (la y), same) in
        let a0 : bit_xor ax ay ≡ 0
        = marks_indep δ (n - m) (bit_xor ax ay) (xor_lt (n - m) ax ay (la x) (la y))
        (only_xor (marked δ) (n - m) ax ay (spread_only (marked δ) (n - m) (x % 2 ^ cm)) (spread_only (marked δ) (n - m) (y % 2 ^ cm)))
        (same ∙ ap (comb φ) b0 ∙ comb-zero φ) in
        mod_same x y
        (spread_inj (marked δ) (n - m) (x % 2 ^ cm) (y % 2 ^ cm) (mod-lt x (pow_pos cm)) (mod-lt y (pow_pos cm)) (xor-eq ax ay a0))
        (spread_inj W m (x / 2 ^ cm) (y / 2 ^ cm) (shr_lt cw cm hx) (shr_lt cw cm hy) (xor-eq bx by b0))

    both_onto : (y : ℕ) → y < 2 ^ (n - m) → (z : ℕ) × (z < 2 ^ (cw + cm)) × (both z ≡ y)
    unfolding both a_of b_of
    both_onto y h =
        let x = lower_onto y h in
        let w = w_span (x.0 % 2 ^ m) (mod-lt x.0 (pow_pos m)) in
        let t = w.3 in
        let u = bit_xor t.0 (x.0 / 2 ^ m) in
        let lu : u < 2 ^ (n - m) = xor_lt (n - m) t.0 (x.0 / 2 ^ m) t.1 (shr_below n m x.0 hm x.1) in
        let v = marks_span δ (n - m) (n - m) u (le_refl (n - m)) lu in
        let za = spread_all (marked δ) (n - m) v.0 v.1 v.2 in
        let zb = spread_all W m w.0 w.1 w.2 in (
          zb.0 * 2 ^ cm + za.0,
          subst (λ (k : ℕ). zb.0 * 2 ^ cm + za.0 < k) (sym (pow-add 2 cw cm)) (digits_lt zb.1 za.1),
          ap₂ (λ (p q : ℕ). bit_xor (comb δ (spread (marked δ) (n - m) p)) (comb φ (spread W m q))) (low zb.0 cm za.1) (high zb.0 cm za.1)
              ∙ ap₂ (λ (p q : ℕ). bit_xor (comb δ p) (comb φ q)) za.2 zb.2
              ∙ onto_sum x.0 w.0 t.0 v.0 t.2 v.3 ∙ x.2,
        )
      where
        onto_sum : (x w t v : ℕ) → comb δ t ≡ bit_xor (comb φ w) (comb φ (x % 2 ^ m)) → comb δ v ≡ comb δ (bit_xor t (x / 2 ^ m))
            → bit_xor (comb δ v) (comb φ w) ≡ comb cols x / 2 ^ m
        onto_sum x w t v p q =
            let f = comb φ w in
            let g = comb φ (x % 2 ^ m) in
            let k = comb δ (x / 2 ^ m) in
            ap (λ (r : ℕ). bit_xor r f) (q ∙ comb-xor δ t (x / 2 ^ m) ∙ ap (λ (r : ℕ). bit_xor r k) p)
            ∙ xor_assoc (bit_xor f g) k f ∙ ap (bit_xor (bit_xor f g)) (xor_comm k f) ∙ xor4 f g f k ∙ ap (λ (r : ℕ). bit_xor r (bit_xor g k)) (xor_self f)
            ∙ sym (lower_parts m cols x)

    -- marked δ columns and W columns together number n - m
    w_count : cw + cm ≡ n - m
    w_count =
        le_antisymm
        (span_le (cw + cm) (n - m) both (λ s. s) (λ z h. (both z, both_lt z, refl)) both_inj)
        (span_le (n - m) (cw + cm) (λ y. y) both both_onto (λ x y p q e. e))

    -- the pairing is total
    pub pairing_total : length (unmarked n m cols) ≡ length (chosen n m cols)
    unfolding unmarked chosen
    pairing_total =
        length-map (which free (n - m) 0) (λ u. m + u)
        ∙ omega (arith, w_count, which_not (marked δ) (n - m) 0)

    -- no nonzero sum of the columns m..n-1 is zero below
    pub delta_regular : (t : ℕ) → t < 2 ^ (n - m) → comb (delta m (after cols (step1 n m cols))) t ≡ 0 → t ≡ 0
    delta_regular t h e =
        let x = t * 2 ^ m in
        let hx : x < 2 ^ n = shl_below n m t hm h in
        let g = comb (listed add1 n 0) x in
        let us = unmarked n m cols in
        let ws = chosen n m cols in
        let gp : g ≡ pairsum us ws x = pair_is us ws n x us_asc hx in
        let gl : g < 2 ^ m = listed_lt add1 m n 0 x (λ j l. add1_lt j) in
        let sum : bit_xor (comb δ t) (comb φ g) ≡ 0
        = ap₂ bit_xor (delta-comb m cols t) (phi-comb m cols g gl)
        ∙ sym (delta-comb m (after cols (step1 n m cols)) t
        ∙ ap (λ (k : ℕ). k / 2 ^ m) (comb-after cols (step1 n m cols) x ∙ ap (comb cols) (step1_is x hx) ∙ comb-xor cols x g)
        ∙ xor_shr (comb cols x) (comb cols g) m)
        ∙ e in
        let same : comb δ t ≡ comb φ g = xor-eq (comb δ t) (comb φ g) sum in
        let g0 : g ≡ 0 = w_indep g gl (λ i l q. ap (λ (k : ℕ). bit k i) gp ∙ pair_off us ws x i (not_w i q)) (t, h, same) in
        marks_indep δ (n - m) t h
        (λ i l q. sym (bit_shl t m i) ∙ not_u x (pair_zero us ws x pairing_total ws_asc (sym gp ∙ g0)) i l q)
        (same ∙ ap (comb φ) g0 ∙ comb-zero φ)
      where
        not_w : (i : ℕ) → W i ≡ false → All (λ w. i ≡ w → ⊥) (chosen n m cols)
        not_w i q = unfold chosen in which_off W m 0 i q

        not_u : (x : ℕ) → All (λ u. bit x u ≡ 0) (unmarked n m cols) → (i : ℕ) → i < n - m → marked δ i ≡ false → bit x (m + i) ≡ 0
        not_u x a i l q =
            which_member (λ u. bit x (m + u) ≡ 0) free (n - m) 0 (unfold unmarked in all_unmap (λ u. bit x u ≡ 0) (λ u. m + u) (which free (n - m) 0) a)
            i (omega arith) (omega arith) (ap not q)
