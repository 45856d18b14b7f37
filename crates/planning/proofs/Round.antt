-- What does one round do? Assumes nothing.
use mathlib.Core.Path.{◌∙◌, ◌≡◌, ap, ap₂, refl, subst, sym}
use mathlib.Core.Bool.{Bool, ◌&&◌, and-false, cond, false, not, true}
use mathlib.Core.List.{List, [], ◌∷◌}
use Prim.Native.Nat.{◌%◌, ◌*◌, ◌+◌, ◌-◌, ◌/◌, ◌<◌, ◌^◌, ◌≤◌, min, suc, ℕ}
use native.Mathlib.Nat.{div-eq_of_lt, div-lt_iff_lt-mul, le_refl, lt_of_lt_of_le, mod-eq_of_lt, mul-mod_left, one-mul, sub-add_cancel, zero-div, zero-mul}
use native.Mathlib.Omega.{arith}
use lib.Pow.{field, pow-add, pow-lt, pow_mono, pow_pos}
use lib.Dec.{eqb, leb, ltb}
use lib.ListN.{get_or, length}
use lib.Bits.{bit_xor, xor_mod, xor_self, xor_shr, xor_zero_r}
use borrow.Author.Tests.{eq-eqb, eqb-true, le-leb, le-ltb, lt-leb, lt-ltb}
use Rattle.algebra.proofs.Digits.{shl_below, shr_below}
use Rattle.algebra.proofs.Linear.{comb_inj, comb_linear, comb-xor, comb-zero, linear_after, linear_ext, comb-after, after-length}
use Rattle.algebra.proofs.Linear.{listed_low, listed_mod, none_above, none_below, shl_linear, sum_none}
use Rattle.algebra.proofs.Listed.{which_asc, which_ext, which_flip, which_from, which_holds, which_none, which_not, which_parts, which_upto}
use Rattle.algebra.proofs.Lists.{All, Asc, all_mono, off_above, off_below}
use Rattle.algebra.proofs.Pigeon.{covers}
use Rattle.algebra.proofs.Search.{by_test, first_found, first_lt}
use Rattle.algebra.specs.Search.{first_passing, listed, which}
use Rattle.algebra.specs.Vector.{bit, comb, unless_zero}
use Rattle.planning.proofs.Acts.{adding_at, adding_is, adding-length, adding-lt, adding_twice, came_from_back, came_from-lt, placing-length}
use Rattle.planning.proofs.Acts.{came_from_out, hit_x, miss, placing_at, swap_lt, swap_twice}
use Rattle.planning.proofs.Parts.{delta-comb, phi_at, zero_there}
use Rattle.planning.specs.Columns.{adding, delta, phi, placing, zero_column}
use Rattle.planning.specs.Making.{eraser, erases, came_from, swaps, after_swaps, round_left}
use Rattle.planning.specs.Facts.{nonzero}
use Rattle.algebra.specs.Matrix.{after}
use Rattle.planning.specs.Inner.{RoundReady}

pub swaps-length : (n b m : ℕ) (cols : List ℕ) → length (swaps n b m cols) ≡ n
unfolding swaps
swaps-length n b m cols = rw (swaps, placing-length) refl

pub erases-length : (n b m : ℕ) (cols : List ℕ) → length (erases n b m cols) ≡ n
unfolding erases
erases-length n b m cols = adding-length (eraser n b m cols) n

-- ---- E
module _ (n b m : ℕ) (hm : m ≤ n) (cols : List ℕ) where
  abbrev δ : List ℕ
  δ = delta m cols

  abbrev φ : List ℕ
  φ = phi m cols

  abbrev add : ℕ → ℕ
  add = eraser n b m cols

  abbrev due : ℕ → Bool
  due j = leb b j && ltb j m && not (zero_column φ j)

  abbrev makes : ℕ → ℕ → Bool
  makes j t = eqb (comb δ t) (get_or φ j 0)

  abbrev with_set : ℕ → Bool → ℕ
  with_set j x = cond x (first_passing (makes j) (2 ^ (n - m)) * 2 ^ m) 0

  e_shift : (j : ℕ) → (t : ℕ) × (t < 2 ^ (n - m)) × (add j ≡ t * 2 ^ m)
  unfolding eraser
  e_shift j = go (due j)
    where
      go : (x : Bool) → (t : ℕ) × (t < 2 ^ (n - m)) × (with_set j x ≡ t * 2 ^ m)
      go true = (first_passing (makes j) (2 ^ (n - m)), first_lt (makes j) (2 ^ (n - m)) (pow_pos (n - m)), refl)
      go false = (0, pow_pos (n - m), sym (zero-mul (2 ^ m)))

  pub e_small : (j : ℕ) → add j < 2 ^ n
  e_small j = let t = e_shift j in rw t.2 (shl_below n m t.0 hm t.1)

  pub e_high : (i : ℕ) → m ≤ i → add i ≡ 0
  unfolding eraser
  e_high i h = rw (eraser, le-ltb i m h, and-false (leb b i)) refl

  pub e_low : (i : ℕ) → i < b → add i ≡ 0
  unfolding eraser
  e_low i h = rw (eraser, lt-leb b i h) refl

  pub eraser-zero : (i : ℕ) → zero_column φ i ≡ true → add i ≡ 0
  unfolding eraser
  eraser-zero i e = rw (eraser, e, and-false (leb b i && ltb i m)) refl

  e_nil : (j i : ℕ) → unless_zero (bit (add j) i) (add i) ≡ 0
  e_nil j i = let t = e_shift j in ap (λ (k : ℕ). unless_zero (bit k i) (add i)) t.2 ∙ none_above add m t.0 e_high i

  abbrev E : List ℕ
  E = adding add n

  abbrev H : ℕ → ℕ
  H u = comb (listed add n 0) u

  E_is : (x : ℕ) → x < 2 ^ n → comb E x ≡ bit_xor x (H x)
  E_is x h = adding_is add n (λ j l. e_small j) e_nil x h

  E_lt : (x : ℕ) → x < 2 ^ n → comb E x < 2 ^ n
  E_lt x h = adding-lt add n (λ j l. e_small j) e_nil x h

  E_twice : (x : ℕ) → x < 2 ^ n → comb E (comb E x) ≡ x
  E_twice x h = adding_twice add n (λ j l. e_small j) e_nil x h

  E_at : (j : ℕ) → j < n → comb E (2 ^ j) ≡ bit_xor (2 ^ j) (add j)
  E_at j h = adding_at add n j h

  -- the columns from m on stay
  E_high : (t : ℕ) → t < 2 ^ (n - m) → comb E (t * 2 ^ m) ≡ t * 2 ^ m
  E_high t h =
      E_is (t * 2 ^ m) (shl_below n m t hm h)
      ∙ ap (bit_xor (t * 2 ^ m)) (sum_none add n (t * 2 ^ m) (none_above add m t e_high)) ∙ xor_zero_r (t * 2 ^ m)

  H_mod : (u : ℕ) → H u % 2 ^ m ≡ 0
  H_mod u = listed_mod add m n 0 u (λ j. ap (λ (k : ℕ). k % 2 ^ m) (e_shift j).2 ∙ mul-mod_left (e_shift j).0 (2 ^ m))

  H_zero : (u : ℕ) → u < 2 ^ b → H u ≡ 0
  H_zero u h = sum_none add n u (none_below add b u e_low h)

  -- what E makes of a number below 2 ^ m has no bit from m on where it has none in b..m-1
  pub E_dry : b ≤ m → (u : ℕ) → u < 2 ^ m → comb E u / 2 ^ b % 2 ^ (m - b) ≡ 0 → comb E u / 2 ^ m ≡ 0
  E_dry hb u h e =
      let is : comb E u ≡ bit_xor u (H u) = E_is u (lt_of_lt_of_le h (pow_mono hm)) in
      let lows : comb E u % 2 ^ m ≡ u = ap (λ (k : ℕ). k % 2 ^ m) is ∙ xor_mod u (H u) m ∙ ap₂ bit_xor (mod-eq_of_lt h) (H_mod u) ∙ xor_zero_r u in
      let z : u / 2 ^ b ≡ 0
      = ap (λ (k : ℕ). k / 2 ^ b) (sym lows) ∙ ap (λ (k : ℕ). comb E u % 2 ^ k / 2 ^ b) (sym (sub-add_cancel hb)) ∙ field (comb E u) (m - b) b ∙ e in
      let l : u < 2 ^ b = subst (λ (k : ℕ). u < k) (one-mul (2 ^ b)) ((div-lt_iff_lt-mul (pow_pos b)).0 (omega (arith, z))) in
      ap (λ (k : ℕ). k / 2 ^ m) is ∙ xor_shr u (H u) m ∙ ap₂ bit_xor (div-eq_of_lt h) (ap (λ (k : ℕ). k / 2 ^ m) (H_zero u l) ∙ zero-div (2 ^ m))

  -- where δ is nonsingular, the set for a column of b..m-1 exists and is the only one
  module _ (small : (y : ℕ) → comb cols y < 2 ^ n) (trailing : (t : ℕ) → t < 2 ^ (n - m) → comb δ t ≡ 0 → t ≡ 0) where
    delta-lt : (t : ℕ) → comb δ t < 2 ^ (n - m)
    delta-lt t = rw delta-comb (shr_below n m (comb cols (t * 2 ^ m)) hm (small (t * 2 ^ m)))

    delta_inj : (x y : ℕ) → x < 2 ^ (n - m) → y < 2 ^ (n - m) → comb δ x ≡ comb δ y → x ≡ y
    delta_inj = comb_inj δ (n - m) trailing

    delta_onto : (y : ℕ) → y < 2 ^ (n - m) → (t : ℕ) × (t < 2 ^ (n - m)) × (comb δ t ≡ y)
    delta_onto = covers (2 ^ (n - m)) (comb δ) (λ i l. delta-lt i) (λ i j l q e. omega (arith, delta_inj i j (omega arith) q e))

    phi-lt : (j : ℕ) → j < m → get_or φ j 0 < 2 ^ (n - m)
    phi-lt j h = rw (phi_at m cols j h) (shr_below n m (comb cols (2 ^ j)) hm (small (2 ^ j)))

    -- existence
    pub eraser-right : (j : ℕ) → b ≤ j → j < m → zero_column φ j ≡ false
        → (t : ℕ) × (t < 2 ^ (n - m)) × (add j ≡ t * 2 ^ m) × (comb δ t ≡ get_or φ j 0)
    unfolding eraser
    eraser-right j hb h e =
        let t = first_passing (makes j) (2 ^ (n - m)) in
        let v = get_or φ j 0 in
        let w = delta_onto v (phi-lt j h) in (
          t,
          first_lt (makes j) (2 ^ (n - m)) (pow_pos (n - m)),
          rw (eraser, le-leb b j hb, lt-ltb j m h, e) refl,
          eqb-true (comb δ t) v (first_found (makes j) (2 ^ (n - m)) w.0 w.1 (eq-eqb (comb δ w.0) v w.2)),
        )

    -- uniqueness
    pub eraser_one : (j t : ℕ) → b ≤ j → j < m → zero_column φ j ≡ false → t < 2 ^ (n - m) → comb δ t ≡ get_or φ j 0 → add j ≡ t * 2 ^ m
    eraser_one j t hb h e l q =
        let r = eraser-right j hb h e in r.2 ∙ ap (λ (k : ℕ). k * 2 ^ m) (delta_inj r.0 t r.1 l (r.3 ∙ sym q))

    -- the columns of b..m-1 are zero below afterwards
    E_erases : (j : ℕ) → b ≤ j → j < m → get_or (phi m (after cols E)) j 0 ≡ 0
    E_erases j hb h =
        phi_at m (after cols E) j h
        ∙ ap (λ (k : ℕ). k / 2 ^ m) (comb-after cols E (2 ^ j) ∙ ap (comb cols) (E_at j (omega arith)) ∙ comb-xor cols (2 ^ j) (add j))
        ∙ xor_shr (comb cols (2 ^ j)) (comb cols (add j)) m
        ∙ by_test (zero_column φ j)
        (λ e. ap₂ bit_xor (sym (phi_at m cols j h) ∙ zero_there φ j e) (rw (eraser-zero j e, comb-zero cols) (zero-div (2 ^ m))))
        (λ e.
        let r = eraser-right j hb h e in
        ap₂ bit_xor (sym (phi_at m cols j h)) (ap (λ (k : ℕ). comb cols k / 2 ^ m) r.2 ∙ sym (delta-comb m cols r.0) ∙ r.3) ∙ xor_self (get_or φ j 0))

-- ---- S
module _ (n b m : ℕ) (hb : b ≤ m) (hm : m ≤ n) (cols : List ℕ) where
  -- the zero columns of φ, and the others
  abbrev empty : ℕ → Bool
  empty = zero_column (phi m cols)

  abbrev full : ℕ → Bool
  full j = not (empty j)

  abbrev S : List ℕ
  S = swaps n b m cols

  abbrev xs : List ℕ
  xs = which full b 0

  abbrev ys : List ℕ
  ys = which empty (m - b) b

  xs_low : All (λ x. x < b) xs
  xs_low = which_upto full b 0 b (omega arith)

  ys_high : All (λ y. b ≤ y) ys
  ys_high = which_from empty (m - b) b

  stays : (k j : ℕ) → m ≤ k → j < k → came_from xs ys j < k
  stays k j l h = came_from-lt xs ys k j (which_upto full b 0 k (omega arith)) (which_upto empty (m - b) b k (omega arith)) h

  back : (j : ℕ) → came_from xs ys (came_from xs ys j) ≡ j
  back = came_from_back xs ys b (which_asc full b 0) (which_asc empty (m - b) b) xs_low ys_high

  came_from_high : (j : ℕ) → m ≤ j → came_from xs ys j ≡ j
  came_from_high j h =
      came_from_out xs ys j (off_below j b xs (omega arith) xs_low) (off_below j m ys h (which_upto empty (m - b) b m (omega arith)))

  S_at : (j : ℕ) → j < n → comb S (2 ^ j) ≡ 2 ^ came_from xs ys j
  unfolding swaps
  S_at j h = placing_at (came_from xs ys) n j h

  pub S_lt : (x : ℕ) → comb S x < 2 ^ n
  unfolding swaps
  S_lt x = swap_lt (came_from xs ys) n (λ j l. stays n j hm l) back x

  pub S_twice : (x : ℕ) → x < 2 ^ n → comb S (comb S x) ≡ x
  unfolding swaps
  S_twice x h = swap_twice (came_from xs ys) n (λ j l. stays n j hm l) back x h

  -- the numbers below 2 ^ m stay among themselves
  pub S_low : (w : ℕ) → w < 2 ^ m → comb S w < 2 ^ m
  unfolding swaps placing
  S_low w h = listed_low (λ j. 2 ^ came_from xs ys j) m m n 0 w (λ j l. pow-lt (stays m j (le_refl m) (omega arith))) h

  -- the columns from m on stay
  S_high : (t : ℕ) → t < 2 ^ (n - m) → comb S (t * 2 ^ m) ≡ t * 2 ^ m
  S_high t h =
      linear_ext (λ t. comb S (t * 2 ^ m)) (λ t. t * 2 ^ m) (linear_after (comb S) (λ t. t * 2 ^ m) (comb_linear S) (shl_linear m)) (shl_linear m) (n - m)
      (λ j l. ap (comb S) (sym (pow-add 2 j m)) ∙ S_at (j + m) (omega arith) ∙ ap (λ (k : ℕ). 2 ^ k) (came_from_high (j + m) (omega arith)) ∙ pow-add 2 j m) t h

-- ---- counting: a swap takes one nonzero column out of the columns below b
swap_count : (nz : ℕ → Bool) (b : ℕ) (xs ys : List ℕ) → Asc xs → Asc ys → All (λ x. x < b) xs → All (λ y. b ≤ y) ys
    → All (λ x. nz x ≡ true) xs → All (λ y. nz y ≡ false) ys
    → length (which (λ j. nz (came_from xs ys j)) b 0) + min (length xs) (length ys) ≡ length (which nz b 0)
unfolding came_from
swap_count nz b [] ys ax ay lx ly tx ty = omega arith
swap_count nz b (x ∷ xs) [] ax ay lx ly tx ty = omega arith
swap_count nz b (x ∷ xs) (y ∷ ys) ax ay lx ly tx ty =
    let ih = swap_count nz b xs ys ax.1 ay.1 lx.1 ly.1 tx.1 ty.1 in
    let one : suc (length (which (λ j. nz (came_from (x ∷ xs) (y ∷ ys) j)) b 0)) ≡ length (which (λ j. nz (came_from xs ys j)) b 0)
    = which_flip (λ j. nz (came_from (x ∷ xs) (y ∷ ys) j)) (λ j. nz (came_from xs ys j)) b x lx.0
    (λ i u w. ap nz (miss x y xs ys i w (λ r. omega (arith, r, ly.0, u))))
    (ap nz (hit_x x y xs ys x refl) ∙ ty.0)
    (ap nz (came_from_out xs ys x (off_above x (suc x) xs (omega arith) ax.0) (off_above x b ys lx.0 ly.1)) ∙ tx.0) in
    omega (arith, ih, one)

-- ---- what a round keeps

module _ (n b m : ℕ) (hb : b ≤ m) (hm : m ≤ n) (cols : List ℕ) (k : RoundReady n m cols) where
  abbrev s : List ℕ
  s = swaps n b m cols

  abbrev swapped : List ℕ
  swapped = after_swaps n b m cols

  abbrev e : List ℕ
  e = erases n b m swapped

  abbrev next : List ℕ
  next = round_left n b m cols

  after-swaps_small : (y : ℕ) → comb swapped y < 2 ^ n
  after-swaps_small y = rw comb-after (k.small (comb s y))

  after-swaps-delta : (t : ℕ) → t < 2 ^ (n - m) → comb (delta m swapped) t ≡ comb (delta m cols) t
  after-swaps-delta t h =
      delta-comb m swapped t ∙ ap (λ (u : ℕ). u / 2 ^ m) (comb-after cols s (t * 2 ^ m) ∙ ap (comb cols) (S_high n b m hb hm cols t h))
      ∙ sym (delta-comb m cols t)

  after-swaps_trailing : (t : ℕ) → t < 2 ^ (n - m) → comb (delta m swapped) t ≡ 0 → t ≡ 0
  after-swaps_trailing t h q = k.trailing t h (sym (after-swaps-delta t h) ∙ q)

  -- S keeps what a round needs
  pub after-swaps_ready : RoundReady n m swapped
  after-swaps_ready = record {
    long = after-length cols s ∙ swaps-length n b m cols;
    small = after-swaps_small;
    regular = λ z h q.
        let e : comb s z ≡ 0 = k.regular (comb s z) (S_lt n b m hb hm cols z) (sym (comb-after cols s z) ∙ q) in
        sym (S_twice n b m hb hm cols z h) ∙ ap (comb s) e ∙ comb-zero s;
    trailing = after-swaps_trailing;
  }

  pub erases-lt : (x : ℕ) → x < 2 ^ n → comb e x < 2 ^ n
  unfolding erases
  erases-lt x h = E_lt n b m hm swapped x h

  pub erases_twice : (x : ℕ) → x < 2 ^ n → comb e (comb e x) ≡ x
  unfolding erases
  erases_twice x h = E_twice n b m hm swapped x h

  pub next_is : (x : ℕ) → comb next x ≡ comb cols (comb s (comb e x))
  next_is x = comb-after swapped e x ∙ comb-after cols s (comb e x)

  pub next_ready : RoundReady n m next
  unfolding erases
  next_ready = record {
    long = after-length swapped e ∙ erases-length n b m swapped;
    small = λ y. rw (next_is y) (k.small (comb s (comb e y)));
    regular = λ z h q.
        let a : comb s (comb e z) ≡ 0 = k.regular (comb s (comb e z)) (S_lt n b m hb hm cols (comb e z)) (sym (next_is z) ∙ q) in
        let c : comb e z ≡ 0 = sym (S_twice n b m hb hm cols (comb e z) (erases-lt z h)) ∙ ap (comb s) a ∙ comb-zero s in
        sym (erases_twice z h) ∙ ap (comb e) c ∙ comb-zero e;
    trailing = λ t h q. k.trailing t h (
        delta-comb m cols t ∙ sym (delta-comb m next t ∙ ap (λ (u : ℕ). u / 2 ^ m) (next_is (t * 2 ^ m)
        ∙ ap (λ (u : ℕ). comb cols (comb s u)) (E_high n b m hm swapped t h) ∙ ap (comb cols) (S_high n b m hb hm cols t h))) ∙ q);
  }

  -- φ afterwards: zero in b..m-1, moved below b
  next_mid : (j : ℕ) → b ≤ j → j < m → get_or (phi m next) j 0 ≡ 0
  unfolding erases
  next_mid j l h = E_erases n b m hm swapped after-swaps_small after-swaps_trailing j l h

  abbrev came : ℕ → ℕ
  came = came_from (xs n b m hb hm cols) (ys n b m hb hm cols)

  next_low : (j : ℕ) → j < b → get_or (phi m next) j 0 ≡ get_or (phi m cols) (came j) 0
  unfolding erases
  next_low j h =
      let stay : comb e (2 ^ j) ≡ 2 ^ j = E_at n b m hm swapped j (omega arith) ∙ rw (e_low n b m hm swapped j h) (xor_zero_r (2 ^ j)) in
      phi_at m next j (omega arith)
      ∙ ap (λ (u : ℕ). u / 2 ^ m) (next_is (2 ^ j) ∙ ap (λ (u : ℕ). comb cols (comb s u)) stay ∙ ap (comb cols) (S_at n b m hb hm cols j (omega arith)))
      ∙ sym (phi_at m cols (came j) (stays n b m hb hm cols m j (le_refl m) (omega arith)))

  -- a round zeroes m - b columns, or all that are left
  pub next_nonzero : nonzero m next ≡ nonzero m cols - (m - b)
  unfolding nonzero zero_column
  next_nonzero =
      let X = xs n b m hb hm cols in
      let Y = ys n b m hb hm cols in
      let zero = empty n b m hb hm cols in
      let nz = full n b m hb hm cols in
      let nz' : ℕ → Bool = λ j. not (zero_column (phi m next) j) in
      let low : which nz' b 0 ≡ which (λ j. nz (came j)) b 0
      = which_ext nz' (λ j. nz (came j)) b 0 (λ i u v. ap (λ (x : ℕ). not (eqb x 0)) (next_low i (omega arith))) in
      let mid : which nz' (m - b) b ≡ []
      = which_none nz' (m - b) b (λ i u v. ap (λ (x : ℕ). not (eqb x 0)) (next_mid i u (omega arith))) in
      let cut : length (which (λ j. nz (came j)) b 0) + min (length X) (length Y) ≡ length X
      = swap_count nz b X Y (which_asc nz b 0) (which_asc zero (m - b) b) (xs_low n b m hb hm cols) (ys_high n b m hb hm cols) (which_holds nz b 0)
      (all_mono (λ y. zero y ≡ true) (λ y. not (zero y) ≡ false) (λ y q. ap not q) Y (which_holds zero (m - b) b)) in
      omega (arith, which_parts nz' b m hb, which_parts nz b m hb, ap length low, ap length mid, which_not zero (m - b) b, cut)
