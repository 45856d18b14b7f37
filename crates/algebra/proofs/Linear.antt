-- Why is a matrix a linear function, and a number the sum of its powers of two? Assumes nothing.
use mathlib.Core.Path.{◌∙◌, ◌≡◌, ap, ap₂, refl, subst, sym}
use mathlib.Core.List.{List, [], ◌++◌, ◌∷◌, map}
use Prim.Native.Nat.{◌%◌, ◌*◌, ◌+◌, ◌/◌, ◌<◌, ◌^◌, min, suc, suc-le-suc, zero, zero-le, ℕ}
use native.Mathlib.Nat.{add-mul, div-add-mod', le_refl, mod-lt, mul_assoc, mul_comm, mul-div_cancel, mul-mod_left, mul-one, one-mul, pow-suc, div-one}
use native.Mathlib.Nat.{zero-div, zero-min, zero-mul}
use lib.Arith.{digits_div, digits_lt, digits_mod, lt-one}
use lib.Pow.{pow-lt, pow_pos, shr-shr}
use lib.Dec.{lit<}
use native.Mathlib.Numerals.{add-one}
use lib.ListN.{drop, get_or, length, length-map, get_or-map, take}
use lib.Bits.{and_comm, and_mask, and_step, and_zero_r, bit_and, bit_xor, shifted_even, shifted_half, xor_block, xor_comm, xor_lt}
use lib.Bits.{xor_mod, xor_shifted, xor_shr, xor_zero_r}
use mathlib.Core.Logic.{⊎_elim}
use native.Mathlib.Omega.{arith}
use lib.Seq.{drop-append_seam, take-append_seam}
use Rattle.algebra.proofs.Digits.{bit_cases, bit_here, bit-suc, bit-zero, digit, dot_xor, dot_xor_l, half_lt, parity-bit}
use Rattle.algebra.proofs.Digits.{parity_digit, parity-lt, parity-zero, parts_xor, unless_add, unless_lt, unless_xor, unless_zero_lem, top_digit}
use Rattle.algebra.proofs.Digits.{xor4}
use Rattle.algebra.specs.Matrix.{after, applied, columns, identity}
use Rattle.algebra.specs.Vector.{bit, comb, parity, unless_zero, unit_vectors}
use Rattle.algebra.specs.Search.{listed}
use Prim.Native.Nat.{◌≤◌}
use native.Mathlib.Nat.{add-zero, zero-mod}
use lib.Bits.{xor_mod, xor_self}
use Rattle.algebra.proofs.Digits.{bit_above, bit_shifted, unless_no, xor-eq}
use Rattle.algebra.proofs.Search.{le_or_lt}

pub apply_lt : (rows : List ℕ) (x : ℕ) → applied rows x < 2 ^ length rows
unfolding applied
apply_lt [] x = pow_pos 0
apply_lt (r ∷ rs) x =
    subst (λ (k : ℕ). applied rs x * 2 + parity (bit_and r x) < k) (sym (pow-suc 2 (length rs))) (digits_lt (apply_lt rs x) (parity-lt (bit_and r x)))

pub apply_xor : (rows : List ℕ) (x y : ℕ) → applied rows (bit_xor x y) ≡ bit_xor (applied rows x) (applied rows y)
unfolding applied
apply_xor [] x y = refl
apply_xor (r ∷ rs) x y =
    ap₂ (λ (u v : ℕ). u * 2 + v) (apply_xor rs x y) (dot_xor r x y)
    ∙ sym (xor_block 1 (applied rs x) (applied rs y) (parity (bit_and r x)) (parity (bit_and r y)) (parity-lt (bit_and r x)) (parity-lt (bit_and r y)))

pub apply_zero : (rows : List ℕ) → applied rows 0 ≡ 0
unfolding applied
apply_zero [] = refl
apply_zero (r ∷ rs) = ap₂ (λ (u v : ℕ). u * 2 + v) (apply_zero rs) (ap parity (and_zero_r r) ∙ parity-zero)

-- bit i of A x is the parity of row i AND x
pub apply_bit : (rows : List ℕ) (x i : ℕ) → bit (applied rows x) i ≡ parity (bit_and (get_or rows i 0) x)
unfolding applied
apply_bit [] x i = bit-zero i ∙ sym parity-zero
apply_bit (r ∷ rs) x zero = bit_here (applied rs x * 2 + parity (bit_and r x)) ∙ digits_mod (applied rs x) (parity-lt (bit_and r x))
apply_bit (r ∷ rs) x (suc i) =
    bit-suc (applied rs x * 2 + parity (bit_and r x)) i
    ∙ ap (λ (k : ℕ). bit k i) (digits_div (applied rs x) (parity-lt (bit_and r x))) ∙ apply_bit rs x i

-- ---- sums of picked vectors
pub comb-xor : (vs : List ℕ) (s t : ℕ) → comb vs (bit_xor s t) ≡ bit_xor (comb vs s) (comb vs t)
unfolding comb
comb-xor [] s t = refl
comb-xor (v ∷ vs) s t =
    ap₂ (λ (x y : ℕ). bit_xor (unless_zero x v) (comb vs y)) (xor_mod s t 1) (xor_shr s t 1)
    ∙ ap₂ bit_xor (unless_add (s % 2) (t % 2) v (digit s) (digit t)) (comb-xor vs (s / 2) (t / 2))
    ∙ xor4 (unless_zero (s % 2) v) (unless_zero (t % 2) v) (comb vs (s / 2)) (comb vs (t / 2))

pub comb-zero : (vs : List ℕ) → comb vs 0 ≡ 0
unfolding comb unless_zero
comb-zero [] = refl
comb-zero (v ∷ vs) = comb-zero vs

-- ---- linear functions
pub record Linear (f : ℕ → ℕ) : Type 0 where
  pub none : f 0 ≡ 0
  pub sum : (x y : ℕ) → f (bit_xor x y) ≡ bit_xor (f x) (f y)

pub apply_linear : (rows : List ℕ) → Linear (applied rows)
apply_linear rows = record { none = apply_zero rows; sum = apply_xor rows }

pub comb_linear : (vs : List ℕ) → Linear (comb vs)
comb_linear vs = record { none = comb-zero vs; sum = comb-xor vs }

dot_linear : (x : ℕ) → Linear (λ r. parity (bit_and r x))
dot_linear x = record { none = parity-zero; sum = λ r s. dot_xor_l r s x }

pub linear_after : (f g : ℕ → ℕ) → Linear f → Linear g → Linear (λ x. f (g x))
linear_after f g lf lg = record { none = ap f lg.none ∙ lf.none; sum = λ x y. ap f (lg.sum x y) ∙ lf.sum (g x) (g y) }

pub linear_self : Linear (λ x. x)
linear_self = record { none = refl; sum = λ x y. refl }

pub lower_linear : (m : ℕ) → Linear (λ v. v / 2 ^ m)
lower_linear m = record { none = zero-div (2 ^ m); sum = λ x y. xor_shr x y m }

module _ (f : ℕ → ℕ) (l : Linear f) where
  pub linear_unless : (d x : ℕ) → f (unless_zero d x) ≡ unless_zero d (f x)
  unfolding unless_zero
  linear_unless zero x = l.none
  linear_unless (suc d) x = refl

  pub linear_comb : (vs : List ℕ) (s : ℕ) → f (comb vs s) ≡ comb (map f vs) s
  unfolding comb
  linear_comb [] s = l.none
  linear_comb (v ∷ vs) s =
      l.sum (unless_zero (s % 2) v) (comb vs (s / 2)) ∙ ap₂ bit_xor (linear_unless (s % 2) v) (linear_comb vs (s / 2))

-- ---- products: A Q acts as A after Q
pub comb-after : (a q : List ℕ) (x : ℕ) → comb (after a q) x ≡ comb a (comb q x)
unfolding after
comb-after a q x = sym (linear_comb (comb a) (comb_linear a) q x)

-- each vector of Q picks vectors of A
pub after_at : (a q : List ℕ) (i : ℕ) → get_or (after a q) i 0 ≡ comb a (get_or q i 0)
unfolding after
after_at a q i = ap (get_or (map (comb a) q) i) (sym (comb-zero a)) ∙ get_or-map (comb a) q i 0

pub after-length : (a q : List ℕ) → length (after a q) ≡ length q
unfolding after
after-length a q = length-map q (comb a)

-- ---- a number is the sum of the powers of two that it picks
unless_pow : (d j : ℕ) → d < 2 → unless_zero d (2 ^ j) ≡ d * 2 ^ j
unfolding unless_zero
unless_pow d j = bit_cases (λ (d : ℕ). unless_zero d (2 ^ j) ≡ d * 2 ^ j) (sym (zero-mul (2 ^ j))) (sym (one-mul (2 ^ j))) d

-- its lowest digit, and the others
pub digit_split : (x j : ℕ) → bit_xor (unless_zero (x % 2) (2 ^ j)) (x / 2 * 2 ^ suc j) ≡ x * 2 ^ j
digit_split x j =
    xor_comm (unless_zero (x % 2) (2 ^ j)) (x / 2 * 2 ^ suc j)
    ∙ xor_shifted (x / 2) (suc j) (unless_zero (x % 2) (2 ^ j)) (unless_lt (suc j) (x % 2) (2 ^ j) (pow-lt (le_refl (suc j))))
    ∙ ap₂ (λ (u v : ℕ). x / 2 * u + v) (pow-suc 2 j ∙ mul_comm (2 ^ j) 2) (unless_pow (x % 2) j (digit x))
    ∙ ap (λ (u : ℕ). u + x % 2 * 2 ^ j) (sym (mul_assoc (x / 2) 2 (2 ^ j)))
    ∙ sym (add-mul (x / 2 * 2) (x % 2) (2 ^ j))
    ∙ ap (λ (u : ℕ). u * 2 ^ j) (div-add-mod' x 2)

pub comb_units : (n j x : ℕ) → x < 2 ^ n → comb (unit_vectors n j) x ≡ x * 2 ^ j
unfolding comb unit_vectors
comb_units zero j x h = sym (ap (λ (k : ℕ). k * 2 ^ j) (lt-one h) ∙ zero-mul (2 ^ j))
comb_units (suc n) j x h = ap (bit_xor (unless_zero (x % 2) (2 ^ j))) (comb_units n (suc j) (x / 2) (half_lt n h)) ∙ digit_split x j

pub comb-identity : (n x : ℕ) → x < 2 ^ n → comb (identity n) x ≡ x
unfolding identity
comb-identity n x h = comb_units n 0 x h ∙ mul-one x

-- A x is the sum of the columns that x picks
pub apply_columns : (n : ℕ) (rows : List ℕ) (x : ℕ) → x < 2 ^ n → comb (columns n rows) x ≡ applied rows x
unfolding columns identity
apply_columns n rows x h = sym (linear_comb (applied rows) (apply_linear rows) (unit_vectors n 0) x) ∙ ap (applied rows) (comb-identity n x h)

-- ---- a unit vector picks a bit
pub dot_unit : (j x : ℕ) → parity (bit_and (2 ^ j) x) ≡ bit x j
dot_unit zero x =
    ap parity (and_comm 1 x ∙ and_mask x 1) ∙ parity-bit (x % 2) (digit x) ∙ sym (bit_here x)
dot_unit (suc j) x =
    ap parity (and_step (2 ^ suc j) x
    ∙ ap₂ (λ (u v : ℕ). bit_and u (x / 2) * 2 + min v (x % 2)) (ap (λ (k : ℕ). k / 2) (pow-suc 2 j) ∙ mul-div_cancel (2 ^ j) (lit< tt))
    (ap (λ (k : ℕ). k % 2) (pow-suc 2 j) ∙ mul-mod_left (2 ^ j) 2)
    ∙ ap (λ (k : ℕ). bit_and (2 ^ j) (x / 2) * 2 + k) (zero-min (x % 2)))
    ∙ parity_digit (bit_and (2 ^ j) (x / 2)) 0 (lit< tt)
    ∙ dot_unit j (x / 2) ∙ sym (bit-suc x j)

-- ---- reach
pub comb-lt : (k : ℕ) (vs : List ℕ) (s : ℕ) → ((j : ℕ) → j < length vs → get_or vs j 0 < 2 ^ k) → comb vs s < 2 ^ k
unfolding comb
comb-lt k [] s h = pow_pos k
comb-lt k (v ∷ vs) s h =
    xor_lt k (unless_zero (s % 2) v) (comb vs (s / 2)) (unless_lt k (s % 2) v (h 0 (suc-le-suc zero-le)))
    (comb-lt k vs (s / 2) (λ j p. h (suc j) (suc-le-suc p)))

-- picking one column
pub comb_one : (cols : List ℕ) (j : ℕ) → comb cols (2 ^ j) ≡ get_or cols j 0
unfolding comb unless_zero
comb_one [] j = refl
comb_one (v ∷ vs) zero = ap (bit_xor v) (comb-zero vs) ∙ xor_zero_r v
comb_one (v ∷ vs) (suc j) =
    ap₂ (λ (a b : ℕ). bit_xor (unless_zero a v) (comb vs b)) (ap (λ (k : ℕ). k % 2) (pow-suc 2 j) ∙ mul-mod_left (2 ^ j) 2)
    (ap (λ (k : ℕ). k / 2) (pow-suc 2 j) ∙ mul-div_cancel (2 ^ j) (lit< tt))
    ∙ comb_one vs j

-- ---- two linear functions that agree at the powers of two agree
pub linear_ext : (f g : ℕ → ℕ) → Linear f → Linear g → (n : ℕ) → ((j : ℕ) → j < n → f (2 ^ j) ≡ g (2 ^ j)) → (x : ℕ) → x < 2 ^ n → f x ≡ g x
linear_ext f g lf lg zero h x l = ap f (lt-one l) ∙ lf.none ∙ sym (ap g (lt-one l) ∙ lg.none)
linear_ext f g lf lg (suc n) h x l =
    ⊎_elim (λ (q : x < 2 ^ n). linear_ext f g lf lg n (λ j p. h j (omega arith)) x q)
    (λ (q : (s : ℕ) × (s < 2 ^ n) × (x ≡ bit_xor (2 ^ n) s)).
    ap f q.2 ∙ lf.sum (2 ^ n) q.0 ∙ ap₂ bit_xor (h n (le_refl (suc n))) (linear_ext f g lf lg n (λ j p. h j (omega arith)) q.0 q.1)
    ∙ sym (ap g q.2 ∙ lg.sum (2 ^ n) q.0))
    (top_digit n x l)

-- ---- the parity with a sum of rows is the parity of what they send x to
lt-pow : (x : ℕ) → x < 2 ^ x
lt-pow zero = pow_pos 0
lt-pow (suc x) = omega (arith, lt-pow x, pow-suc 2 x)

pub dot_comb : (bs : List ℕ) (a x : ℕ) → parity (bit_and (comb bs a) x) ≡ parity (bit_and a (applied bs x))
dot_comb bs a x =
    linear_ext (λ r. parity (bit_and (comb bs r) x)) (λ r. parity (bit_and r (applied bs x)))
    (linear_after (λ r. parity (bit_and r x)) (comb bs) (dot_linear x) (comb_linear bs)) (dot_linear (applied bs x)) a
    (λ j l. ap (λ (r : ℕ). parity (bit_and r x)) (comb_one bs j) ∙ sym (dot_unit j (applied bs x) ∙ apply_bit bs x j)) a (lt-pow a)

-- ---- vectors listed number by number
pub listed_units : (n k : ℕ) → listed (λ j. 2 ^ j) n k ≡ unit_vectors n k
unfolding listed unit_vectors
listed_units zero k = refl
listed_units (suc n) k = ap (λ (l : List ℕ). 2 ^ k ∷ l) (listed_units n (suc k))

pub listed_xor : (f g : ℕ → ℕ) (n k x : ℕ) → comb (listed (λ j. bit_xor (f j) (g j)) n k) x ≡ bit_xor (comb (listed f n k) x) (comb (listed g n k) x)
unfolding listed comb
listed_xor f g zero k x = refl
listed_xor f g (suc n) k x =
    ap₂ bit_xor (unless_xor (x % 2) (f k) (g k)) (listed_xor f g n (suc k) (x / 2))
    ∙ xor4 (unless_zero (x % 2) (f k)) (unless_zero (x % 2) (g k)) (comb (listed f n (suc k)) (x / 2)) (comb (listed g n (suc k)) (x / 2))

pub listed_lt : (g : ℕ → ℕ) (w n k x : ℕ) → ((j : ℕ) → j < k + n → g j < 2 ^ w) → comb (listed g n k) x < 2 ^ w
unfolding listed comb
listed_lt g w zero k x h = pow_pos w
listed_lt g w (suc n) k x h =
    xor_lt w (unless_zero (x % 2) (g k)) (comb (listed g n (suc k)) (x / 2)) (unless_lt w (x % 2) (g k) (h k (omega arith)))
    (listed_lt g w n (suc k) (x / 2) (λ j l. h j (omega arith)))

-- a sum whose every term is zero
pub terms_zero : (g : ℕ → ℕ) (n k y : ℕ) → ((i : ℕ) → unless_zero (bit y i) (g i) ≡ 0) → comb (listed g n k) (y / 2 ^ k) ≡ 0
unfolding listed comb bit
terms_zero g zero k y h = refl
terms_zero g (suc n) k y h =
    ap₂ bit_xor (h k) (ap (comb (listed g n (suc k))) (shr-shr y k 1 ∙ ap (λ (j : ℕ). y / 2 ^ j) (add-one k)) ∙ terms_zero g n (suc k) y h)

pub map-zero : (f g : ℕ → ℕ) (n k x : ℕ) → ((j : ℕ) → f (g j) ≡ 0) → comb (map f (listed g n k)) x ≡ 0
unfolding listed comb
map-zero f g zero k x h = refl
map-zero f g (suc n) k x h = ap₂ bit_xor (ap (unless_zero (x % 2)) (h k) ∙ unless_zero_lem (x % 2)) (map-zero f g n (suc k) (x / 2) h)

-- ---- sums over a part of the list, and over two lists
pub comb-take : (m : ℕ) (cols : List ℕ) (s : ℕ) → s < 2 ^ m → comb (take m cols) s ≡ comb cols s
unfolding comb
comb-take zero cols s h = sym (ap (comb cols) (lt-one h) ∙ comb-zero cols)
comb-take (suc m) [] s h = refl
comb-take (suc m) (v ∷ vs) s h = ap (bit_xor (unless_zero (s % 2) v)) (comb-take m vs (s / 2) (half_lt m h))

pub comb-drop : (m : ℕ) (cols : List ℕ) (t : ℕ) → comb (drop m cols) t ≡ comb cols (t * 2 ^ m)
unfolding comb unless_zero
comb-drop zero cols t = ap (comb cols) (sym (mul-one t))
comb-drop (suc m) [] t = refl
comb-drop (suc m) (v ∷ vs) t =
    comb-drop m vs t ∙ sym (ap₂ (λ (x y : ℕ). bit_xor (unless_zero x v) (comb vs y)) (shifted_even t m) (shifted_half t m))

pub comb-append : (u v : List ℕ) (s : ℕ) → comb (u ++ v) s ≡ bit_xor (comb u (s % 2 ^ length u)) (comb v (s / 2 ^ length u))
comb-append u v s =
    let k = length u in
    ap (comb (u ++ v)) (sym (parts_xor k s)) ∙ comb-xor (u ++ v) (s % 2 ^ k) (s / 2 ^ k * 2 ^ k)
    ∙ ap₂ bit_xor (sym (comb-take k (u ++ v) (s % 2 ^ k) (mod-lt s (pow_pos k))) ∙ ap (λ (l : List ℕ). comb l (s % 2 ^ k)) (take-append_seam u v))
    (sym (comb-drop k (u ++ v) (s / 2 ^ k)) ∙ ap (λ (l : List ℕ). comb l (s / 2 ^ k)) (drop-append_seam u v))

-- ---- sums of which little is known
pub shl_linear : (m : ℕ) → Linear (λ t. t * 2 ^ m)
shl_linear m = record {
  none = zero-mul (2 ^ m);
  sum = λ x y.
      sym (ap₂ bit_xor (sym (add-zero (x * 2 ^ m))) (sym (add-zero (y * 2 ^ m))) ∙ xor_block m x y 0 0 (pow_pos m) (pow_pos m)
      ∙ add-zero (bit_xor x y * 2 ^ m));
}

-- where only the empty sum is zero, no two sums are equal
pub comb_inj : (vs : List ℕ) (n : ℕ) → ((z : ℕ) → z < 2 ^ n → comb vs z ≡ 0 → z ≡ 0)
    → (x y : ℕ) → x < 2 ^ n → y < 2 ^ n → comb vs x ≡ comb vs y → x ≡ y
comb_inj vs n only x y hx hy e = xor-eq x y (only (bit_xor x y) (xor_lt n x y hx hy) (comb-xor vs x y ∙ rw e (xor_self (comb vs y))))

-- a sum of zeros
pub sum_none : (g : ℕ → ℕ) (n x : ℕ) → ((i : ℕ) → unless_zero (bit x i) (g i) ≡ 0) → comb (listed g n 0) x ≡ 0
sum_none g n x h = ap (comb (listed g n 0)) (sym (div-one x)) ∙ terms_zero g n 0 x h

-- what is zero below m gives nothing for a number below 2 ^ m ..
pub none_below : (g : ℕ → ℕ) (m x : ℕ) → ((i : ℕ) → i < m → g i ≡ 0) → x < 2 ^ m → (i : ℕ) → unless_zero (bit x i) (g i) ≡ 0
none_below g m x low h i =
    ⊎_elim (λ (l : m ≤ i). unless_no (bit x i) (g i) (bit_above x m i h l)) (λ (l : i < m). rw (low i l) (unless_zero_lem (bit x i))) (le_or_lt m i)

-- .. and what is zero from m on gives nothing for a multiple of 2 ^ m
pub none_above : (g : ℕ → ℕ) (m t : ℕ) → ((i : ℕ) → m ≤ i → g i ≡ 0) → (i : ℕ) → unless_zero (bit (t * 2 ^ m) i) (g i) ≡ 0
none_above g m t high i =
    ⊎_elim (λ (l : m ≤ i). rw (high i l) (unless_zero_lem (bit (t * 2 ^ m) i)))
    (λ (l : i < m). unless_no (bit (t * 2 ^ m) i) (g i) (bit_shifted t m i l)) (le_or_lt m i)

unless_mod : (d v k : ℕ) → v % 2 ^ k ≡ 0 → unless_zero d v % 2 ^ k ≡ 0
unfolding unless_zero
unless_mod zero v k h = zero-mod (2 ^ k)
unless_mod (suc d) v k h = h

pub listed_mod : (g : ℕ → ℕ) (k n c w : ℕ) → ((j : ℕ) → g j % 2 ^ k ≡ 0) → comb (listed g n c) w % 2 ^ k ≡ 0
unfolding listed comb
listed_mod g k zero c w h = zero-mod (2 ^ k)
listed_mod g k (suc n) c w h =
    xor_mod (unless_zero (w % 2) (g c)) (comb (listed g n (suc c)) (w / 2)) k
    ∙ ap₂ bit_xor (unless_mod (w % 2) (g c) k (h c)) (listed_mod g k n (suc c) (w / 2) h)

pub listed_low : (g : ℕ → ℕ) (k m n c w : ℕ) → ((j : ℕ) → j < c + m → g j < 2 ^ k) → w < 2 ^ m → comb (listed g n c) w < 2 ^ k
unfolding listed comb
listed_low g k m zero c w h l = pow_pos k
listed_low g k zero (suc n) c w h l = rw (lt-one l, comb-zero (listed g (suc n) c)) (pow_pos k)
listed_low g k (suc m) (suc n) c w h l =
    xor_lt k (unless_zero (w % 2) (g c)) (comb (listed g n (suc c)) (w / 2)) (unless_lt k (w % 2) (g c) (h c (omega arith)))
    (listed_low g k m n (suc c) (w / 2) (λ j q. h j (omega arith)) (half_lt m l))
