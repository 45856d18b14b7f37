-- When do two addresses share a target, and which address is the source of one? Assumes nothing.
use mathlib.Core.Path.{◌∙◌, ◌≡◌, ap, ap₂, refl, sym}
use mathlib.Core.Bool.{Bool, ◌&&◌, false, not, true, true≢false}
use mathlib.Core.Logic.{⊎_elim}
use mathlib.Core.List.{List}
use Prim.Native.Nat.{◌<◌, ◌≤◌, ◌^◌, ℕ}
use native.Mathlib.Nat.{eq-zero-or-pos}
use native.Mathlib.Omega.{arith}
use lib.Arith.{lt-one}
use lib.ListN.{get_or, length}
use lib.Pow.{pow-lt, pow_pos}
use lib.Dec.{eqb, ltb}
use lib.Bits.{bit_and, bit_xor, xor_lt, xor_self, xor_zero_r}
use borrow.Author.Tests.{eq-eqb, eqb-true, lt-ltb, ltb-true, ne_eqb}
use Rattle.algebra.proofs.Columns.{apply_identity}
use Rattle.algebra.proofs.Digits.{bits-zero, parity-zero, xor_cancel_r, xor-eq}
use Rattle.algebra.proofs.Linear.{apply_bit, apply_lt, apply_xor, apply_zero}
use Rattle.algebra.proofs.Search.{and_l, and_r, by_test, first_before, first_found, first_is, first_lt, first_none, least_holds, least_is, none_elim, none_intro, any_elim, any_intro}
use Rattle.algebra.specs.Search.{first_passing}
use Rattle.algebra.specs.Vector.{parity}
use Rattle.algebra.specs.Matrix.{applied, identity, kernel, kills, singular, source, target}

pub kills_intro : (rows : List ℕ) (z : ℕ) → 0 < z → applied rows z ≡ 0 → kills rows z ≡ true
unfolding kills
kills_intro rows z p e = ap₂ ◌&&◌ (lt-ltb 0 z p) (eq-eqb (applied rows z) 0 e)

pub kills_elim : (rows : List ℕ) (z : ℕ) → kills rows z ≡ true → (0 < z) × (applied rows z ≡ 0)
unfolding kills
kills_elim rows z e = (
  ltb-true 0 z (and_l (ltb 0 z) (eqb (applied rows z) 0) e),
  eqb-true (applied rows z) 0 (and_r (ltb 0 z) (eqb (applied rows z) 0) e),
)

-- two different addresses below 2 ^ n with one target
pub record Clash (n : ℕ) (rows : List ℕ) (c : ℕ) : Type 0 where
  pub x : ℕ
  pub y : ℕ
  pub x_lt : x < 2 ^ n
  pub y_lt : y < 2 ^ n
  pub apart : x ≡ y → ⊥
  pub same : target rows c x ≡ target rows c y

pub target_inj : (rows : List ℕ) (c x y : ℕ) → target rows c x ≡ target rows c y → applied rows (bit_xor x y) ≡ 0
unfolding target
target_inj rows c x y e =
    apply_xor rows x y
    ∙ ap (λ (k : ℕ). bit_xor k (applied rows y))
    (sym (xor_cancel_r (applied rows x) c) ∙ ap (λ (k : ℕ). bit_xor k c) e ∙ xor_cancel_r (applied rows y) c)
    ∙ xor_self (applied rows y)

pub clash→singular : (n : ℕ) (rows : List ℕ) (c : ℕ) → Clash n rows c → singular n rows ≡ true
unfolding singular
clash→singular n rows c h =
    any_intro (kills rows) (2 ^ n) (bit_xor h.x h.y) (xor_lt n h.x h.y h.x_lt h.y_lt)
    (kills_intro rows (bit_xor h.x h.y)
    (⊎_elim (λ (e : bit_xor h.x h.y ≡ 0). absurd (h.apart (xor-eq h.x h.y e))) (λ p. p) (eq-zero-or-pos (bit_xor h.x h.y)))
    (target_inj rows c h.x h.y h.same))

pub singular→clash : (n : ℕ) (rows : List ℕ) (c : ℕ) → singular n rows ≡ true → Clash n rows c
unfolding singular target
singular→clash n rows c e =
    let f = any_elim (kills rows) (2 ^ n) e in
    let k = kills_elim rows f.0 f.2 in
    record {
      x = f.0;
      y = 0;
      x_lt = f.1;
      y_lt = pow_pos n;
      apart = λ q. omega (arith, k.0, q);
      same = ap (λ (u : ℕ). bit_xor u c) (k.1 ∙ sym (apply_zero rows));
    }

-- a matrix is regular where it sends only zero to zero, as the identity does
pub regular_intro : (n : ℕ) (rows : List ℕ) → ((z : ℕ) → z < 2 ^ n → applied rows z ≡ 0 → z ≡ 0) → singular n rows ≡ false
unfolding singular
regular_intro n rows f = none_intro (kills rows) (2 ^ n) (λ z h. go z h (kills rows z) refl)
  where
    go : (z : ℕ) → z < 2 ^ n → (b : Bool) → kills rows z ≡ b → b ≡ false
    go z h true e = let k = kills_elim rows z e in absurd (omega (arith, k.0, f z h k.1))
    go z h false e = refl

pub identity_regular : (n : ℕ) → singular n (identity n) ≡ false
identity_regular n = regular_intro n (identity n) (λ z h e. sym (apply_identity n z h) ∙ e)

-- in a matrix that is not singular only zero is sent to zero, and a target has one source
pub regular_zero : (n : ℕ) (rows : List ℕ) (z : ℕ) → singular n rows ≡ false → z < 2 ^ n → applied rows z ≡ 0 → z ≡ 0
unfolding singular
regular_zero n rows z s h e =
    ⊎_elim (λ q. q) (λ (p : 0 < z). absurd (true≢false (sym (kills_intro rows z p e) ∙ none_elim (kills rows) (2 ^ n) z s h))) (eq-zero-or-pos z)

pub regular_inj : (n : ℕ) (rows : List ℕ) (c x y : ℕ) → singular n rows ≡ false → x < 2 ^ n → y < 2 ^ n
    → target rows c x ≡ target rows c y → x ≡ y
regular_inj n rows c x y s hx hy e = xor-eq x y (regular_zero n rows (bit_xor x y) s (xor_lt n x y hx hy) (target_inj rows c x y e))

pub source-target : (n : ℕ) (rows : List ℕ) (c x : ℕ) → singular n rows ≡ false → x < 2 ^ n → source n rows c (target rows c x) ≡ x
unfolding source
source-target n rows c x s h =
    least_is (λ z. eqb (target rows c z) (target rows c x)) (2 ^ n) x h (eq-eqb (target rows c x) (target rows c x) refl)
    (λ j l. ne_eqb (target rows c j) (target rows c x) (λ e. omega (arith, regular_inj n rows c j x s (omega arith) h e)))

pub target-source : (n : ℕ) (rows : List ℕ) (c y : ℕ) → source n rows c y < 2 ^ n → target rows c (source n rows c y) ≡ y
unfolding source
target-source n rows c y h = eqb-true (target rows c (source n rows c y)) y (least_holds (λ z. eqb (target rows c z) y) (2 ^ n) h)

-- ---- the least vector that a singular matrix sends to zero
module _ (n : ℕ) (rows : List ℕ) where
  -- it is one: not zero, below 2 ^ n, and sent to zero
  pub kernel_killed : singular n rows ≡ true → (0 < kernel n rows) × (kernel n rows < 2 ^ n) × (applied rows (kernel n rows) ≡ 0)
  unfolding singular kernel
  kernel_killed s =
      let f = any_elim (kills rows) (2 ^ n) s in
      let k = kills_elim rows (first_passing (kills rows) (2 ^ n)) (first_found (kills rows) (2 ^ n) f.0 f.1 f.2) in
      (k.0, first_lt (kills rows) (2 ^ n) (pow_pos n), k.1)

  pub kernel-least : (y : ℕ) → 0 < y → y < kernel n rows → applied rows y ≡ 0 → ⊥
  unfolding kernel
  kernel-least y p h e = true≢false (sym (kills_intro rows y p e) ∙ first_before (kills rows) (2 ^ n) y h)

  -- where there is none it is 0, so it tells whether the matrix is singular
  pub kernel_none : singular n rows ≡ false → kernel n rows ≡ 0
  unfolding singular kernel
  kernel_none s = first_none (kills rows) (2 ^ n) s

  pub kernel_regular : kernel n rows ≡ 0 → singular n rows ≡ false
  kernel_regular e = by_test (singular n rows) (λ s. absurd (omega (arith, e, (kernel_killed s).0))) (λ s. s)

  pub kernel-singular : (kernel n rows ≡ 0 → ⊥) → singular n rows ≡ true
  kernel-singular f = by_test (singular n rows) (λ s. s) (λ s. absurd (f (kernel_none s)))

  pub kernel_tells : not (eqb (kernel n rows) 0) ≡ singular n rows
  kernel_tells =
      by_test (singular n rows) (λ s. ap not (ne_eqb (kernel n rows) 0 (λ e. omega (arith, e, (kernel_killed s).0))) ∙ sym s)
      (λ s. ap not (eq-eqb (kernel n rows) 0 (kernel_none s)) ∙ sym s)

-- where every row is zero, 1 is sent to zero
pub zero_rows : (n : ℕ) (rows : List ℕ) → 0 < n → length rows ≤ n → ((i : ℕ) → i < n → get_or rows i 0 ≡ 0) → kernel n rows ≡ 1
unfolding kernel kills
zero_rows n rows h few zero =
    first_is (kills rows) (2 ^ n) 1 (pow-lt {i = 0} h) (kills_intro rows 1 (omega arith) sent)
    (λ j l. ap (kills rows) (lt-one l))
  where
    sent : applied rows 1 ≡ 0
    sent = bits-zero (length rows) (applied rows 1) (apply_lt rows 1) (λ i l. apply_bit rows 1 i ∙ ap (λ (r : ℕ). parity (bit_and r 1)) (zero i (omega arith)) ∙ parity-zero)

-- what a matrix sends to zero can be added to an address: the target stays
pub target_stays : (rows : List ℕ) (c x z : ℕ) → applied rows z ≡ 0 → target rows c (bit_xor x z) ≡ target rows c x
unfolding target
target_stays rows c x z e =
    ap (λ (k : ℕ). bit_xor k c) (apply_xor rows x z ∙ ap (bit_xor (applied rows x)) e ∙ xor_zero_r (applied rows x))
