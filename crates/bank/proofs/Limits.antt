-- What does a geometry inside the limits give a proof? Assumes nothing.
use mathlib.Core.Path.{◌≡◌, refl}
use mathlib.Core.Bool.{Bool, true, false, ◌&&◌}
use Prim.Native.Nat.{ℕ, ◌+◌, ◌-◌, ◌*◌, ◌<◌, ◌≤◌}
use lib.Dec.{ltb, leb}
use native.Mathlib.Omega.{arith}
use native.Mathlib.Nat.{mul-le-mul}
use Rattle.algebra.specs.Vector.{WORD}
use borrow.Author.Tests.{ltb-true, leb-true, lt-ltb, le-leb}
use Rattle.algebra.proofs.Search.{and_l, and_r}
use Rattle.bank.specs.Limits.{ROWS, BYTES}
use Rattle.bank.specs.Geometry.{in_limits}
use Rattle.bank.specs.declared.Geometry.{Geometry}

-- the limits one by one
pub record Allowed (g : Geometry) : Type 0 where
  pub n_low : 2 ≤ g.n
  pub n_high : g.n ≤ ROWS
  pub block_below : g.b < g.m
  pub memory_below : g.m < g.n
  pub drives_fit : g.b + g.d ≤ g.m
  pub r_low : 1 ≤ g.r
  pub r_high : g.r ≤ BYTES

pub limits→allowed : (g : Geometry) → in_limits g ≡ true → Allowed g
unfolding in_limits
limits→allowed g e =
    let n1 = leb 2 g.n in
    let n2 = n1 && leb g.n ROWS in
    let b1 = n2 && ltb g.b g.m in
    let m1 = b1 && ltb g.m g.n in
    let d1 = m1 && leb (g.b + g.d) g.m in
    let r1 = d1 && leb 1 g.r in
    let e6 = and_l r1 (leb g.r BYTES) e in
    let e5 = and_l d1 (leb 1 g.r) e6 in
    let e4 = and_l m1 (leb (g.b + g.d) g.m) e5 in
    let e3 = and_l b1 (ltb g.m g.n) e4 in
    let e2 = and_l n2 (ltb g.b g.m) e3 in
    record {
      n_low = leb-true 2 g.n (and_l n1 (leb g.n ROWS) e2);
      n_high = leb-true g.n ROWS (and_r n1 (leb g.n ROWS) e2);
      block_below = ltb-true g.b g.m (and_r n2 (ltb g.b g.m) e3);
      memory_below = ltb-true g.m g.n (and_r b1 (ltb g.m g.n) e4);
      drives_fit = leb-true (g.b + g.d) g.m (and_r m1 (leb (g.b + g.d) g.m) e5);
      r_low = leb-true 1 g.r (and_r d1 (leb 1 g.r) e6);
      r_high = leb-true g.r BYTES (and_r r1 (leb g.r BYTES) e);
    }

pub allowed→limits : (g : Geometry) → Allowed g → in_limits g ≡ true
unfolding in_limits
allowed→limits g k =
    rw (
      le-leb 2 g.n k.n_low,
      le-leb g.n ROWS k.n_high,
      lt-ltb g.b g.m k.block_below,
      lt-ltb g.m g.n k.memory_below,
      le-leb (g.b + g.d) g.m k.drives_fit,
      le-leb 1 g.r k.r_low,
      le-leb g.r BYTES k.r_high,
    )

-- a geometry that breaks a limit
pub outside : (g : Geometry) → (Allowed g → ⊥) → in_limits g ≡ false
outside g f = go (in_limits g) refl
  where
    go : (t : Bool) → in_limits g ≡ t → t ≡ false
    go true e = absurd (f (limits→allowed g e))
    go false e = refl

-- what code asks of the exponents, so that a search finds it: each is a shift of a word, and a place of an array
module _ (g : Geometry) (e : in_limits g ≡ true) where
  pub n_shift : g.n < 64
  n_shift = omega (arith, limits→allowed g e)

  pub b_shift : g.b < 64
  b_shift = omega (arith, limits→allowed g e)

  pub d_shift : g.d < 64
  d_shift = omega (arith, limits→allowed g e)

  pub m_shift : g.m < 64
  m_shift = omega (arith, limits→allowed g e)

  pub m_b_shift : g.m - g.b < 64
  m_b_shift = omega (arith, limits→allowed g e)

  pub b_word : g.b < WORD
  b_word = omega (arith, limits→allowed g e)

  pub b_under_m : g.b ≤ g.m
  b_under_m = omega (arith, limits→allowed g e)

  pub n_room : g.n ≤ ROWS
  n_room = (limits→allowed g e).n_high

  pub m_room : g.m ≤ ROWS
  m_room = omega (arith, limits→allowed g e)

pub ruleset limits = (n_shift, b_shift, d_shift, m_shift, m_b_shift, b_word, b_under_m, n_room, m_room)

-- n + 1 lines of n + 1 bytes are no more than those of the most rows
pub square_small : (n : ℕ) → n ≤ ROWS → (n + 1) * (n + 1) ≤ (ROWS + 1) * (ROWS + 1)
square_small n h = mul-le-mul {n₁ = n + 1} {m₁ = n + 1} {n₂ = ROWS + 1} {m₂ = ROWS + 1} (omega arith) (omega arith)
