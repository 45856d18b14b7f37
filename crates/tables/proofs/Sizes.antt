-- Which numbers of a bank inside the limits fit a machine word? Assumes nothing.
use mathlib.Core.Path.{◌≡◌, ap, subst}
use Prim.Native.Nat.{ℕ, ◌*◌, ◌<◌, ◌≤◌, ◌^◌}
use native.Mathlib.Nat.{add-zero, div-le_self, mul-le-mul_left}
use native.Mathlib.Omega.{arith}
use lib.Pow.{pow_mono, pow_pos}
use Rattle.bank.specs.declared.Geometry.{Geometry}
use Rattle.bank.specs.Geometry.{block, drives, memory_size, records, tiers}
use Rattle.algebra.specs.Vector.{WORD}
use Rattle.moving.proofs.Drives.{first_lt}
use Rattle.moving.specs.Blocks.{block_start}
use Rattle.bank.proofs.Limits.{Allowed}

-- the first record of a tier's first block
pub start_is : (g : Geometry) (tier : ℕ) → block_start g tier 0 ≡ tier * drives g * block g
start_is g tier = ap (λ (k : ℕ). k * block g) (add-zero (tier * drives g))

module _ {g : Geometry} (ok : Allowed g) where
  pub records_fit : records g ≤ 2 ^ WORD
  records_fit = pow_mono {i = g.n} {j = WORD} (omega (arith, ok.n_high))

  pub memory_fit : memory_size g ≤ records g
  memory_fit = pow_mono {i = g.m} {j = g.n} (omega (arith, ok.memory_below))

  pub tiers_small : tiers g ≤ records g
  unfolding tiers
  tiers_small = omega (arith, div-le_self (memory_size g) (block g * drives g), memory_fit)

  -- the bytes of an area, and of memory
  pub area_fits : records g * g.r < 2 ^ 64
  area_fits = omega (arith, mul-le-mul_left (records g) ok.r_high, records_fit)

  pub memory_fits : memory_size g * g.r < 2 ^ 64
  memory_fits = omega (arith, mul-le-mul_left (memory_size g) ok.r_high, memory_fit, records_fit)

  module _ (tier : ℕ) (ht : tier < tiers g) where
    pub start_lt : tier * drives g * block g < memory_size g
    start_lt = subst (λ (k : ℕ). k < memory_size g) (start_is g tier) (first_lt g ok tier 0 ht (pow_pos g.d))

    pub start_fits : tier * drives g * block g < 2 ^ 64
    start_fits = omega (arith, start_lt, memory_fit, records_fit)

    pub stripe_fits : tier * drives g < 2 ^ 64
    stripe_fits = omega (arith, start_fits, mul-le-mul_left (tier * drives g) (pow_pos g.b))
