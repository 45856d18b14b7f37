-- `stripes::stripe::Stripe::of` meets its contract: no number that it works out is too large for its word. Assumes nothing.
use Prim.Native.Nat.{◌+◌, ◌*◌, ◌-◌, ◌^◌, ◌<◌}
use native.Mathlib.Omega.{arith}
use Rattle.bank.proofs.Limits.{limits→allowed}
use Rattle.bank.specs.Geometry.{drives}
use Rattle.stripes.proofs.Stripes.{first_fits, size_fits}
use Rattle.stripes.proofs.stripe.Stripe.of.Goals as goal
use Rattle.tables.proofs.Sizes.{stripe_fits}

pub overflow_mul-size : goal.overflow_mul-size
overflow_mul-size c = record { fits = rw (c.power.ensures, c.from.ensures) (size_fits (limits→allowed c.args.g c.requires.0)) }

pub overflow_mul-place : goal.overflow_mul-place
overflow_mul-place c =
    record { fits = rw c.power-drives.ensures (stripe_fits (limits→allowed c.args.g c.requires.0) c.args.tier c.requires.2) }

pub overflow_mul-result : goal.overflow_mul-result
overflow_mul-result c =
    let x = c.args in
    let first : x.load * 2 ^ (x.g.m - x.g.b) + x.tier * drives x.g < 2 ^ 64 =
    first_fits (limits→allowed x.g c.requires.0) x.load x.tier c.requires.1 c.requires.2 in
    record { fits = rw c.power-blocks.ensures (omega (arith, first)) }

pub overflow_add-result : goal.overflow_add-result
overflow_add-result c =
    let x = c.args in
    record {
      fits = rw (c.power-blocks.ensures, c.power-drives.ensures)
          (first_fits (limits→allowed x.g c.requires.0) x.load x.tier c.requires.1 c.requires.2);
    }
