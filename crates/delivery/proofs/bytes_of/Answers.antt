-- `delivery::bytes_of` meets its contract: the product fits. Assumes nothing.
use mathlib.Core.Path.{◌≡◌}
use Prim.Native.Nat.{◌*◌, ◌^◌}
use native.Mathlib.Nat.{mul-le-mul_left}
use native.Mathlib.Omega.{arith}
use lib.Pow.{pow_mono}
use Rattle.bank.proofs.Limits.{limits→allowed}
use Rattle.tables.proofs.Sizes.{area_fits}
use Rattle.delivery.proofs.bytes_of.Goals as goal

pub power-requires : goal.power-requires
power-requires c = let ok = limits→allowed c.args.g c.requires.0 in omega (arith, ok.n_high, c.requires.1)

pub overflow_mul-result : goal.overflow_mul-result
overflow_mul-result c =
    let ok = limits→allowed c.args.g c.requires.0 in
    let product : c.power.result * c.from.result ≡ 2 ^ c.args.k * c.args.g.r = rw (c.power.ensures, c.from.ensures) in
    let no_more = mul-le-mul_left c.args.g.r (pow_mono {i = c.args.k} {j = c.args.g.n} c.requires.1) in
    record { fits = omega (arith, product, no_more, area_fits ok) }
