-- `tables::tables::Tables::first_place` meets its contract: the sum of the columns that are picked. Assumes nothing.
use Prim.Native.Nat.{◌%◌, ◌^◌}
use native.Mathlib.Nat.{mod-lt}
use native.Mathlib.Omega.{arith}
use lib.Bits.{xor_lt}
use lib.Pow.{pow_pos}
use Rattle.tables.proofs.Sizes.{memory_fit, records_fit, start_fits, start_lt, stripe_fits}
use Rattle.bank.proofs.Limits.{Allowed, limits→allowed}
use Rattle.tables.proofs.tables.Tables.first_place.Goals as goal

pub overflow_mul-start : goal.overflow_mul-start
overflow_mul-start c =
    let ok : Allowed c.args.self.now.geometry =
    limits→allowed c.args.self.now.geometry c.requires.0 in
    record { fits = rw c.power.ensures (stripe_fits ok c.args.tier c.requires.1) }

pub overflow_mul-start-2 : goal.overflow_mul-start-2
overflow_mul-start-2 c =
    let ok : Allowed c.args.self.now.geometry =
    limits→allowed c.args.self.now.geometry c.requires.0 in
    record { fits = rw (c.power.ensures, c.power-2.ensures) (start_fits ok c.args.tier c.requires.1) }

pub overflow_cast-picks : goal.overflow_cast-picks
overflow_cast-picks c =
    let ok : Allowed c.args.self.now.geometry =
    limits→allowed c.args.self.now.geometry c.requires.0 in
    let m = c.args.self.now.geometry.m in
    let w = xor_lt m _ (c.args.goes.0 % 2 ^ m) (start_lt ok c.args.tier c.requires.1) (mod-lt c.args.goes.0 (pow_pos m)) in
    record {
      fits = rw (c.power.ensures, c.power-2.ensures, c.power-3.ensures)
          (omega (arith, w, memory_fit ok, records_fit ok));
    }
