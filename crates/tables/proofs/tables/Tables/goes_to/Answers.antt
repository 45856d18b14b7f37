-- `tables::tables::Tables::goes_to` meets its contract: rows applied, then the complement. Assumes nothing.
use mathlib.Core.Path.{ap}
use Prim.Native.Nat.{ℕ}
use native.Mathlib.Omega.{arith}
use lib.Bits.{bit_xor}
use Rattle.algebra.specs.Matrix.{target}
use Rattle.tables.proofs.Sizes.{records_fit}
use Rattle.bank.proofs.Limits.{limits→allowed}
use Rattle.tables.proofs.tables.Tables.goes_to.Goals as goal

pub overflow_cast-x : goal.overflow_cast-x
overflow_cast-x c = omega (arith, c.requires.1, records_fit (limits→allowed c.args.self.now.geometry c.requires.0))

pub returns : goal.returns
unfolding target
returns c = rw c.from.ensures (ap (λ (k : ℕ). bit_xor k c.args.self.now.complement) c.apply.ensures)
