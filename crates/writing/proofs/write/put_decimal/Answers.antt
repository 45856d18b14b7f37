-- `writing::write::put_decimal` meets its contract: what is left of the number and what is written are its digits. Assumes nothing.
use mathlib.Core.Path.{ap}
use Prim.Native.Nat.{ℕ, ◌+◌}
use native.Mathlib.Omega.{arith}
use Rattle.writing.proofs.Digits.{partly_none, partly_more}
use Rattle.writing.proofs.write.put_decimal.Goals as goal

pub loop-i-init : goal.loop-i-init
loop-i-init c = let a = c.args in partly_none a.room.now a.at a.v _ (ap (λ (k : ℕ). a.at + k) c.decimal_size.ensures)

pub loop-i-preserved : goal.loop-i-preserved
loop-i-preserved c = partly_more c.loop-i.invariant (omega arith) (omega arith) (omega arith)
