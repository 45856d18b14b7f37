-- `copying::copy_part` meets its contract. Assumes nothing.
use mathlib.Core.Path.{◌≡◌, ap}
use Prim.Native.Nat.{ℕ, ◌+◌, ◌-◌}
use native.Mathlib.Omega.{arith}
use lib.ListN.{length, get_or}
use Rattle.moving.proofs.Laid.{within_ap}
use Rattle.copying.proofs.Parts.{back_each}
use Rattle.moving.specs.Laid.{laid}
use Rattle.copying.proofs.copy_part.Goals as goal

pub returns : goal.returns
unfolding laid
returns c =
    let x = c.args in
    let n = length x.src.now in
    let ys = c.copy_into.new.dst in
    let e : ys ≡ x.src.now = c.copy_into.ensures in
    back_each x.at (x.at + n - x.at) x.dst.now ys (omega arith) (omega (arith, ap length e)) _
    (λ i l. within_ap x.at _ n i _ _ _ (omega arith) (λ h m. rw e (ap (λ (k : ℕ). get_or x.src.now k 0) (omega arith))))
