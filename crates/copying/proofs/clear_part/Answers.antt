-- `copying::clear_part` meets its contract: the part that is lent comes back zero. Assumes nothing.
use mathlib.Core.Path.{◌≡◌, ap, ◌∙◌}
use Prim.Native.Nat.{ℕ, ◌+◌, ◌-◌}
use native.Mathlib.Omega.{arith}
use lib.ListN.{length, length-replicate, replicate}
use Rattle.algebra.proofs.Lists.{get_or_zeros}
use Rattle.moving.proofs.Laid.{within_ap}
use Rattle.moving.specs.Laid.{cleared}
use Rattle.copying.proofs.Parts.{back_each, length_part, part}
use Rattle.copying.proofs.clear_part.Goals as goal

pub returns : goal.returns
unfolding cleared
returns c =
    let x = c.args in
    let n = length (part x.at (x.at + x.n) x.dst.now) in
    let ys = c.clear.new.dst in
    let e : ys ≡ replicate n 0 = c.clear.ensures in
    back_each x.at (x.at + x.n - x.at) x.dst.now ys (omega arith)
    (ap length e ∙ length-replicate {A = ℕ} n 0 ∙ length_part x.at (x.at + x.n) x.dst.now (omega arith)) _
    (λ i l. within_ap x.at _ x.n i _ _ _ (omega arith) (λ h m. rw e (get_or_zeros n (i - x.at))))
