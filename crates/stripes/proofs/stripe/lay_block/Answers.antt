-- `stripes::stripe::lay_block` meets its contract: the part that is lent starts at the block's offset. Assumes nothing.
use mathlib.Core.Path.{◌∙◌}
use Prim.Native.Nat.{◌*◌}
use native.Mathlib.Omega.{arith}
use Rattle.copying.proofs.Parts.{laid-lent}
use Rattle.stripes.proofs.stripe.lay_block.Goals as goal

pub returns : goal.returns
returns c =
    let x = c.args in
    c.copy_part.ensures ∙ laid-lent x.dst.now x.src.now (x.to.0 * x.size) x.size (x.from.0 * x.size) (omega arith)
