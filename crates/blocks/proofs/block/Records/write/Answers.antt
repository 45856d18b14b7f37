-- `blocks::block::Records::write` meets its contract: the part that is lent is the block, and comes back filled. Assumes nothing.
use mathlib.Core.Path.{◌≡◌, refl, ◌∙◌}
use Prim.Native.Nat.{◌+◌, ◌-◌, ◌*◌}
use native.Mathlib.Omega.{arith}
use lib.ListN.{length}
use Rattle.algebra.specs.Carry.{place_by}
use Rattle.blocks.proofs.Drives.{block_back}
use Rattle.blocks.proofs.block.Records.write.Goals as goal
use Rattle.copying.proofs.Parts.{length_part, part}

pub returns : goal.returns
returns c =
    let x = c.args in
    let s = x.self in
    let n = s.count * s.r in
    let o = x.block.0 * n in
    let lent = part o (o + n) x.area.now in
    let long : length lent ≡ n = length_part o (o + n) x.area.now c.requires.inside ∙ omega arith in
    block_back s.count s.r s.some (place_by x.base s.columns.now) s.memory.now x.area.now lent c.fill.new.block x.block.0 o
    (o + n - o) refl (omega arith) c.requires.inside long c.fill.ensures
