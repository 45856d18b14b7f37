-- `stripes::stripe::read_step` meets its contract: a stripe lies side by side in the area and in memory. Assumes nothing.
use mathlib.Core.Path.{◌∙◌}
use Rattle.stripes.proofs.Stripes.{read_area, read_is, read_memory, size_pos}
use Rattle.stripes.proofs.stripe.read_step.Goals as goal

pub lay-requires : goal.lay-requires
lay-requires c =
    let k = c.requires in
    rw c.of-s.ensures (read_memory k, read_area k, size_pos k)

pub returns : goal.returns
returns c =
    c.lay.ensures ∙ rw c.of-s.ensures (read_is c.requires)
