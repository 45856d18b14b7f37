-- `stripes::stripe::blank_step` meets its contract: memory's part is zero, and what the area takes from there is too. Assumes nothing.
use mathlib.Core.Path.{◌∙◌}
use native.Mathlib.Omega.{arith}
use Rattle.stripes.proofs.Stripes.{area_blanked, memory_blanked, read_area, read_memory, size_pos}
use Rattle.stripes.proofs.stripe.blank_step.Goals as goal

pub overflow_mul-at : goal.overflow_mul-at
overflow_mul-at c =
    record { fits = rw c.of-s.ensures (omega (arith, read_memory c.requires, c.well_formed)) }

pub overflow_mul-s : goal.overflow_mul-s
overflow_mul-s c =
    record { fits = rw c.of-s.ensures (omega (arith, read_memory c.requires, c.well_formed)) }

pub clear_part-requires : goal.clear_part-requires
clear_part-requires c =
    rw c.of-s.ensures (read_memory c.requires)

pub lay-requires : goal.lay-requires
lay-requires c =
    let k = c.requires in
    rw c.of-s.ensures (read_area k, omega (arith, read_memory k), size_pos k)

pub returns : goal.returns
returns c =
    let k = c.requires in (
      c.lay.ensures ∙ rw (c.clear_part.ensures, c.of-s.ensures) (area_blanked k),
      c.clear_part.ensures ∙ rw c.of-s.ensures (memory_blanked k),
    )
