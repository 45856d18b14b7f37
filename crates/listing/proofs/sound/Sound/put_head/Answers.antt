-- `listing::sound::Sound::put_head` meets its contract: three lines, one after the other. Assumes nothing.
use mathlib.Core.Path.{◌∙◌}
use native.Mathlib.Omega.{arith}
use Rattle.listing.specs.Listing.{passes_word}
use Rattle.writing.proofs.Put.{same_size}
use Rattle.listing.proofs.Passes.{head_long}
use Rattle.listing.proofs.Head.{steps_room, result_room, head_written}
use Rattle.listing.proofs.sound.Sound.put_head.Goals as goal

pub put_line-p-requires : goal.put_line-p-requires
put_line-p-requires c = omega (arith, head_long c.args.self.plan, c.requires, same_size passes_word c.from-passes.ensures)

pub put_line-q-requires : goal.put_line-q-requires
put_line-q-requires c =
    let s = c.args.self in
    steps_room s.plan s.runs c.from-passes.ensures c.total_steps-steps.ensures (c.from-area.ensures ∙ c.result_area.ensures) c.requires c.put_line-p.ensures

pub put_line-requires : goal.put_line-requires
put_line-requires c =
    let s = c.args.self in
    result_room s.plan s.runs c.from-passes.ensures c.total_steps-steps.ensures (c.from-area.ensures ∙ c.result_area.ensures) c.requires c.put_line-p.ensures
    c.put_line-q.ensures

pub returns : goal.returns
returns c =
    let s = c.args.self in
    head_written s.plan s.runs c.from-passes.ensures c.total_steps-steps.ensures (c.from-area.ensures ∙ c.result_area.ensures) c.requires c.put_line-p.ensures
    c.put_line-q.ensures c.put_line.ensures
