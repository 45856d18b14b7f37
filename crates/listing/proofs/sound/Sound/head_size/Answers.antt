-- `listing::sound::Sound::head_size` meets its contract: three lines, each its word, its number and its end. Assumes nothing.
use mathlib.Core.Path.{◌∙◌}
use native.Mathlib.Omega.{arith}
use Rattle.text.proofs.Decimals.{line_short}
use Rattle.listing.specs.Listing.{passes_word, steps_word, result_word}
use Rattle.listing.proofs.Head.{three_long}
use Rattle.listing.proofs.sound.Sound.head_size.Goals as goal

pub overflow_add-result : goal.overflow_add-result
overflow_add-result c =
    omega (arith, c.line_size-passes.ensures, c.line_size-steps.ensures, line_short passes_word c.from.result, line_short steps_word c.total_steps.result)

pub overflow_add-result-2 : goal.overflow_add-result-2
overflow_add-result-2 c =
    omega (
      arith,
      c.line_size-passes.ensures,
      c.line_size-steps.ensures,
      c.line_size-area.ensures,
      line_short passes_word c.from.result,
      line_short steps_word c.total_steps.result,
      line_short result_word c.from-2.result,
    )

pub returns : goal.returns
returns c =
    let s = c.args.self in
    let long = three_long s.plan s.runs c.from.ensures c.total_steps.ensures (c.from-2.ensures ∙ c.result_area.ensures) in
    omega (arith, c.line_size-passes.ensures, c.line_size-steps.ensures, c.line_size-area.ensures, long)
