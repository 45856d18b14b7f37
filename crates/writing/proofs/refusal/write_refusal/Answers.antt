-- `writing::refusal::write_refusal` meets its contract: one line, and room for it. Assumes nothing.
use mathlib.Core.Path.{◌∙◌, sym}
use mathlib.Core.List.{[], ◌∷◌, ◌++◌}
use native.Mathlib.Omega.{arith}
use Rattle.text.proofs.Decimals.{line_short}
use Rattle.writing.specs.Refusal.{refused_word}
use Rattle.writing.proofs.Put.{wrote_as}
use Rattle.writing.proofs.Refused.{line-written, other_line, three_line}
use Rattle.writing.proofs.refusal.write_refusal.Goals as goal

pub put_line-requires : goal.put_line-requires
put_line-requires c =
    let a = c.args in
    omega (arith, line_short (refused_word ++ (51 ∷ 32 ∷ [])) a.z.0)

pub returns-then-number : goal.returns-then-number
returns-then-number c =
    let a = c.args in
    line-written _ _ _ _ _ (three_line a.number a.z.0 (c.if-number.true ∙ c.number.ensures))
    (omega (arith, line_short (refused_word ++ (51 ∷ 32 ∷ [])) a.z.0)) c.put_line.ensures

pub put_line-requires-2 : goal.put_line-requires-2
put_line-requires-2 c =
    omega (arith, line_short refused_word c.from.result)

pub returns : goal.returns
returns c =
    let a = c.args in
    line-written _ _ _ _ _ (other_line a.number a.z.0 (λ e. c.if-number.false (e ∙ sym c.number.ensures))) (omega (arith, line_short refused_word a.number))
    (wrote_as refused_word a.number c.put_line-2.ensures c.from.ensures)
