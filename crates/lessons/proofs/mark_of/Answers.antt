-- `lessons::mark_of` meets its contract: the target's refusal, or what the answer says, held against the target. Assumes nothing.
use mathlib.Core.Path.{sym}
use Rattle.lessons.proofs.Marks.{mark_refused, mark_same, mark_other}
use Rattle.lessons.proofs.mark_of.Goals as goal

pub returns-then-number-ne0 : goal.returns-then-number-ne0
returns-then-number-ne0 c = mark_refused _ _ _ _ c.target_of-number.ensures c.if-number-ne0.true

pub returns-then-eq : goal.returns-then-eq
returns-then-eq c = mark_same _ _ _ _ c.target_of-number.ensures c.if-number-ne0.false _ c.read_number.ensures (sym c.if-eq.ensures)

pub returns-else-eq : goal.returns-else-eq
returns-else-eq c = mark_other _ _ _ _ c.target_of-number.ensures c.if-number-ne0.false _ c.read_number.ensures (sym c.if-eq.ensures)
