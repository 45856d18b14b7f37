-- `running::can_run` meets its contract: the judgement, then the next step against the total. Assumes nothing.
use mathlib.Core.Path.{sym, ◌∙◌}
use Rattle.planning.specs.Running.{can_run}
use Rattle.running.proofs.Judging.{and_else, can_run_next}
use Rattle.running.proofs.can_run.Goals as goal

pub returns-then-is_sound : goal.returns-then-is_sound
returns-then-is_sound c =
    let a = c.args in
    let steps = c.total_steps in
    can_run_next a.plan a.state steps.result (sym c.is_sound.ensures ∙ c.if-is_sound.true) steps.ensures

pub returns-else-is_sound : goal.returns-else-is_sound
unfolding can_run
returns-else-is_sound c = let sound = c.is_sound.ensures in and_else _ _ (sym sound ∙ c.if-is_sound.false) sound
