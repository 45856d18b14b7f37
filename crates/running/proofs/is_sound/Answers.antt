-- `running::is_sound` meets its contract: its size, how it is stored, how it is made. Assumes nothing.
use mathlib.Core.Path.{◌≡◌, ap, sym, ◌∙◌}
use mathlib.Core.Bool.{Bool, not, ◌&&◌, ◌||◌}
use Rattle.bank.specs.Geometry.{in_limits}
use Rattle.planning.specs.Running.{count_in_limits, spare_complement, spare_row, stray_complement, stray_row}
use Rattle.planning.specs.declared.Plan.{Plan}
use Rattle.running.proofs.Judging.{and_then, and_else, sound_asked}
use Rattle.running.proofs.is_sound.Goals as goal
use Rattle.running.proofs.is_sound.Goals.{then-size_in_limits, else-size_in_limits}

-- the first two tests
abbrev well_stored : Plan → Bool
well_stored plan =
    (in_limits plan.geometry && count_in_limits plan) && not (stray_row plan || stray_complement plan || spare_row plan || spare_complement plan)

pub returns-then-not-badly_stored : goal.returns-then-not-badly_stored
returns-then-not-badly_stored c =
    let plan = c.args.plan in
    let size = c.size_in_limits.ensures in
    let two : c.if-size_in_limits.value ≡ well_stored plan =
    elim c.if-size_in_limits.branch [
      | then-size_in_limits w ↦ and_then _ _ (sym size ∙ w.if-size_in_limits.true) (w.value-is ∙ ap not w.badly_stored.ensures)
      | else-size_in_limits w ↦ and_else _ _ (sym size ∙ w.if-size_in_limits.false) (w.value-is ∙ size)
    ] in
    and_then _ _ (sym two ∙ c.if-not-badly_stored.true) (ap not c.badly_made.ensures) ∙ sym (sound_asked plan)

pub returns-else-not-badly_stored : goal.returns-else-not-badly_stored
returns-else-not-badly_stored c =
    let plan = c.args.plan in
    let size = c.size_in_limits.ensures in
    let two : c.if-size_in_limits.value ≡ well_stored plan =
    elim c.if-size_in_limits.branch [
      | then-size_in_limits w ↦ and_then _ _ (sym size ∙ w.if-size_in_limits.true) (w.value-is ∙ ap not w.badly_stored.ensures)
      | else-size_in_limits w ↦ and_else _ _ (sym size ∙ w.if-size_in_limits.false) (w.value-is ∙ size)
    ] in
    and_else _ _ (sym two ∙ c.if-not-badly_stored.false) two ∙ sym (sound_asked plan)
