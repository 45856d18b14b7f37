-- `running::badly_stored` meets its contract: stray bits, then places meant to be zero. Assumes nothing.
use mathlib.Core.Path.{sym, ◌∙◌}
use mathlib.Core.Bool.{◌||◌}
use Rattle.std.proofs.Math.Bool.{or_assoc}
use Rattle.planning.specs.Running.{spare_complement, spare_row, stray_complement, stray_row}
use Rattle.running.proofs.Judging.{or_then, or_else}
use Rattle.running.proofs.badly_stored.Goals as goal

pub returns-then-has_stray : goal.returns-then-has_stray
returns-then-has_stray c =
    let plan = c.args.plan in
    let stray = c.has_stray.ensures in
    or_then (stray_row plan || stray_complement plan) (spare_row plan || spare_complement plan) (sym stray ∙ c.if-has_stray.true) stray
    ∙ sym (or_assoc (stray_row plan || stray_complement plan) (spare_row plan) (spare_complement plan))

pub returns-else-has_stray : goal.returns-else-has_stray
returns-else-has_stray c =
    let plan = c.args.plan in
    or_else (stray_row plan || stray_complement plan) (spare_row plan || spare_complement plan)
    (sym c.has_stray.ensures ∙ c.if-has_stray.false) c.has_spare.ensures
    ∙ sym (or_assoc (stray_row plan || stray_complement plan) (spare_row plan) (spare_complement plan))
