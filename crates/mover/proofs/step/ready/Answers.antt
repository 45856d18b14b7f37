-- `mover::step::ready` meets its contract: the checks in their order. Assumes nothing.
use mathlib.Core.Path.{◌≡◌, sym, ◌∙◌}
use mathlib.Core.Bool.{true}
use Rattle.planning.proofs.Running.{can_run→sound, sound→checked}
use Rattle.planning.specs.Running.{can_run}
use Rattle.mover.proofs.step.ready.Goals as goal

pub fit-requires : goal.fit-requires
fit-requires c =
    let can : can_run c.args.plan c.args.state ≡ true =
    sym c.can_run.ensures ∙ c.if-not-can_run.false in
    let x = c.args in (sound→checked x.plan (can_run→sound x.plan x.state can)).limits
