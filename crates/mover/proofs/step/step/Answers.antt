-- `mover::step::step` meets its contract: the number first, then a way for each. Assumes nothing.
use mathlib.Core.Path.{◌≡◌, ap, sym, ◌∙◌}
use Prim.Native.Nat.{◌*◌}
use lib.ListN.{length}
use Rattle.bank.specs.Limits.{PASSES, ROWS}
use Rattle.mover.proofs.Asked.{again_promise, done_promise, moves_ready, number_is, refused_promise}
use Rattle.moving.specs.Call.{lent}
use Rattle.mover.specs.Turn.{number_told}
use Rattle.mover.specs.declared.step.Turn.{Turn}
use Rattle.std.proofs.Common.{Ok}
use borrow.Author.Rules.{rules}
use Rattle.mover.proofs.step.step.Goals as goal

pub returns-in-Err : goal.returns-in-Err
returns-in-Err c =
    let x = c.args in
    let v = lent x.state x.area0.now x.area1.now x.memory.now in
    refused_promise x.plan v x.asked.0 c.in-Err.refusal (c.in-Err.ensures ∙ number_is x.plan v x.asked.0) c.number.ensures c.kept.ensures

pub move_asked-requires : goal.move_asked-requires
move_asked-requires c =
    let x = c.args in
    let v = lent x.state x.area0.now x.area1.now x.memory.now in
    let rows_long : length x.plan.rows ≡ PASSES * ROWS = search rules in
    moves_ready x.plan v x.asked.0 rows_long c.in-Ok.turn (c.in-Ok.ensures ∙ number_is x.plan v x.asked.0)

pub returns-in-Next : goal.returns-in-Next
returns-in-Next c =
    let x = c.args in
    let v = lent x.state x.area0.now x.area1.now x.memory.now in
    done_promise x.plan v x.asked.0 (sym (c.in-Ok.ensures ∙ number_is x.plan v x.asked.0) ∙ ap (λ (t : Turn). number_told (Ok t)) c.in-Next.is)
    c.advanced.ensures (search rules)

pub returns-in-Again : goal.returns-in-Again
returns-in-Again c =
    let x = c.args in
    let v = lent x.state x.area0.now x.area1.now x.memory.now in
    again_promise x.plan v x.asked.0 (sym (c.in-Ok.ensures ∙ number_is x.plan v x.asked.0) ∙ ap (λ (t : Turn). number_told (Ok t)) c.in-Again.is)
    c.kept-in-Again.ensures (search rules)
