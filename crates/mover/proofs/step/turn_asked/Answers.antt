-- `mover::step::turn_asked` meets its contract: the checks of both calls, then those of a step. Assumes nothing.
use mathlib.Core.Path.{ap, ◌∙◌}
use Prim.Native.Nat.{ℕ}
use lib.ListN.{length}
use Rattle.moving.specs.Call.{turn_number}
use Rattle.moving.specs.Step.{lengths_fit}
use Rattle.planning.proofs.Running.{can_run→sound}
use Rattle.planning.specs.Pass.{total}
use Rattle.planning.specs.Running.{can_run}
use Rattle.planning.specs.Stored.{route_of}
use Rattle.mover.proofs.Asked.{check_goes, total_is}
use Rattle.mover.proofs.step.turn_asked.Goals as goal

pub returns : goal.returns
returns c =
    let x = c.args in
    let turn : ℕ → ℕ = λ n. turn_number n x.state.next.0 x.asked.0 in
    let k = check_goes (can_run x.plan x.state) (lengths_fit x.plan.geometry (length x.lent.now.area0.now) (length x.lent.now.area1.now) (length x.lent.now.memory.now)) (turn (total (route_of x.plan)))
    c.in_ok-ready.ensures in
    c.whose_turn.ensures ∙ ap turn (c.total_steps.ensures ∙ total_is x.plan (can_run→sound x.plan x.state k.0)) ∙ k.1
