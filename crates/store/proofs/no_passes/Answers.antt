-- `store::no_passes` meets its contract: no pass, stored, is zero everywhere. Assumes nothing.
use mathlib.Core.Path.{◌∙◌, ap, sym}
use Rattle.planning.specs.declared.Plan.{Plan}
use Rattle.store.proofs.Storing.{stored_none}
use Rattle.store.proofs.no_passes.Goals as goal

pub returns : goal.returns
returns c =
    let a = c.args in
    ap (λ (plan : Plan). record { geometry = a.g; blanks = a.blanks; count = plan.count; rows = plan.rows; complements = plan.complements }) c.empty_plan.ensures
    ∙ sym (stored_none a.g a.blanks)
