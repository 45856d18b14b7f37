-- `tables::pace::pass_of` meets its contract: passes are of one length. Assumes nothing.
use Rattle.moving.proofs.Numbers.{pass_pos}
use Rattle.moving.specs.Number.{pass_of}
use Rattle.planning.specs.Stored.{route_of}
use Rattle.bank.proofs.Limits.{limits→allowed}
use Rattle.tables.proofs.pace.pass_of.Goals as goal

pub nonzero_div-result : goal.nonzero_div-result
unfolding route_of
nonzero_div-result c =
    rw c.of.ensures (pass_pos (route_of c.args.plan) (limits→allowed c.args.plan.geometry c.requires))

pub returns : goal.returns
unfolding pass_of
returns c = rw c.of.ensures
