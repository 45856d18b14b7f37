-- `tables::tables::Tables::of` meets its contract: the pass is one that can run. Assumes nothing.
use mathlib.Core.Path.{◌∙◌}
use native.Mathlib.Omega.{arith}
use Rattle.planning.proofs.Stored.{route_length}
use Rattle.tables.proofs.Plans.{plan_inside, plan_ready}
use Rattle.tables.specs.Tables.{tables_of}
use Rattle.tables.proofs.tables.Tables.of.Goals as goal

pub tables_for-requires : goal.tables_for-requires
tables_for-requires c =
    rw c.pass_rows-rows.ensures (plan_ready c.args.plan c.requires.0 c.args.p c.requires.1)

pub returns : goal.returns
unfolding tables_of
returns c = c.tables_for.ensures ∙ rw (c.of-pace.ensures, c.pass_rows-rows.ensures)

pub pass_rows-rows-requires : goal.pass_rows-rows-requires
pass_rows-rows-requires c = omega (arith, c.requires.1, c.requires.0.few_passes, route_length c.args.plan)

pub of-pace-requires : goal.of-pace-requires
of-pace-requires c = plan_inside c.args.plan c.requires.0
