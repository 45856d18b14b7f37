-- `mover::step::move_asked` meets its contract: the tables are those of the step's pass. Assumes nothing.
use mathlib.Core.Path.{◌≡◌, ap, refl, sym, ◌∙◌}
use Prim.Native.Nat.{ℕ, ◌+◌, ◌<◌, ◌≤◌}
use native.Mathlib.Omega.{arith}
use Rattle.blocks.proofs.Plans.{move_same, pass_in_lem, plan_moves}
use Rattle.blocks.specs.Moving.{move_by}
use Rattle.mover.specs.Lent.{bytes_in}
use Rattle.moving.specs.Number.{pass_of}
use Rattle.planning.specs.Inner.{Runs}
use Rattle.planning.specs.Pass.{total}
use Rattle.planning.specs.Stored.{route_of}
use Rattle.planning.specs.declared.Plan.{Plan}
use Rattle.tables.proofs.Plans.{plan_inside}
use Rattle.tables.specs.declared.tables.Tables.{Tables}
use Rattle.mover.proofs.step.move_asked.Goals as goal

-- the pass of a step that the plan has is one of the plan's
pass_here : (plan : Plan) → Runs (route_of plan) → (s p : ℕ) → s + 1 ≤ total (route_of plan) → p ≡ pass_of (route_of plan) s → p < plan.count
pass_here plan k s p h e = rw e (pass_in_lem plan k s (omega arith))

pub pass_of-requires : goal.pass_of-requires
pass_of-requires c = plan_inside c.args.plan c.requires.runs

pub of-t-requires : goal.of-t-requires
of-t-requires c = (c.requires.runs, pass_here c.args.plan c.requires.runs c.args.asked.0 _ c.requires.in_total c.pass_of.ensures)

pub move_step-requires : goal.move_step-requires
move_step-requires c =
    rw c.of-t.ensures
    (plan_moves c.args.plan c.requires.runs c.pass_of.result (pass_here c.args.plan c.requires.runs c.args.asked.0 _ c.requires.in_total c.pass_of.ensures) (bytes_in c.args.lent.now) c.requires.fitting)

pub returns : goal.returns
returns c =
    let x = c.args in
    let v = bytes_in x.lent.now in record {
      same = record {
        area0_same = refl;
        area1_same = refl;
        memory_same = refl;
        area0_long = c.move_step.auto.area0;
        area1_long = c.move_step.auto.area1;
        memory_long = c.move_step.auto.memory;
      };
      moved = c.move_step.ensures
          ∙ ap (λ (t : Tables). move_by t x.asked.0 v) c.of-t.ensures
          ∙ move_same x.plan c.requires.runs c.pass_of.result (pass_here c.args.plan c.requires.runs c.args.asked.0 _ c.requires.in_total c.pass_of.ensures) x.asked.0 v (sym c.pass_of.ensures);
    }
