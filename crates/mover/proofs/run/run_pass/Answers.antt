-- `mover::run::run_pass` meets its contract: i steps are done. Assumes nothing.
use mathlib.Core.Path.{refl, ◌∙◌}
use Rattle.blocks.specs.Moving.{move_by}
use Rattle.mover.proofs.Same.{same_after, same_self}
use Rattle.mover.specs.Lent.{bytes_in}
use Rattle.moving.proofs.Fits.{as_long_fit}
use Rattle.moving.proofs.Moves.{moves_more, moves_none}
use Rattle.mover.proofs.run.run_pass.Goals as goal

pub loop-i-init : goal.loop-i-init
loop-i-init c =
    let x = c.args in record {
      same = same_self x.lent.now;
      moved = moves_none (move_by x.t) x.first.0 (bytes_in x.lent.now);
    }

pub move_step-requires : goal.move_step-requires
move_step-requires c =
    let x = c.args in
    let l = c.loop-i in
    let same = l.invariant.same in record {
      prepared = c.requires.0.prepared;
      fitting = as_long_fit x.t.geometry (bytes_in x.lent.now) (bytes_in l.lent) c.requires.0.fitting same.area0_long same.area1_long same.memory_long;
    }

pub loop-i-preserved : goal.loop-i-preserved
loop-i-preserved c =
    let x = c.args in
    let l = c.loop-i in
    let kept = c.move_step.auto in record {
      same = same_after l.invariant.same
          (record { area0_same = refl; area1_same = refl; memory_same = refl; area0_long = kept.area0; area1_long = kept.area1; memory_long = kept.memory });
      moved = c.move_step.ensures ∙ moves_more (move_by x.t) x.first.0 l.i (bytes_in x.lent.now) (bytes_in l.lent) l.invariant.moved;
    }
