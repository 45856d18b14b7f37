-- `mover::run::run_pass` meets its contract: i steps are done. Assumes nothing.
use mathlib.Core.Path.{◌≡◌}
use Rattle.blocks.specs.Moving.{move_by}
use Rattle.mover.specs.Lent.{SameLent, bytes_in}
use Rattle.moving.specs.Step.{moves_from}
use Rattle.mover.proofs.run.run_pass.Given as goal

abbrev pub invariant-loop-i : goal.invariant-loop-i
invariant-loop-i l = record {
  same : SameLent l.initial.lent l.lent;
  moved : bytes_in l.lent ≡ moves_from (move_by l.t) l.fn.first.0 l.i (bytes_in l.initial.lent);
}
