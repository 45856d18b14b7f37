-- `mover::run::run_steps` meets its contract: the steps done so far, and those up to the end of a pass, are the next ones. Assumes nothing.
use mathlib.Core.Path.{◌≡◌}
use Prim.Native.Nat.{◌-◌, ◌≤◌}
use Rattle.mover.specs.Lent.{SameLent, bytes_in}
use Rattle.moving.specs.Step.{move, moves_from}
use Rattle.planning.specs.Stored.{route_of}
use Rattle.mover.proofs.run.run_steps.Given as goal

abbrev pub invariant-loop-done : goal.invariant-loop-done
invariant-loop-done l = record {
  some : l.done ≤ l.count;
  same : SameLent l.initial.lent l.lent;
  moved : bytes_in l.lent ≡ moves_from (move (route_of l.plan)) l.fn.first.0 l.done (bytes_in l.initial.lent);
}

abbrev pub decreases-loop-done : goal.decreases-loop-done
decreases-loop-done l = l.count - l.done
