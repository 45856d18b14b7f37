-- `mover::run::run_steps` meets its contract: the steps done so far, and those up to the end of a pass, are the next ones. Assumes nothing.
use mathlib.Core.Path.{ap, subst, ◌∙◌}
use Prim.Native.Nat.{ℕ, ◌+◌, ◌/◌, ◌%◌, ◌<◌, ◌≤◌, zero-le}
use native.Mathlib.Omega.{arith}
use Rattle.blocks.proofs.Plans.{pass_once, plan_moves, plan_total}
use Rattle.mover.proofs.Passes.{each_is, each_pos, left_lt, pass_here}
use Rattle.moving.proofs.Fits.{as_long_fit}
use Rattle.moving.proofs.Moves.{moves_none}
use Rattle.mover.proofs.Same.{same_after, same_self}
use Rattle.mover.specs.Lent.{bytes_in}
use Rattle.moving.specs.Step.{move}
use Rattle.planning.specs.Pass.{total}
use Rattle.planning.specs.Stored.{route_of}
use Rattle.tables.proofs.Plans.{plan_inside}
use Rattle.mover.proofs.run.run_steps.Goals as goal

pub of-each-requires : goal.of-each-requires
of-each-requires c = plan_inside c.args.plan c.requires.runs

pub loop-done-init : goal.loop-done-init
loop-done-init c =
    let x = c.args in
    record {
      some = zero-le;
      same = same_self x.lent.now;
      moved = moves_none (move (route_of x.plan)) x.first.0 (bytes_in x.lent.now);
    }

pub overflow_add-s : goal.overflow_add-s
overflow_add-s c = omega (arith, c.requires.in_total, c.loop-done-test.true, plan_total c.args.plan c.requires.runs)

pub nonzero_rem-s : goal.nonzero_rem-s
nonzero_rem-s c = each_pos c.args.plan c.requires.runs c.of-each.ensures

pub overflow_sub-each : goal.overflow_sub-each
overflow_sub-each c = omega (arith, left_lt c.args.plan c.requires.runs c.of-each.ensures (c.args.first.0 + c.loop-done.done))

pub nonzero_div-s : goal.nonzero_div-s
nonzero_div-s c = each_pos c.args.plan c.requires.runs c.of-each.ensures

pub of-t-requires : goal.of-t-requires
of-t-requires c =
    let x = c.args in
    (c.requires.runs, pass_here x.plan c.requires.runs c.of-each.ensures (x.first.0 + c.loop-done.done) (omega (arith, c.requires.in_total, c.loop-done-test.true)))

pub run_pass-requires : goal.run_pass-requires
run_pass-requires c =
    let x = c.args in
    let l = c.loop-done in
    let s = x.first.0 + l.done in
    let here : s < total (route_of x.plan) = omega (arith, c.requires.in_total, c.loop-done-test.true) in
    let now = bytes_in l.lent in
    let same = l.invariant.same in
    let fit = as_long_fit x.plan.geometry (bytes_in x.lent.now) now c.requires.fitting same.area0_long same.area1_long same.memory_long in (
      rw c.of-t.ensures (plan_moves x.plan c.requires.runs (s / c.of-each.result.pass) (pass_here x.plan c.requires.runs c.of-each.ensures s here) now fit),
      omega (arith, c.min-k.ensures, here, c.requires.in_total, plan_total x.plan c.requires.runs),
    )

pub loop-done-smaller : goal.loop-done-smaller
loop-done-smaller c =
    let left = left_lt c.args.plan c.requires.runs c.of-each.ensures (c.args.first.0 + c.loop-done.done) in
    omega (arith, c.min-k.ensures, c.loop-done-test.true, left)

pub loop-done-preserved : goal.loop-done-preserved
loop-done-preserved c =
    let x = c.args in
    let l = c.loop-done in
    let n = c.min-k in
    let s = x.first.0 + l.done in
    let each = each_is x.plan c.requires.runs c.of-each.ensures in
    let here : s < total (route_of x.plan) = omega (arith, c.requires.in_total, c.loop-done-test.true) in
    let left = left_lt x.plan c.requires.runs c.of-each.ensures s in
    record {
      some = omega (arith, n.ensures, c.loop-done-test.true);
      same = same_after l.invariant.same c.run_pass.ensures.same;
      moved = c.run_pass.ensures.moved
          ∙ pass_once x.plan c.requires.runs x.first.0 l.done n.result (s / c.of-each.result.pass) (bytes_in x.lent.now)
          (pass_here x.plan c.requires.runs c.of-each.ensures s here) c.of-t.ensures (ap (λ (k : ℕ). s / k) each)
          (subst (λ (k : ℕ). s % k + n.result ≤ k) each (omega (arith, n.ensures, left))) l.invariant.moved;
    }
