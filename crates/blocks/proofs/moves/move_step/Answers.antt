-- `blocks::moves::move_step` meets its contract: the side that is read goes by the pass. Assumes nothing.
use Prim.Native.Nat.{◌%◌}
use Rattle.tables.proofs.Paces.{pace_pos}
use Rattle.blocks.proofs.Sides.{side_move, side_ready}
use Rattle.moving.specs.Step.{buffers_of}
use Rattle.moving.specs.Step.Area.{zeroth, first}
use borrow.Author.Tests.{eq-eqb, ne_eqb}
use Rattle.bank.proofs.Limits.{limits→allowed}
use Rattle.blocks.proofs.moves.move_step.Goals as goal

pub standing-at-requires : goal.standing-at-requires
standing-at-requires c =
    pace_pos c.requires.prepared.paced (limits→allowed c.args.t.geometry c.requires.prepared.ready.inside)

pub move_between-requires : goal.move_between-requires
move_between-requires c =
    let x = c.args in
    side_ready x.t x.s.0 (buffers_of x.area0.now x.area1.now x.memory.now) zeroth c.standing-at.ensures c.requires

pub move_between-requires-else-side-eq0 : goal.move_between-requires-else-side-eq0
move_between-requires-else-side-eq0 c =
    let x = c.args in
    side_ready x.t x.s.0 (buffers_of x.area0.now x.area1.now x.memory.now) first c.standing-at.ensures c.requires

pub returns-then-side-eq0 : goal.returns-then-side-eq0
returns-then-side-eq0 c =
    let x = c.args in
    let e = c.move_between.ensures in
    side_move x.t x.s.0 (buffers_of x.area0.now x.area1.now x.memory.now) zeroth c.standing-at.ensures
    (rw (eq-eqb (x.t.pass % 2) 0 c.if-side-eq0.true)) e.0 e.1 e.2

pub returns-else-side-eq0 : goal.returns-else-side-eq0
returns-else-side-eq0 c =
    let x = c.args in
    let e = c.move_between-else-side-eq0.ensures in
    side_move x.t x.s.0 (buffers_of x.area0.now x.area1.now x.memory.now) first c.standing-at.ensures
    (rw (ne_eqb (x.t.pass % 2) 0 c.if-side-eq0.false)) e.0 e.1 e.2
