-- `delivery::deliver` meets its contract: each check returns what is promised, and what the last leaves is set in order. Assumes nothing.
use mathlib.Core.Logic.{⊎_elim}
use Rattle.std.proofs.Common.{arith}
use Rattle.moving.specs.Step.{buffers_of}
use Rattle.bank.proofs.Limits.{limits→allowed}
use Rattle.order.proofs.Accepted.{judgement→accepted}
use Rattle.reading.proofs.Main.{read_taken}
use Rattle.delivery.proofs.Promised.{done_promise, measured, other_length_promise, parts_fit}
use Rattle.delivery.proofs.Promised.{short_area, short_memory, unread_promise}
use Rattle.delivery.proofs.deliver.Goals as goal

pub returns-then-number-ne0 : goal.returns-then-number-ne0
returns-then-number-ne0 g c =
    let v = buffers_of c.args.run.now c.args.spare.now c.args.memory.now in
    let r = c.read_order-number in
    unread_promise c.args.text.now c.args.blanks v r.result.number r.result.order r.result.z.0 r.ensures c.if-number-ne0.true

-- ---- a text that is read, and the bytes of its run and of its memory

pub bytes_of-room-requires : goal.bytes_of-room-requires
bytes_of-room-requires g c =
    let inside = (judgement→accepted _ (read_taken c.read_order-number.ensures c.if-number-ne0.false).judged).inside in
    (inside, omega (arith, (limits→allowed _ inside).memory_below))

pub returns-then-spare-size : goal.returns-then-spare-size
returns-then-spare-size g c =
    let v = buffers_of c.args.run.now c.args.spare.now c.args.memory.now in
    let m = measured c.read_order-number.ensures c.if-number-ne0.false c.bytes_of-size.ensures c.bytes_of-room.ensures in
    ⊎_elim (short_area m c.args.blanks v) (λ p. short_memory m c.args.blanks v p.0 p.1) c.then-spare-size.either

pub returns-then-run-size : goal.returns-then-run-size
returns-then-run-size g c =
    let v = buffers_of c.args.run.now c.args.spare.now c.args.memory.now in
    let m = measured c.read_order-number.ensures c.if-number-ne0.false c.bytes_of-size.ensures c.bytes_of-room.ensures in
    rw c.number.ensures (other_length_promise m c.args.blanks v c.if-spare-size.false c.if-memory-room.false c.if-run-size.true)

-- ---- the parts that are lent on

pub set_in_order-requires-clause-order_value : goal.set_in_order-requires-clause-order_value
set_in_order-requires-clause-order_value g c =
    let t = read_taken c.read_order-number.ensures c.if-number-ne0.false in (t.judged, t.room)

pub set_in_order-requires-clause-memory_value : goal.set_in_order-requires-clause-memory_value
set_in_order-requires-clause-memory_value g c =
    let v = buffers_of c.args.run.now c.args.spare.now c.args.memory.now in
    let m = measured c.read_order-number.ensures c.if-number-ne0.false c.bytes_of-size.ensures c.bytes_of-room.ensures in
    parts_fit m c.args.blanks v c.if-spare-size.false c.if-memory-room.false (omega arith)

pub returns : goal.returns
returns g c =
    let v = buffers_of c.args.run.now c.args.spare.now c.args.memory.now in
    let m = measured c.read_order-number.ensures c.if-number-ne0.false c.bytes_of-size.ensures c.bytes_of-room.ensures in
    let w = c.set_in_order in
    done_promise m c.args.blanks v c.if-spare-size.false c.if-memory-room.false (omega arith) (buffers_of w.new.area0 w.new.area1 w.new.memory) w.ensures
