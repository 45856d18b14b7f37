-- `entries::fill_entries` meets its contract: the room holds the entries of the lines passed. Assumes nothing.
use native.Mathlib.Omega.{arith}
use Rattle.entries.proofs.Passed.{passed_bad}
use Rattle.entries.proofs.Filled.{filled_none, filled_open, filled_more, filled_all}
use Rattle.entries.proofs.fill_entries.Goals as goal

pub loop-slot-init : goal.loop-slot-init
loop-slot-init c = filled_none c.args.text.now c.args.room.now

pub returns-in_default : goal.returns-in_default
returns-in_default c =
    let a = c.args in
    let l = c.loop-slot in
    let left = filled_open a.text.now a.room.now l.room l.at l.slot-index l.invariant c.requires (omega arith) in
    absurd (passed_bad a.text.now l.at l.invariant.done l.invariant.passed c.requires.0 c.requires.1 left c.in_default.ensures)

pub loop-slot-preserved : goal.loop-slot-preserved
loop-slot-preserved c =
    let a = c.args in
    let l = c.loop-slot in
    filled_more a.text.now a.room.now l.room l.at l.slot-index l.invariant c.in-Some.v c.in-Some.past (omega arith) c.in-Some.ensures

pub returns : goal.returns
returns c =
    let a = c.args in
    let l = c.loop-slot in
    filled_all a.text.now a.room.now l.room l.at l.slot-index l.invariant c.requires (omega arith)
