-- `entries::take_entries` meets its contract: each return has passed the checks before it. Assumes nothing.
use mathlib.Core.Path.{◌≡◌}
use native.Mathlib.Omega.{arith}
use lib.ListN.{length}
use lib.Seq.{length-take-le}
use Rattle.std.proofs.lemmas.Result.{err_from_is_err_and}
use Rattle.bank.specs.declared.refusal.Refusal.TheVariants.{Text}
use Rattle.entries.specs.ListText.{unread, no_room, taken}
use Rattle.entries.proofs.take_entries.Goals as goal

pub returns-in_err-count-clause-reads_list : goal.returns-in_err-count-clause-reads_list
returns-in_err-count-clause-reads_list c =
    let p = err_from_is_err_and c.from_residual.result c.from_residual.ensures.1 in
    let e = c.in_err-count.ensures in
    let is_text : c.in_err-count.field-0.0 ≡ Text = cc (rw e.ok_part at e.value) in
    rw (p.1, p.2, is_text) (unread (rw e.ok_part at c.count_entries.ensures))

pub returns-then-room-count-clause-reads_list : goal.returns-then-room-count-clause-reads_list
returns-then-room-count-clause-reads_list c =
    let found = rw c.in_ok-count.ensures.ok_part at c.count_entries.ensures in
    no_room found.0 found.1 (omega (arith, found.2))

pub returns-clause-reads_list : goal.returns-clause-reads_list
returns-clause-reads_list c =
    let room = c.fill_entries.new.room in
    let long : length room ≡ c.in_ok-count.count = omega (arith, length-take-le c.in_ok-count.count c.args.room.now (omega arith)) in
    rw (← long) (taken room c.fill_entries.ensures (omega arith))
