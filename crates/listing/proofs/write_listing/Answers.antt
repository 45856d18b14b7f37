-- `listing::write_listing` meets its contract: both parts, one after the other, or nothing. Assumes nothing.
use native.Mathlib.Omega.{arith}
use borrow.Author.Rules.{rules}
use lib.ListN.{length}
use Rattle.listing.specs.Listing.{tail_lines}
use Rattle.writing.proofs.Put.{wrote_more, wrote_fits}
use Rattle.listing.proofs.Passes.{listing_fits, no_room, nothing_listed, listed_whole, sound_parts, sound_long}
use Rattle.listing.proofs.write_listing.Goals as goal

pub returns-in_default : goal.returns-in_default
returns-in_default c = let a = c.args in nothing_listed a.plan a.room.now c.in_default.ensures

pub overflow_add-size : goal.overflow_add-size
overflow_add-size c =
    let long = sound_long c.in-Some.sound c.in-Some.ensures in
    omega (arith, long, c.head_size-head.ensures, c.tail_size.ensures, listing_fits c.args.plan (search rules))

pub returns-then-room-size : goal.returns-then-room-size
returns-then-room-size c =
    let a = c.args in
    no_room a.plan a.room.now (omega (arith, sound_long c.in-Some.sound c.in-Some.ensures, c.head_size-head.ensures, c.tail_size.ensures))

pub put_tail-requires : goal.put_tail-requires
put_tail-requires c =
    wrote_fits c.put_head-p.ensures (length (tail_lines c.in-Some.sound.plan)) (omega (arith, c.head_size-head.ensures, c.tail_size.ensures))

pub returns : goal.returns
returns c =
    let a = c.args in
    let s = c.in-Some.sound in
    let both = wrote_more c.put_head-p.ensures c.put_tail.ensures (omega (arith, c.head_size-head.ensures, c.tail_size.ensures)) in
    listed_whole a.plan a.room.now (omega (arith, sound_long s c.in-Some.ensures, c.head_size-head.ensures, c.tail_size.ensures)) _ _
    (rw (sound_parts s c.in-Some.ensures) both)
