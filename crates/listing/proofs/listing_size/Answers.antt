-- `listing::listing_size` meets its contract: the lengths of the two parts, or none. Assumes nothing.
use mathlib.Core.Path.{sym, ap}
use native.Mathlib.Omega.{arith}
use borrow.Author.Rules.{rules}
use lib.ListN.{length}
use Rattle.listing.proofs.Passes.{listing_none, listing_fits, sound_long}
use Rattle.listing.proofs.listing_size.Goals as goal

pub overflow_add-result : goal.overflow_add-result
overflow_add-result c =
    let long = sound_long c.in-Some.sound c.in-Some.ensures in
    omega (arith, long, c.head_size.ensures, c.tail_size.ensures, listing_fits c.args.plan (search rules))

pub returns-in-Some : goal.returns-in-Some
returns-in-Some c = omega (arith, sound_long c.in-Some.sound c.in-Some.ensures, c.head_size.ensures, c.tail_size.ensures)

pub returns-in-None : goal.returns-in-None
returns-in-None c = sym (ap length (listing_none c.args.plan c.in-None.ensures))
