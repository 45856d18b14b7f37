-- `listing::list_plan` meets its contract: every listing has room. Assumes nothing.
use mathlib.Core.Path.{◌∙◌, sym}
use Prim.Native.Nat.{◌≤◌}
use native.Mathlib.Omega.{arith}
use borrow.Author.Rules.{rules}
use lib.ListN.{length}
use lib.Seq.{length-take-le}
use Rattle.listing.proofs.Passes.{listing_fits, has_room}
use Rattle.listing.proofs.list_plan.Goals as goal

pub returns : goal.returns
returns c =
    let a = c.args in
    let wrote = c.write_listing.ensures in
    let fits = listing_fits a.plan (search rules) in
    let whole = has_room a.plan a.room.now (omega arith) in
    let few : c.write_listing.result ≤ length c.write_listing.new.room = omega (arith, wrote.0, whole.0) in
    (wrote.0 ∙ whole.0, few, sym (length-take-le _ _ few), wrote.1 ∙ whole.1)
