-- `listing::sound::Sound::put_tail` meets its contract: after p iterations the first p passes stand there. Assumes nothing.
use native.Mathlib.Omega.{arith}
use lib.ListN.{length}
use Rattle.listing.specs.Passes.{pass_at_lines}
use Rattle.writing.proofs.Put.{wrote_none, wrote_more, wrote_fits}
use Rattle.listing.proofs.Passes.{up_to_none, up_to_more, up_to_all, up_to_fits}
use Rattle.listing.proofs.sound.Sound.put_tail.Goals as goal

pub loop-p-init : goal.loop-p-init
loop-p-init c =
    let a = c.args in
    rw (up_to_none a.self.plan) (wrote_none a.room.now a.at)

pub put_pass-i-requires : goal.put_pass-i-requires
put_pass-i-requires c =
    let plan = c.args.self.plan in
    let l = c.loop-p in
    (omega arith, wrote_fits l.invariant (length (pass_at_lines plan l.p)) (omega (arith, up_to_fits plan l.p (omega arith), c.requires)))

pub loop-p-preserved : goal.loop-p-preserved
loop-p-preserved c =
    let plan = c.args.self.plan in
    let l = c.loop-p in
    let both = wrote_more l.invariant c.put_pass-i.ensures (omega (arith, up_to_fits plan l.p (omega arith), c.requires)) in
    rw (← up_to_more plan l.p (omega arith)) at both

pub returns : goal.returns
returns c =
    let l = c.loop-p in
    let plan = c.args.self.plan in
    rw (up_to_all plan l.p (omega arith)) at l.invariant
