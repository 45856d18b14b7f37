-- `listing::sound::Sound::put_tail` meets its contract: after p iterations the first p passes stand there. Assumes nothing.
use Rattle.writing.specs.Written.{Wrote}
use Rattle.listing.proofs.Passes.{up_to}
use Rattle.listing.proofs.sound.Sound.put_tail.Given as goal

abbrev pub invariant-loop-p : goal.invariant-loop-p
invariant-loop-p l = Wrote l.initial.room l.at (up_to l.self.plan l.p) l.room l.i
