-- `listing::sound::Sound::tail_size` meets its contract: after k iterations the size is that of k passes. Assumes nothing.
use mathlib.Core.Path.{◌≡◌}
use lib.ListN.{length}
use Rattle.listing.proofs.Passes.{up_to}
use Rattle.listing.proofs.sound.Sound.tail_size.Given as goal

abbrev pub invariant-loop-k : goal.invariant-loop-k
invariant-loop-k l = l.size ≡ length (up_to l.self.plan l.k)
