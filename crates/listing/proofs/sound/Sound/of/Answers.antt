-- `listing::sound::Sound::of` meets its contract: a plan that can run has no more rows and passes than there is room for. Assumes nothing.
use mathlib.Core.Path.{sym}
use Rattle.planning.proofs.Running.{sound_allowed, sound_few}
use Rattle.listing.proofs.sound.Sound.of.Goals as goal

pub invariant_of-result : goal.invariant_of-result
invariant_of-result c =
    let plan = c.args.plan in
    let runs = sym c.if-is_sound.ensures in record {
      runs = runs;
      rows = (sound_allowed plan runs).n_high;
      few = sound_few plan runs;
    }
