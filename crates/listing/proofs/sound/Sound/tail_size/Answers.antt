-- `listing::sound::Sound::tail_size` meets its contract: after k iterations the size is that of k passes. Assumes nothing.
use mathlib.Core.Path.{ap, ◌∙◌}
use native.Mathlib.Omega.{arith}
use borrow.Author.Rules.{rules}
use lib.ListN.{length}
use Rattle.listing.proofs.Passes.{up_to_none, up_to_longer, up_to_fits, up_to_all, tail_small}
use Rattle.listing.proofs.sound.Sound.tail_size.Goals as goal

pub loop-k-init : goal.loop-k-init
loop-k-init c = omega (arith, ap length (up_to_none c.args.self.plan))

pub overflow_add-size : goal.overflow_add-size
overflow_add-size c =
    let s = c.args.self in
    let l = c.loop-k in
    let small = tail_small s.plan s.rows (search rules) s.few in
    omega (arith, l.invariant, c.pass_size-size.ensures, up_to_fits s.plan l.k (omega arith))

pub loop-k-preserved : goal.loop-k-preserved
loop-k-preserved c =
    let l = c.loop-k in
    omega (arith, l.invariant, c.pass_size-size.ensures, up_to_longer c.args.self.plan l.k (omega arith))

pub returns : goal.returns
returns c =
    let l = c.loop-k in
    l.invariant ∙ ap length (up_to_all c.args.self.plan l.k (omega arith))
