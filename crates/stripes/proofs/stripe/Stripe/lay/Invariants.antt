-- `stripes::stripe::Stripe::lay` meets its contract: q blocks are laid one after the other. Assumes nothing.
use mathlib.Core.Path.{◌≡◌}
use Prim.Native.Nat.{◌*◌}
use Rattle.moving.specs.Laid.{laid}
use Rattle.stripes.proofs.stripe.Stripe.lay.Given as goal

abbrev pub invariant-loop-q : goal.invariant-loop-q
invariant-loop-q l = l.dst ≡ laid l.initial.dst (l.to.0 * l.self.size) (l.q * l.self.size) l.src (l.from.0 * l.self.size)
