-- `stripes::stripe::Stripe::lay` meets its contract: q blocks are laid one after the other. Assumes nothing.
use mathlib.Core.Path.{ap, ap₂, ◌∙◌}
use Prim.Native.Nat.{ℕ, ◌*◌}
use native.Mathlib.Nat.{add-mul, zero-mul}
use native.Mathlib.Omega.{arith}
use Rattle.moving.proofs.Laid.{laid_join, laid_none}
use Rattle.moving.specs.Laid.{laid}
use Rattle.stripes.proofs.stripe.Stripe.lay.Goals as goal

pub loop-q-init : goal.loop-q-init
loop-q-init c =
    let x = c.args in
    rw (zero-mul x.self.size) (laid_none x.dst.now x.src.now (x.to.0 * x.self.size) (x.from.0 * x.self.size))

pub loop-q-preserved : goal.loop-q-preserved
loop-q-preserved c =
    let l = c.loop-q in
    let x = c.args in
    let size = x.self.size in
    c.lay_block.ensures
    ∙ ap₂ (λ (a f : ℕ). laid l.dst a size x.src.now f) (add-mul x.to.0 l.q size) (add-mul x.from.0 l.q size)
    ∙ laid_join x.dst.now x.src.now l.dst (x.to.0 * size) (l.q * size) size (x.from.0 * size) l.invariant
    ∙ ap (λ (n : ℕ). laid x.dst.now (x.to.0 * size) n x.src.now (x.from.0 * size)) (omega (arith, add-mul l.q 1 size))
