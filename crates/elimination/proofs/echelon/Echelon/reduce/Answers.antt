-- `elimination::echelon::Echelon::reduce` meets its contract. The loop's invariant: u and s are what is left and what was used after i entries. Assumes nothing.
use mathlib.Core.Path.{refl, sym}
use borrow.Author.Rules.{rules}
use lib.Bits.{xor_zero_r}
use Rattle.algebra.specs.Elimination.{rest, used}
use Rattle.algebra.proofs.Loops.{rest_once, used_once}
use Rattle.elimination.proofs.echelon.Echelon.reduce.Goals as goal

pub loop-i-init : goal.loop-i-init
unfolding rest used
loop-i-init c = (refl, sym (xor_zero_r c.args.t))

pub loop-i-preserved : goal.loop-i-preserved
loop-i-preserved c =
    let l = c.loop-i in
    let d = c.bit_of-d in (
      rest_once _ _ _ _ _ _ _ l.invariant.0 d.ensures c.unless_zero-u.ensures,
      used_once _ _ _ _ _ _ _ l.invariant.0 d.ensures c.args.self.now.tags _ c.args.t l.invariant.1 (search rules),
    )
