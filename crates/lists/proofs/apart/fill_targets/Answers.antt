-- `lists::apart::fill_targets` meets its contract: the first i targets are in place, and y is target i. Assumes nothing.
use mathlib.Core.Path.{◌≡◌, sym, ap, ap₂, ◌∙◌}
use native.Mathlib.Nat.{zero-add}
use native.Mathlib.Omega.{arith}
use borrow.Author.Count.{below_more}
use lib.Bits.{bit_xor, xor_lt}
use lib.ListN.{get_or, length, set}
use lib.Seq.{ext_get_or, get_or-set_other, get_or-set_same}
use Rattle.algebra.specs.Search.{listed}
use Rattle.algebra.specs.Vector.{WORD}
use Rattle.algebra.specs.Carry.{place_by}
use Rattle.algebra.proofs.Carry.{place_next, place_zero}
use Rattle.algebra.proofs.Listed.{listed_at, listed_length}
use Rattle.lists.proofs.apart.fill_targets.Goals as goal

pub loop-i-init : goal.loop-i-init
loop-i-init c = (c.ranges.base.fits, place_zero c.args.base c.args.columns.now, λ k h. absurd (omega arith))

pub loop-i-preserved : goal.loop-i-preserved
loop-i-preserved c =
    let s = c.args in
    let l = c.loop-i in (
      xor_lt WORD l.y c.flip-y.result l.invariant.0 (omega (arith, c.flip-y.type_inv)),
      ap₂ bit_xor l.invariant.1 c.flip-y.ensures ∙ place_next s.base s.columns.now l.i,
      below_more (λ k. get_or (set l.low l.i c.from.result) k 0 ≡ place_by s.base s.columns.now k) l.i
          (λ k h. get_or-set_other l.low l.i k c.from.result 0 (λ e. omega arith) ∙ l.invariant.2 k h)
          (get_or-set_same l.low l.i c.from.result 0 (omega arith) ∙ c.from.ensures ∙ l.invariant.1),
    )

pub returns : goal.returns
returns c =
    let s = c.args in
    let l = c.loop-i in
    let f = place_by s.base s.columns.now in
    let long = listed_length f (length s.low.now) 0 in
    ext_get_or 0 l.low (listed f (length s.low.now) 0) (l.auto.low ∙ sym long)
    (λ k h. l.invariant.2 k (omega arith) ∙ sym (listed_at 0 f (length s.low.now) 0 k (omega arith) ∙ ap f (zero-add k)))
