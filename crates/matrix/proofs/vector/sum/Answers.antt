-- `matrix::vector::sum` meets its contract. The loop's invariant: the total, and what `left` picks of the vectors ahead, is the sum. Assumes nothing.
use mathlib.Core.Path.{◌∙◌, sym}
use native.Mathlib.Nat.{le_refl}
use native.Mathlib.Omega.{arith}
use lib.ListN.{length}
use lib.Seq.{take_all}
use Rattle.algebra.proofs.Loops.{comb_end, comb_once}
use Rattle.matrix.proofs.vector.sum.Goals as goal

pub loop-vector-preserved : goal.loop-vector-preserved
loop-vector-preserved c =
    let vs = c.args.vectors.now in
    let l = c.loop-vector in
    rw (take_all (length vs) vs (le_refl (length vs))) at (comb_once vs (length vs) l.vector-index l.total l.left _ (omega arith) c.unless_zero-total.ensures)
    ∙ l.invariant

pub returns : goal.returns
returns c =
    let vs = c.args.vectors.now in
    let l = c.loop-vector in
    sym (rw (take_all (length vs) vs (le_refl (length vs))) at (comb_end vs (length vs) l.vector-index l.total l.left (omega arith))) ∙ l.invariant
