-- `matrix::rows::product` meets its contract. The loop's invariant: the first i rows are in place. Assumes nothing.
use mathlib.Core.Path.{◌∙◌, sym}
use native.Mathlib.Omega.{arith}
use lib.ListN.{length}
use Rattle.bank.specs.Limits.{ROWS}
use Rattle.matrix.proofs.Filled.{filled_all, filled_next}
use Rattle.algebra.specs.Matrix.{after}
use Rattle.algebra.proofs.Linear.{after_at, after-length}
use Rattle.matrix.proofs.rows.product.Goals as goal

pub loop-i-preserved : goal.loop-i-preserved
loop-i-preserved c =
    let a = c.args.a.now in
    let b = c.args.b.now in
    let l = c.loop-i in
    let long = after-length b a in
    filled_next ROWS (after b a) (omega arith) l.i _ l.rows (omega arith) l.invariant (c.sum.ensures ∙ sym (after_at b a l.i))

pub returns : goal.returns
returns c =
    let a = c.args.a.now in
    let b = c.args.b.now in
    let l = c.loop-i in
    let long = after-length b a in
    filled_all ROWS (after b a) (omega arith) (length a) l.i l.rows long (omega arith) l.invariant
