-- `matrix::rows::identity` meets its contract. The loop's invariant: the first i rows are in place. Assumes nothing.
use mathlib.Core.Path.{◌∙◌, sym}
use native.Mathlib.Omega.{arith}
use Rattle.bank.specs.Limits.{ROWS}
use Rattle.matrix.proofs.Filled.{filled_all, filled_next}
use Rattle.algebra.specs.Matrix.{identity}
use Rattle.algebra.proofs.Columns.{identity_at, identity-length}
use Rattle.matrix.proofs.rows.identity.Goals as goal

pub loop-i-preserved : goal.loop-i-preserved
loop-i-preserved c =
    let n = c.args.n in
    let l = c.loop-i in
    let long = identity-length n in
    let row = c.power.ensures ∙ sym (identity_at n l.i (omega arith)) in
    filled_next ROWS (identity n) (omega arith) l.i _ l.rows (omega arith) l.invariant row

pub returns : goal.returns
returns c =
    let n = c.args.n in
    let l = c.loop-i in
    let long = identity-length n in
    filled_all ROWS (identity n) (omega arith) n l.i l.rows long (omega arith) l.invariant
