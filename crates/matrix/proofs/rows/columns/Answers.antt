-- `matrix::rows::columns` meets its contract. The loop's invariant: the first j columns are in place. Assumes nothing.
use mathlib.Core.Path.{◌∙◌, ap, sym}
use native.Mathlib.Omega.{arith}
use Rattle.bank.specs.Limits.{ROWS}
use Rattle.matrix.proofs.Filled.{filled_all, filled_next}
use Rattle.algebra.specs.Matrix.{applied, columns}
use Rattle.algebra.proofs.Columns.{columns_at, columns-length}
use Rattle.matrix.proofs.rows.columns.Goals as goal

pub loop-j-preserved : goal.loop-j-preserved
loop-j-preserved c =
    let n = c.args.n in
    let rows = c.args.rows.now in
    let l = c.loop-j in
    let long = columns-length n rows in
    let column = c.apply.ensures ∙ ap (applied rows) c.power.ensures ∙ sym (columns_at n rows l.j (omega arith)) in
    filled_next ROWS (columns n rows) (omega arith) l.j _ l.cols (omega arith) l.invariant column

pub returns : goal.returns
returns c =
    let n = c.args.n in
    let rows = c.args.rows.now in
    let l = c.loop-j in
    let long = columns-length n rows in
    filled_all ROWS (columns n rows) (omega arith) n l.j l.cols long (omega arith) l.invariant
