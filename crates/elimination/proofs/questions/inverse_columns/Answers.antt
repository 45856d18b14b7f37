-- `elimination::questions::inverse_columns` meets its contract. The loop's invariant: the first j columns are in place; column j is the source of 2^j.
-- Assumes nothing.
use mathlib.Core.Path.{◌∙◌, ap, ap₂}
use native.Mathlib.Omega.{arith}
use lib.ListN.{length}
use Rattle.bank.specs.Limits.{ROWS}
use Rattle.algebra.specs.Elimination.{built}
use Rattle.algebra.specs.Matrix.{columns, inverse}
use Rattle.algebra.proofs.Basis.{used_of}
use Rattle.algebra.proofs.Columns.{columns-length}
use Rattle.matrix.proofs.Filled.{filled_all, filled_next}
use Rattle.elimination.specs.Echelon.{echelon_of}
use Rattle.elimination.proofs.Exact.{exactly, exactly-length, inverse_exact}
use Rattle.elimination.proofs.questions.inverse_columns.Goals as goal

pub loop-j-preserved : goal.loop-j-preserved
loop-j-preserved c =
    let rows = c.args.rows.now in
    let n = length rows in
    let back = inverse n rows in
    let k = c.columns-cols.ensures in
    let e = c.of-entries in
    let l = c.loop-j in
    let long = columns-length n back in
    let entries = e.ensures ∙ ap₂ (built ROWS) (exactly ROWS n rows _ k) (exactly-length ROWS n rows _ k) in
    let column = inverse_exact ROWS rows c.requires.0 (omega arith) _ entries c.requires.1 l.j (omega arith) in
    let tag = c.reduce.ensures.tag ∙ ap (used_of (echelon_of e.result)) c.power.ensures ∙ column in
    filled_next ROWS (columns n back) (omega arith) l.j _ _ (omega arith) l.invariant tag

pub returns : goal.returns
returns c =
    let rows = c.args.rows.now in
    let n = length rows in
    let back = inverse n rows in
    let l = c.loop-j in
    let long = columns-length n back in
    filled_all ROWS (columns n back) (omega arith) n l.j l.out long (omega arith) l.invariant
