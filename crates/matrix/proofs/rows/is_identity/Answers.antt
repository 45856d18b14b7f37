-- `matrix::rows::is_identity` meets its contract: a search that passed only rows of the identity. Assumes nothing.
use mathlib.Core.Path.{◌∙◌, sym}
use native.Mathlib.Omega.{arith}
use lib.ListN.{length}
use Rattle.algebra.proofs.Columns.{each_row, other_row}
use Rattle.matrix.proofs.rows.is_identity.Goals as goal

pub returns-then-row-power : goal.returns-then-row-power
returns-then-row-power c =
    let rows = c.args.rows.now in
    sym (other_row (length rows) rows c.loop-i.i (omega arith) (λ e. c.if-row-power.true (e ∙ sym c.power.ensures)))

pub returns : goal.returns
returns c =
    let rows = c.args.rows.now in
    sym (each_row (length rows) rows (λ k h. c.loop-i.invariant k (omega arith)))
