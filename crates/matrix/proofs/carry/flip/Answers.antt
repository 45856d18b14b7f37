-- `matrix::carry::flip` meets its contract: what is summed up, and what the columns ahead still change, is the whole change. Assumes nothing.
use mathlib.Core.Path.{sym, ◌∙◌}
use native.Mathlib.Omega.{arith}
use Rattle.algebra.proofs.Carry.{walk_end, walk_on, walk_stop}
use Rattle.matrix.proofs.carry.flip.Goals as goal

pub returns-then-left-eq0 : goal.returns-then-left-eq0
returns-then-left-eq0 c =
    let l = c.loop-column in
    walk_stop c.args.columns.now l.sum l.left l.column-index (omega arith) c.if-left-eq0.true ∙ l.invariant

pub loop-column-preserved : goal.loop-column-preserved
loop-column-preserved c =
    let l = c.loop-column in
    walk_on c.args.columns.now l.sum l.left l.column-index (omega arith) c.if-left-eq0.false ∙ l.invariant

pub returns : goal.returns
returns c =
    let l = c.loop-column in
    sym (walk_end c.args.columns.now l.sum l.left l.column-index (omega arith)) ∙ l.invariant
