-- `planner::operations::step2` meets its contract. The loop's invariant: the first j columns are in place. Assumes nothing.
use mathlib.Core.Path.{◌∙◌, ap₂}
use native.Mathlib.Omega.{arith}
use lib.Bits.{bit_xor}
use lib.ListN.{length}
use borrow.Author.Rules.{rules}
use Rattle.bank.specs.Limits.{ROWS}
use Rattle.algebra.specs.Vector.{unless_zero}
use Rattle.matrix.proofs.Filled.{filled_all, filled_next}
use Rattle.elimination.specs.Echelon.{echelon_of}
use Rattle.planning.specs.Making.{step2}
use Rattle.planner.proofs.Steps.{step2_code, step2-length}
use Rattle.planner.proofs.operations.step2.Goals as goal

pub loop-j-preserved : goal.loop-j-preserved
loop-j-preserved c =
    let m = c.args.m in
    let cols = c.args.columns.now in
    let f = c.lower-phi in
    let set = c.marks-set in
    let e = c.of-entries in
    let l = c.loop-j in
    let long = step2-length (length cols) m cols in
    let column =
    step2_code ROWS m cols (omega arith) (omega arith) f.result _ set.result (echelon_of e.result) (λ i. search rules) f.ensures set.ensures
    e.ensures l.j (omega arith) in
    filled_next ROWS (step2 (length cols) m cols) (omega arith) l.j (bit_xor c.power.result c.unless_zero.result) l.out (omega arith) l.invariant
    (ap₂ bit_xor c.power.ensures (c.unless_zero.ensures ∙ ap₂ unless_zero c.bare.ensures c.reduce-r.ensures.tag) ∙ column)

pub returns : goal.returns
returns c =
    let cols = c.args.columns.now in
    let long = step2-length (length cols) c.args.m cols in
    filled_all ROWS (step2 (length cols) c.args.m cols) (omega arith) (length cols) c.loop-j.j c.loop-j.out long (omega arith) c.loop-j.invariant
