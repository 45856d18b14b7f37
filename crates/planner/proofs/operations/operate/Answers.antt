-- `planner::operations::operate` meets its contract: the products are those of the definition of P. Assumes nothing.
use mathlib.Core.Path.{◌∙◌, ap}
use mathlib.Core.List.{List, ◌++◌}
use Prim.Native.Nat.{◌-◌, ℕ}
use lib.ListN.{length, replicate}
use lib.Seq.{length-take-le}
use borrow.Author.Rules.{rules}
use Rattle.bank.specs.Limits.{ROWS}
use Rattle.algebra.specs.Matrix.{after, columns}
use Rattle.planning.specs.Making.{operations}
use Rattle.planner.proofs.Steps.{operate_code}
use Rattle.planner.proofs.operations.operate.Goals as goal

pub returns : goal.returns
returns c =
    let m = c.args.m in
    let rows = c.args.rows.now in
    let n = length rows in
    let k = c.columns-a in
    let s1 = c.step1-s1 in
    let b = c.product-b in
    let s2 = c.step2-s2 in
    let p = c.product-p in
    let q = c.product-cols in
    let P = operations n m (columns n rows) in
    let zeros : ℕ → List ℕ = λ k. replicate (ROWS - k) 0 in
    let long2 = length-take-le n s2.result (search rules) in
    let longp = length-take-le n p.result (search rules) in
    let both = operate_code n m rows k.result _ s1.result _ b.result _ s2.result _ p.result _ q.result _ k.ensures s1.ensures b.ensures s2.ensures p.ensures q.ensures in
    record {
      cols = both.0 ∙ ap (λ (k : ℕ). after (columns n rows) P ++ zeros k) longp;
      p = both.1 ∙ ap (λ (k : ℕ). P ++ zeros k) long2;
    }
