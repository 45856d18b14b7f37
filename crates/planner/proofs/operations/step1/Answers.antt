-- `planner::operations::step1` meets its contract: the columns of φ that are marked behind those of δ are W. Assumes nothing.
use mathlib.Core.Path.{◌∙◌, ap, subst, sym}
use mathlib.Core.List.{List, ◌++◌}
use Prim.Native.Nat.{◌-◌, ◌<◌, ◌^◌, ℕ}
use native.Mathlib.Omega.{arith}
use lib.ListN.{length, replicate, take}
use lib.Seq.{length-take-le}
use borrow.Author.Rules.{rules}
use Rattle.bank.specs.Limits.{ROWS}
use Rattle.algebra.specs.Matrix.{marked}
use Rattle.planner.proofs.Masks.{mask_lt}
use Rattle.planner.proofs.Steps.{step1_code}
use Rattle.planner.proofs.operations.step1.Goals as goal

pub paired-requires : goal.paired-requires
paired-requires c =
    let n = length c.args.columns.now in
    let both = take n c.followed-both.result in
    let long = length-take-le n c.followed-both.result (search rules) in
    let small : c.marks.result < 2 ^ length both = rw c.marks.ensures (mask_lt (marked both) (length both)) in
    (search rules, search rules, subst (λ (k : ℕ). c.marks.result < 2 ^ k) long small, search rules)

pub returns : goal.returns
returns c =
    let a = c.args in
    let cols = a.columns.now in
    let d = c.lower-delta in
    let f = c.lower-phi in
    let both = c.followed-both in
    c.paired.ensures
    ∙ ap (λ (l : List ℕ). l ++ replicate (ROWS - length cols) 0)
    (sym (step1_code a.m cols (omega arith) d.result _ f.result _ both.result _ c.marks.result d.ensures f.ensures both.ensures c.marks.ensures))
