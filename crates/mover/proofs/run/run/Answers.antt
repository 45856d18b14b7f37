-- `mover::run::run` meets its contract: the checks once, then the steps that are allowed and left. Assumes nothing.
use mathlib.Core.Path.{◌≡◌, ap, ◌∙◌}
use Prim.Native.Nat.{ℕ, ◌-◌, ◌*◌, min}
use native.Mathlib.Omega.{arith}
use lib.ListN.{length}
use Rattle.bank.specs.Limits.{PASSES, ROWS}
use Rattle.mover.proofs.Asked.{run_done, run_number_lem, run_refused, run_steps_ready, run_total}
use Rattle.moving.specs.Call.{lent, run_number}
use borrow.Author.Rules.{rules}
use Rattle.mover.proofs.run.run.Goals as goal

pub returns-in-Err : goal.returns-in-Err
returns-in-Err c =
    let x = c.args in
    let v = lent x.state x.area0.now x.area1.now x.memory.now in
    run_refused x.plan v x.allowance c.in-Err.refusal (c.in-Err.ensures ∙ run_number_lem x.plan v) c.number.ensures c.kept.ensures

pub overflow_sub-left : goal.overflow_sub-left
overflow_sub-left c =
    let x = c.args in
    let v = lent x.state x.area0.now x.area1.now x.memory.now in
    omega (arith, c.total_steps-all.ensures, run_total x.plan v (c.in_default.ensures ∙ run_number_lem x.plan v))

pub run_steps-requires : goal.run_steps-requires
run_steps-requires c =
    let x = c.args in
    let v = lent x.state x.area0.now x.area1.now x.memory.now in
    let zero : 0 ≡ run_number x.plan v = c.in_default.ensures ∙ run_number_lem x.plan v in
    let rows_long : length x.plan.rows ≡ PASSES * ROWS = search rules in
    run_steps_ready x.plan v rows_long zero c.min-count.result
    (omega (arith, c.min-count.ensures, c.total_steps-all.ensures, run_total x.plan v zero))

pub returns : goal.returns
returns c =
    let x = c.args in
    let v = lent x.state x.area0.now x.area1.now x.memory.now in
    let zero : 0 ≡ run_number x.plan v = c.in_default.ensures ∙ run_number_lem x.plan v in
    let all = c.total_steps-all.ensures ∙ (run_total x.plan v zero).0 in
    run_done x.plan v x.allowance zero
    (c.min-count.ensures ∙ ap (λ (i : ℕ). min x.allowance (i - x.state.next.0)) all) c.advanced.ensures (search rules)
