-- `addresses::source_of` meets its contract: number and z with a refusal, the source with 0. Assumes nothing.
use mathlib.Core.Path.{◌≡◌, ap, sym, ◌∙◌}
use Prim.Native.Nat.{ℕ}
use native.Mathlib.Omega.{arith}
use borrow.Author.Rules.{rules}
use lib.ListN.{length, length-take}
use Rattle.std.proofs.lemmas.Result.{err_from_is_err_and}
use Rattle.bank.specs.Limits.{ROWS}
use Rattle.bank.proofs.Limits.{limits→allowed}
use Rattle.elimination.specs.Solved.{solved_for}
use Rattle.order.specs.Order.{form_number, matrix_of}
use Rattle.order.specs.declared.Order.{Order}
use Rattle.addresses.proofs.Asked.{in_word, solvable, source_formless, singular_solved, far_solved, source_solved}
use Rattle.order.proofs.Judged.{form_none}
use Rattle.addresses.proofs.source_of.Goals as goal

pub returns-in_err-check_form : goal.returns-in_err-check_form
returns-in_err-check_form c =
    let p = err_from_is_err_and c.from_residual.result c.from_residual.ensures.1 in
    rw (p.1, p.2) (source_formless _ _ _ c.in_err-check_form.ensures)

pub power-size-requires : goal.power-size-requires
power-size-requires c =
    let ok = limits→allowed _ (form_none _ (sym c.in_ok-check_form.ensures)).0 in omega (arith, ok.n_high)

pub overflow_cast-low : goal.overflow_cast-low
overflow_cast-low c =
    let ok = solvable _ c.args.y.0 _ c.power-size.ensures (sym c.in_ok-check_form.ensures) in
    record { fits = in_word _ _ ok.0 ok.2 }

pub shared_ref_as_front-solve : goal.shared_ref_as_front-solve
shared_ref_as_front-solve c = (solvable _ c.args.y.0 _ c.power-size.ensures (sym c.in_ok-check_form.ensures)).0

-- the rows that are meant are as many as columns
long : (order : Order) → length order.rows ≡ ROWS → form_number order ≡ 0 → length (matrix_of order) ≡ order.geometry.n
long order full form = omega (arith, full, length-take order.geometry.n order.rows, (limits→allowed _ (form_none order form).0).n_high)

pub solve-requires : goal.solve-requires
solve-requires c =
    let formed = sym c.in_ok-check_form.ensures in
    rw (long c.args.order (search rules) formed) (solvable _ c.args.y.0 _ c.power-size.ensures formed)

as_long : (order : Order) (low : ℕ) → length order.rows ≡ ROWS → form_number order ≡ 0
    → solved_for (length (matrix_of order)) (matrix_of order) order.complement low ≡ solved_for order.geometry.n (matrix_of order) order.complement low
as_long order low full form = ap (λ (n : ℕ). solved_for n (matrix_of order) order.complement low) (long order full form)

pub returns-in-Ok : goal.returns-in-Ok
returns-in-Ok c =
    let formed = sym c.in_ok-check_form.ensures in
    far_solved _ _ _ c.power-size.ensures formed _ (c.in-Ok.ensures ∙ as_long c.args.order _ (search rules) formed) c.if-size-y.true

pub returns-in-Ok-2 : goal.returns-in-Ok-2
returns-in-Ok-2 c =
    let formed = sym c.in_ok-check_form.ensures in
    rw c.from.ensures
    (source_solved _ _ _ c.power-size.ensures formed _ (c.in-Ok.ensures ∙ as_long c.args.order _ (search rules) formed) c.if-size-y.false)

pub returns-in-Err : goal.returns-in-Err
returns-in-Err c =
    let a = c.args in
    let formed = sym c.in_ok-check_form.ensures in
    let solved = c.in-Err.ensures ∙ as_long a.order _ (search rules) formed in
    let given = singular_solved a.order a.y.0 c.power-size.result c.power-size.ensures formed c.in-Err.z solved in
    grind arith
