-- `order::check` meets its contract: the form's refusal, and after it the kernel tells whether A is singular, and z. Assumes nothing.
use mathlib.Core.Path.{◌≡◌, sym, ap, ◌∙◌}
use Prim.Native.Nat.{ℕ}
use native.Mathlib.Omega.{arith}
use borrow.Author.Rules.{rules}
use lib.ListN.{length}
use Rattle.bank.specs.Limits.{ROWS}
use Rattle.bank.proofs.Limits.{limits→allowed}
use Rattle.std.proofs.lemmas.Result.{err_from_is_err_and}
use Rattle.algebra.specs.Matrix.{kernel}
use Rattle.order.specs.Order.{form_number, matrix_of}
use Rattle.order.specs.declared.Order.{Order}
use Rattle.order.proofs.Accepted.{matrix_length}
use Rattle.order.proofs.Judged.{form_none}
use Rattle.order.proofs.Refused.{form_refused, none_taken, some_refused}
use Rattle.order.proofs.check.Goals as goal

at_n : (order : Order) → length order.rows ≡ ROWS → form_number order ≡ 0 → {k : ℕ}
    → k ≡ kernel (length (matrix_of order)) (matrix_of order) → k ≡ kernel order.geometry.n (matrix_of order)
at_n order room formed e =
    e ∙ ap (λ (n : ℕ). kernel n (matrix_of order)) (matrix_length order (form_none order formed).0 room)

pub returns-in_err-check_form : goal.returns-in_err-check_form
returns-in_err-check_form c =
    let p = err_from_is_err_and c.from_residual.result c.from_residual.ensures.1 in
    rw (p.1, p.2) (form_refused c.args.order _ c.in_err-check_form.ensures)

pub shared_ref_as_front-kernel : goal.shared_ref_as_front-kernel
shared_ref_as_front-kernel c = (limits→allowed _ (form_none _ (sym c.in_ok-check_form.ensures)).0).n_high

pub returns-in-0 : goal.returns-in-0
returns-in-0 c =
    let order = c.args.order in
    let formed : form_number order ≡ 0 = sym c.in_ok-check_form.ensures in
    none_taken order formed c.kernel.result (at_n order (search rules) formed c.kernel.ensures) c.in-0.is

pub returns-in_default : goal.returns-in_default
returns-in_default c =
    let order = c.args.order in
    let formed : form_number order ≡ 0 = sym c.in_ok-check_form.ensures in
    some_refused order formed c.from.result (c.from.ensures ∙ at_n order (search rules) formed c.kernel.ensures) (λ e. omega arith)
