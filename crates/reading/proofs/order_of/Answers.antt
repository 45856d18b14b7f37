-- `reading::order_of` meets its contract: each return has passed the checks before it. Assumes nothing.
use mathlib.Core.Path.{◌≡◌, sym, ap, ◌∙◌}
use mathlib.Core.List.{List}
use Prim.Native.Nat.{ℕ, ◌≤◌}
use native.Mathlib.Omega.{arith}
use lib.ListN.{length, take}
use lib.Seq.{length-take-le}
use Rattle.std.specs.Prelude.{Option, None, Err}
use Rattle.std.specs.Option.{ok_or}
use Rattle.std.proofs.lemmas.Result.{err_from_is_err_and}
use Rattle.algebra.specs.Matrix.{kernel}
use Rattle.bank.specs.Limits.{ROWS}
use Rattle.bank.specs.declared.refusal.Refusal.{Refusal}
use Rattle.bank.specs.declared.refusal.Refusal.TheVariants.{Text}
use Rattle.bank.proofs.Limits.{limits→allowed}
use Rattle.reading.proofs.Joined.{reads_no_first_line, reads_outside, reads_no_rest, reads_singular, reads_taken}
use Rattle.reading.proofs.order_of.Goals as goal

-- what stands for none as a refusal
is_text : {X : Type 0} (o : Option X) (r : Refusal) → o ≡ None → Err r ≡ ok_or o Text → r ≡ Text
is_text o r none e = cc (rw none at e)

pub returns-in_err-g : goal.returns-in_err-g
returns-in_err-g c =
    let p = err_from_is_err_and c.from_residual.result c.from_residual.ensures.1 in
    let e = c.in_err-g.ensures in
    rw (p.1, p.2, is_text _ _ e.ok_part e.value) (reads_no_first_line _ (sym c.first_line.ensures ∙ e.ok_part))

pub returns-then-not-in_limits : goal.returns-then-not-in_limits
returns-then-not-in_limits c =
    reads_outside _ _ _ (sym c.first_line.ensures ∙ c.in_ok-g.ensures.ok_part) (sym c.if-not-in_limits.ensures)

pub rest_at-requires : goal.rest_at-requires
rest_at-requires c = (limits→allowed _ (sym c.if-not-in_limits.ensures)).n_high

pub returns-in_err-order : goal.returns-in_err-order
returns-in_err-order c =
    let p = err_from_is_err_and c.from_residual-in_err-order.result c.from_residual-in_err-order.ensures.1 in
    let e = c.in_err-order.ensures in
    let none = rw e.ok_part at c.rest_at.ensures in
    rw (p.1, p.2, is_text _ _ e.ok_part e.value)
    (reads_no_rest _ _ _ (sym c.first_line.ensures ∙ c.in_ok-g.ensures.ok_part) (sym c.if-not-in_limits.ensures) none)

pub shared_ref_as_front-kernel : goal.shared_ref_as_front-kernel
shared_ref_as_front-kernel c = (limits→allowed _ (sym c.if-not-in_limits.ensures)).n_high

-- the rows that are meant are as many as columns
as_long : (n z : ℕ) (rows : List ℕ) → n ≤ ROWS → length rows ≡ ROWS → z ≡ kernel (length (take n rows)) (take n rows) → z ≡ kernel n (take n rows)
as_long n z rows few long e = e ∙ ap (λ (k : ℕ). kernel k (take n rows)) (length-take-le n rows (omega arith))

pub returns-then-z-ne0 : goal.returns-then-z-ne0
returns-then-z-ne0 c =
    let found = rw c.in_ok-order.ensures.ok_part at c.rest_at.ensures in
    let inside = sym c.if-not-in_limits.ensures in
    let z = as_long _ _ _ (limits→allowed _ inside).n_high found.room c.kernel-z.ensures in
    reads_singular _ _ _ (sym c.first_line.ensures ∙ c.in_ok-g.ensures.ok_part) inside _ found _ (c.from.ensures ∙ z)
    (λ e. c.if-z-ne0.true (sym c.from.ensures ∙ e))

pub returns : goal.returns
returns c =
    let found = rw c.in_ok-order.ensures.ok_part at c.rest_at.ensures in
    let inside = sym c.if-not-in_limits.ensures in
    let z = as_long _ _ _ (limits→allowed _ inside).n_high found.room c.kernel-z.ensures in
    reads_taken _ _ _ (sym c.first_line.ensures ∙ c.in_ok-g.ensures.ok_part) inside _ found (sym z ∙ c.if-z-ne0.false)
