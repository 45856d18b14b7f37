-- `order::bad_form` meets its contract: stray bits, and then the places from n on. Assumes nothing.
use mathlib.Core.Path.{◌≡◌, ap, ◌∙◌}
use mathlib.Core.Bool.{Bool, not, ◌&&◌, ◌||◌}
use borrow.Author.Rules.{rules}
use lib.Dec.{eqb, leb}
use lib.ListN.{get_or, length}
use Rattle.bank.specs.Limits.{ROWS}
use Rattle.algebra.specs.Search.{any_below}
use Rattle.order.specs.Order.{bad_form, spare_row}
use Rattle.order.proofs.bad_form.Goals as goal

pub returns-then-has_stray : goal.returns-then-has_stray
unfolding bad_form
returns-then-has_stray c = c.if-has_stray.true ∙ ap (λ (t : Bool). t || spare_row c.args.order) c.if-has_stray.ensures

pub returns-else-has_stray : goal.returns-else-has_stray
unfolding bad_form spare_row
returns-else-has_stray c =
    let order = c.args.order in
    let long : length order.rows ≡ ROWS = search rules in
    c.spare.ensures ∙ ap (any_below (λ i. leb order.geometry.n i && not (eqb (get_or order.rows i 0) 0))) long
    ∙ ap (λ (t : Bool). t || spare_row order) c.if-has_stray.ensures
