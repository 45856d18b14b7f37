-- `running::has_spare` meets its contract: the places for rows, then those for complements. Assumes nothing.
use mathlib.Core.Path.{◌≡◌, ap, sym, ◌∙◌}
use mathlib.Core.Bool.{◌&&◌, not}
use native.Mathlib.Omega.{arith}
use borrow.Author.Rules.{rules}
use lib.Dec.{eqb, leb}
use lib.ListN.{get_or, length}
use Rattle.bank.specs.Limits.{PASSES}
use Rattle.algebra.specs.Search.{any_below}
use Rattle.totals.proofs.Total.{size_few}
use Rattle.running.proofs.Judging.{or_then, or_else, spare_rows_asked, spare_complements_asked}
use Rattle.running.proofs.has_spare.Goals as goal

pub spare-requires : goal.spare-requires
spare-requires c =
    let places : length c.args.plan.complements ≡ PASSES = search rules in
    omega (arith, size_few _ c.requires)

pub returns-then-spare_rows : goal.returns-then-spare_rows
returns-then-spare_rows c =
    let rows = c.spare_rows.ensures ∙ sym (spare_rows_asked c.args.plan) in
    or_then _ _ (sym rows ∙ c.if-spare_rows.true) rows

pub returns-else-spare_rows : goal.returns-else-spare_rows
returns-else-spare_rows c =
    let plan = c.args.plan in
    let places : length plan.complements ≡ PASSES = search rules in
    or_else _ _ (sym (c.spare_rows.ensures ∙ sym (spare_rows_asked plan)) ∙ c.if-spare_rows.false)
    (c.spare.ensures ∙ ap (any_below (λ p. leb plan.count p && not (eqb (get_or plan.complements p 0) 0))) places
    ∙ sym (spare_complements_asked plan))
