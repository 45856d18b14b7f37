-- `order::form::stray` meets its contract: the chain tests every number. Assumes nothing.
use mathlib.Core.Path.{◌∙◌}
use borrow.Author.Rules.{rules}
use borrow.Author.Tests.{tests}
use lib.Dec.{leb}
use Rattle.std.proofs.lemmas.Iterator.{YieldsList-from_slice}
use Rattle.std.proofs.lemmas.Iterator.Search.{any_from_yields_List}
use Rattle.order.proofs.Passing.{list_any_below}
use Rattle.order.proofs.form.stray.Goals as goal

pub returns : goal.returns
returns c =
    let xs = c.args.rows.now in
    any_from_yields_List (leb c.args.size) _ _ c.any.result c.any.ensures.ran (YieldsList-from_slice xs cc) (λ x b q k. search (rules, tests))
    ∙ list_any_below (leb c.args.size) xs
