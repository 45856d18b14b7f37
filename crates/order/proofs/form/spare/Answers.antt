-- `order::form::spare` meets its contract: the chain tests every number from n on. Assumes nothing.
use mathlib.Core.Path.{◌∙◌}
use mathlib.Core.Bool.{not}
use Prim.Native.Nat.{ℕ}
use native.Mathlib.Omega.{arith}
use borrow.Author.Rules.{rules}
use borrow.Author.Tests.{tests}
use lib.Dec.{eqb}
use lib.ListN.{drop, length-drop}
use lib.Seq.{take_all}
use Rattle.std.proofs.lemmas.Iterator.{YieldsList-from_slice}
use Rattle.std.proofs.lemmas.Iterator.Search.{any_from_yields_List}
use Rattle.order.proofs.Passing.{list_any_from}
use Rattle.order.proofs.form.spare.Goals as goal

pub returns : goal.returns
returns c =
    let n = c.args.n in
    let xs = c.args.rows.now in
    let test = λ (x : ℕ). not (eqb x 0) in
    any_from_yields_List test _ _ c.any.result c.any.ensures.ran (YieldsList-from_slice (drop n xs) (c.iter.ensures.rest ∙ take_all _ (drop n xs) (omega (arith, length-drop n xs)))) (λ x b q k. search (rules, tests))
    ∙ list_any_from test n xs
