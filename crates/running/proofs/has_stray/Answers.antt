-- `running::has_stray` meets its contract: the rows of the used passes, then their complements. Assumes nothing.
use mathlib.Core.Path.{◌≡◌, sym, ◌∙◌}
use Prim.Native.Nat.{◌*◌}
use native.Mathlib.Omega.{arith}
use borrow.Author.Rules.{rules}
use lib.Dec.{leb}
use lib.ListN.{get_or, length}
use Rattle.bank.specs.Limits.{ROWS, PASSES}
use Rattle.algebra.specs.Search.{any_below}
use Rattle.totals.proofs.Total.{size_allowed, size_few}
use Rattle.running.proofs.Judging.{or_then, or_else, stray_rows_asked, stray_complements_asked}
use Rattle.running.proofs.has_stray.Goals as goal

pub power-size-requires : goal.power-size-requires
power-size-requires c = omega (arith, (size_allowed _ c.requires).n_high)

pub any_pass-requires-clause-few : goal.any_pass-requires-clause-few
any_pass-requires-clause-few c = (size_few _ c.requires, (size_allowed _ c.requires).n_high)

pub shared_ref_as_front-stray : goal.shared_ref_as_front-stray
shared_ref_as_front-stray c = size_few _ c.requires

pub returns-then-any_pass : goal.returns-then-any_pass
returns-then-any_pass c =
    let plan = c.args.plan in
    let size = c.power-size in
    let room : length plan.rows ≡ PASSES * ROWS = search rules in
    let rows = c.any_pass.ensures (λ pass. any_below (λ i. leb size.result (get_or pass i 0)) (length pass)) (λ pass answer r. search rules)
    ∙ sym (stray_rows_asked plan c.requires room size.result size.ensures) in
    or_then _ _ (sym rows ∙ c.if-any_pass.true) rows

pub returns-else-any_pass : goal.returns-else-any_pass
returns-else-any_pass c =
    let plan = c.args.plan in
    let size = c.power-size in
    let room : length plan.rows ≡ PASSES * ROWS = search rules in
    let rows = c.any_pass.ensures (λ pass. any_below (λ i. leb size.result (get_or pass i 0)) (length pass)) (λ pass answer r. search rules)
    ∙ sym (stray_rows_asked plan c.requires room size.result size.ensures) in
    or_else _ _ (sym rows ∙ c.if-any_pass.false)
    (c.stray.ensures ∙ sym (stray_complements_asked plan size.result size.ensures (omega (arith, size_few plan c.requires))))
