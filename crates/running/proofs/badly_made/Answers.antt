-- `running::badly_made` meets its contract: singular passes, then spilling ones. Assumes nothing.
use mathlib.Core.Path.{◌≡◌, sym, ◌∙◌}
use Prim.Native.Nat.{◌*◌, ◌≤◌}
use native.Mathlib.Omega.{arith}
use borrow.Author.Rules.{rules}
use lib.ListN.{length}
use Rattle.bank.specs.Limits.{ROWS, PASSES}
use Rattle.algebra.specs.Matrix.{singular, spills}
use Rattle.planning.specs.Running.{singular_pass, spilling_pass}
use Rattle.totals.proofs.Total.{size_allowed, size_few}
use Rattle.running.proofs.Judging.{or_then, or_else, singular_passes_asked, spilling_passes_asked}
use Rattle.running.proofs.badly_made.Goals as goal

pub any_pass-requires-clause-few : goal.any_pass-requires-clause-few
any_pass-requires-clause-few c = (size_few _ c.requires, (size_allowed _ c.requires).n_high)

pub any_pass-requires-clause-callable : goal.any_pass-requires-clause-callable
any_pass-requires-clause-callable c = λ pass long.
    let few : length pass.now ≤ ROWS = omega (arith, (size_allowed _ c.requires).n_high) in
    search rules

pub any_pass-requires-else-any_pass-clause-few : goal.any_pass-requires-else-any_pass-clause-few
any_pass-requires-else-any_pass-clause-few c = (size_few _ c.requires, (size_allowed _ c.requires).n_high)

pub any_pass-requires-else-any_pass-clause-callable :
    goal.any_pass-requires-else-any_pass-clause-callable
any_pass-requires-else-any_pass-clause-callable c = λ pass long.
    let k = size_allowed _ c.requires in
    search rules

pub returns-then-any_pass : goal.returns-then-any_pass
returns-then-any_pass c =
    let plan = c.args.plan in
    let room : length plan.rows ≡ PASSES * ROWS = search rules in
    let e = c.any_pass.ensures (λ pass. singular (length pass) pass) (λ pass answer r. search rules) ∙ sym (singular_passes_asked plan c.requires room) in
    or_then (singular_pass plan) (spilling_pass plan) (sym e ∙ c.if-any_pass.true) e

pub returns-else-any_pass : goal.returns-else-any_pass
returns-else-any_pass c =
    let plan = c.args.plan in
    let room : length plan.rows ≡ PASSES * ROWS = search rules in
    let e = c.any_pass.ensures (λ pass. singular (length pass) pass) (λ pass answer r. search rules) ∙ sym (singular_passes_asked plan c.requires room) in
    let f = c.any_pass-else-any_pass.ensures (spills plan.geometry.b plan.geometry.m) (λ pass answer r. search rules) ∙ sym (spilling_passes_asked plan) in
    or_else (singular_pass plan) (spilling_pass plan) (sym e ∙ c.if-any_pass.false) f
