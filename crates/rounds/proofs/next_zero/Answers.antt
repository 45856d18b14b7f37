-- `rounds::next_zero` meets its contract: the walk asks of each column what the search asks. Assumes nothing.
use mathlib.Core.Path.{◌≡◌}
use mathlib.Core.Bool.{false, true}
use borrow.Author.Rules.{rules}
use Rattle.std.proofs.Common.{tests}
use Rattle.std.proofs.lemmas.Iterator.{first_from_Range}
use Rattle.planning.specs.Columns.{phi, zero_column}
use Rattle.rounds.proofs.Places.{found_ranged}
use Rattle.rounds.proofs.next_zero.Goals as goal

pub returns-clause-first : goal.returns-clause-first
returns-clause-first c =
    found_ranged (zero_column (phi c.args.m c.args.columns.now)) c.args.m c.args.from (search rules) _
    (first_from_Range _ _ _ _ (λ y. zero_column (phi c.args.m c.args.columns.now) y ≡ true) (λ y. zero_column (phi c.args.m c.args.columns.now) y ≡ false)
    c.find.ensures.ran (λ x q k. search (rules, tests)) (λ x q k. (search rules, search (rules, tests))))
