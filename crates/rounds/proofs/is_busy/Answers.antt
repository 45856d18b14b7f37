-- `rounds::is_busy` meets its contract: the walk asks of each column what the definition asks. Assumes nothing.
use mathlib.Core.Path.{◌∙◌, refl}
use mathlib.Core.Bool.{not}
use native.Mathlib.Omega.{arith}
use borrow.Author.Rules.{rules}
use Rattle.std.proofs.Common.{tests}
use Rattle.std.proofs.lemmas.Iterator.{YieldsList-from_range}
use Rattle.std.proofs.lemmas.Iterator.Search.{any_from_yields_List}
use Rattle.planning.specs.Columns.{phi, zero_column}
use Rattle.rounds.proofs.Places.{busy_ranged}
use Rattle.rounds.proofs.is_busy.Goals as goal

pub returns : goal.returns
returns c =
    any_from_yields_List (λ j. not (zero_column (phi c.args.m c.args.columns.now) j)) _ _ _ c.any.ensures.ran
    (YieldsList-from_range 0 c.args.m c.args.m refl (omega arith)) (λ x b q k. search (rules, tests))
    ∙ busy_ranged c.args.m c.args.columns.now
