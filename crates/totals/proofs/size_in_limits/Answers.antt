-- `totals::size_in_limits` meets its contract: the tests, one by one. Assumes nothing.
use mathlib.Core.Path.{sym, ◌∙◌}
use Rattle.totals.proofs.Total.{size_asked}
use Rattle.totals.proofs.size_in_limits.Goals as goal

pub returns-then-in_limits : goal.returns-then-in_limits
returns-then-in_limits c = sym (size_asked c.args.plan (sym c.in_limits.ensures ∙ c.if-in_limits.true))
