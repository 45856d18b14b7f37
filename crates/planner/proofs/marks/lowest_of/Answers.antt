-- `planner::marks::lowest_of` meets its contract: a set that is not empty has a lowest bit inside the word. Assumes nothing.
use mathlib.Core.Path.{◌∙◌, ap}
use Prim.Native.Nat.{◌^◌, ℕ}
use Rattle.planner.proofs.Masks.{lowest_nil, lowest_one}
use Rattle.planner.proofs.marks.lowest_of.Goals as goal

pub returns-then-set-eq0 : goal.returns-then-set-eq0
returns-then-set-eq0 c = lowest_nil c.args.set c.if-set-eq0.true

pub returns-else-set-eq0 : goal.returns-else-set-eq0
returns-else-set-eq0 c = c.power.ensures ∙ ap (λ (k : ℕ). 2 ^ k) c.lowest.ensures ∙ lowest_one c.args.set c.if-set-eq0.false
