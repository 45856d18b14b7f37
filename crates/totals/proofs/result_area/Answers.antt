-- `totals::result_area` meets its contract: by definition. Assumes nothing.
use mathlib.Core.Path.{refl}
use Rattle.totals.specs.Total.{result_area}
use Rattle.totals.proofs.result_area.Goals as goal

pub returns : goal.returns
unfolding result_area
returns c = refl
