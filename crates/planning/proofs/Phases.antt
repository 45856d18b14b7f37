-- How many phases has a memoryload? Assumes nothing.
use mathlib.Core.Path.{◌≡◌, refl}
use mathlib.Core.Bool.{Bool, cond, false, true}
use mathlib.Core.List.{[], ◌∷◌}
use lib.ListN.{length}
use Rattle.planning.specs.Pass.{Route, phases}
use Rattle.planning.specs.declared.Phase.TheVariants.{Reads, Writes, Blanks}

-- two, and the blanks where they are asked for
pub phases_are : (route : Route) → length (phases route) ≡ cond route.blanks 3 2
unfolding phases
phases_are route = by route.blanks
  where
    by : (b : Bool) → length (cond b (Reads ∷ Writes ∷ Blanks ∷ []) (Reads ∷ Writes ∷ [])) ≡ cond b 3 2
    by true = refl
    by false = refl
