-- Which pass, memoryload, phase and tier is a step number? Assumes nothing.
use Rattle.std.specs.Prelude.{ℕ, ◌/◌, ◌%◌, get_or}
use Rattle.bank.specs.Geometry.{tiers}
use Rattle.planning.specs.declared.Phase.{Phase}
use Rattle.planning.specs.declared.Phase.TheVariants.{Writes}
use Rattle.planning.specs.Pass.{Route, phases, pass_steps, load_steps}

-- passes come one after the other
unfoldable pub pass_of : Route → ℕ → ℕ
pass_of route s = s / pass_steps route

-- the memoryloads of a pass come in ascending order
unfoldable pub load_of : Route → ℕ → ℕ
load_of route s = s % pass_steps route / load_steps route

-- the phases of a load come in their order; no step is past the last of them
unfoldable pub phase_of : Route → ℕ → Phase
phase_of route s = get_or (phases route) (s % pass_steps route % load_steps route / tiers route.geometry) Writes

-- which of the reads, of the writes, or of the blanks: t
unfoldable pub tier_of : Route → ℕ → ℕ
tier_of route s = s % pass_steps route % load_steps route % tiers route.geometry
