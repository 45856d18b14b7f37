-- Where in its pass does a step stand? Its number and the pace of the steps say so. Assumes nothing.
-- What proofs and inner contracts go by; the rules need none of it.
use Rattle.std.specs.Prelude.{◌≡◌, ℕ, zero, suc, ◌/◌, ◌%◌}
use Rattle.bank.specs.declared.Geometry.{Geometry}
use Rattle.bank.specs.Geometry.{tiers}
use Rattle.planning.specs.declared.Phase.{Phase}
use Rattle.planning.specs.declared.Phase.TheVariants.{Reads, Writes, Blanks}
use Rattle.planning.specs.Pass.{Route, load_steps, pass_steps}
use Rattle.tables.specs.declared.pace.Pace.{Pace}
use Rattle.tables.specs.declared.pace.Standing.{Standing}

-- the steps of a phase, of a memoryload, of a pass
abbrev pub pace_of : Route → Pace
pace_of route = record { phase = tiers route.geometry; load = load_steps route; pass = pass_steps route }

-- the phase at place k of a memoryload's
unfoldable pub phase_at : ℕ → Phase
phase_at zero = Reads
phase_at (suc zero) = Writes
phase_at (suc (suc k)) = Blanks

-- the load, the phase and the tier of step s
abbrev pub standing_at : Pace → ℕ → Standing
standing_at pace s =
    record {
      load = s % pace.pass / pace.load;
      phase = phase_at (s % pace.pass % pace.load / pace.phase);
      tier = s % pace.pass % pace.load % pace.phase;
    }

-- a pace that a bank has: that of a route there
pub record Paced (g : Geometry) (pace : Pace) : Type 0 where
  pub route : Route
  pub geometry_is : route.geometry ≡ g
  pub pace_is : pace ≡ pace_of route
