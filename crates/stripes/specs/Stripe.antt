-- Where does the stripe of a load's tier lie, and when can it be read or blanked? Assumes nothing.
-- What proofs and inner contracts go by; the rules need none of it.
use Rattle.std.specs.Prelude.{◌≡◌, true, List, ℕ, ◌+◌, ◌-◌, ◌*◌, ◌^◌, ◌<◌, length}
use Rattle.bank.specs.declared.Geometry.{Geometry}
use Rattle.bank.specs.Geometry.{block, drives, in_limits, loads, memory_size, records, tiers}
use Rattle.stripes.specs.declared.stripe.Stripe.{Stripe}

-- where a load's tier lies: its first block in the area and in memory, the bytes of a block, and the drives
abbrev pub stripe_of : Geometry → ℕ → ℕ → Stripe
stripe_of g load tier =
    record {
      first = record { 0 = load * 2 ^ (g.m - g.b) + tier * drives g };
      place = record { 0 = tier * drives g };
      size = block g * g.r;
      drives = drives g;
    }

-- a read or a blank that is one of the load's, on an area and a memory of their lengths
pub record ReadReady (g : Geometry) (load tier : ℕ) (area mem : List ℕ) : Type 0 where
  pub inside : in_limits g ≡ true
  pub load_in : load < loads g
  pub tier_in : tier < tiers g
  pub area_long : length area ≡ records g * g.r
  pub memory_long : length mem ≡ memory_size g * g.r
