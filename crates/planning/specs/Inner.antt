-- What do proofs and inner contracts ask of a matrix, a pass and a route? A reader of the rules needs none of it. Assumes nothing.
use Rattle.std.specs.Prelude.{◌≡◌, false, true, List, ℕ, ◌-◌, ◌^◌, ◌<◌, ◌≤◌, get_or, length}
use Rattle.bank.specs.Limits.{PASSES}
use Rattle.bank.specs.declared.Geometry.{Geometry}
use Rattle.bank.specs.Geometry.{in_limits, records}
use Rattle.algebra.specs.Vector.{comb}
use Rattle.algebra.specs.Matrix.{singular, spills}
use Rattle.planning.specs.Columns.{delta}
use Rattle.planning.specs.Pass.{Pass, Route, pass_at}

-- a matrix of which a round can be made: n columns below 2 ^ n of which no nonzero set adds up to zero, in δ neither
pub record RoundReady (n m : ℕ) (cols : List ℕ) : Type 0 where
  pub long : length cols ≡ n
  pub small : (y : ℕ) → comb cols y < 2 ^ n
  pub regular : (z : ℕ) → z < 2 ^ n → comb cols z ≡ 0 → z ≡ 0
  pub trailing : (t : ℕ) → t < 2 ^ (n - m) → comb (delta m cols) t ≡ 0 → t ≡ 0

-- a pass that can run in a geometry
pub record PassRuns (g : Geometry) (pass : Pass) : Type 0 where
  pub rows_all : length pass.rows ≡ g.n
  pub rows_below : (i : ℕ) → i < g.n → get_or pass.rows i 0 < records g
  pub complement_below : pass.complement < records g
  pub regular : singular g.n pass.rows ≡ false
  pub dry : spills g.b g.m pass.rows ≡ false

-- a route that can run
pub record Runs (route : Route) : Type 0 where
  pub inside : in_limits route.geometry ≡ true
  pub few_passes : length route.passes ≤ PASSES
  pub each_runs : (p : ℕ) → p < length route.passes → PassRuns route.geometry (pass_at route p)
