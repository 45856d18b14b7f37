-- How are passes stored in a plan, and which passes does a plan of any content hold? Assumes nothing.
use Rattle.std.specs.Prelude.{Bool, false, List, ℕ, ◌*◌, ◌/◌, ◌%◌, length, get_or, take, drop, replicate}
use Rattle.bank.specs.Limits.{ROWS, PASSES}
use Rattle.bank.specs.declared.Geometry.{Geometry}
use Rattle.algebra.specs.Search.{listed}
use Rattle.planning.specs.Pass.{Pass, Route, pass_in}
use Rattle.planning.specs.Making.{passes_for}
use Rattle.planning.specs.declared.Plan.{Plan}

-- row i of pass p is at place p·width + i; places with no pass or no row hold zero
unfoldable pub stored_rows : ℕ → ℕ → List Pass → List ℕ
stored_rows room width ps = listed (λ q. get_or (pass_in ps (q / width)).rows (q % width) 0) (room * width) 0

-- the complement of pass p is at place p; places with no pass hold zero
unfoldable pub stored_complements : ℕ → List Pass → List ℕ
stored_complements room ps = listed (λ p. (pass_in ps p).complement) room 0

-- a route as it is stored
unfoldable pub plan_of : Route → Plan
plan_of route =
    record {
      geometry = route.geometry;
      blanks = route.blanks;
      count = length route.passes;
      rows = stored_rows PASSES ROWS route.passes;
      complements = stored_complements PASSES route.passes;
    }

-- the n rows of pass p, and its complement
unfoldable pub stored_pass : ℕ → ℕ → List ℕ → List ℕ → ℕ → Pass
stored_pass width n rows cs p = record { rows = take n (drop (p * width) rows); complement = get_or cs p 0 }

-- the route that a plan of any content holds
unfoldable pub route_of : Plan → Route
route_of plan =
    record {
      geometry = plan.geometry;
      blanks = plan.blanks;
      passes = listed (stored_pass ROWS plan.geometry.n plan.rows plan.complements) plan.count 0;
    }

-- zero everywhere, and nothing to blank
abbrev pub empty_plan : Plan
empty_plan =
    record {
      geometry = record { n = 0; b = 0; d = 0; m = 0; r = 0 };
      blanks = false;
      count = 0;
      rows = replicate (PASSES * ROWS) 0;
      complements = replicate PASSES 0;
    }

-- the plan of the order A, c, which keeps what was asked of the spent area
unfoldable pub plan_for : Geometry → List ℕ → ℕ → Bool → Plan
plan_for g rows c blanks = plan_of (record { geometry = g; blanks = blanks; passes = passes_for g rows c })
