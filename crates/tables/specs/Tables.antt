-- What do the writes of a pass need, worked out once a pass? Assumes nothing.
-- What proofs and inner contracts go by; the rules need none of it.
use Rattle.std.specs.Prelude.{◌≡◌, true, List, map, ◌++◌, ℕ, ◌-◌, ◌*◌, ◌/◌, take, drop, get_or, replicate}
use Rattle.bank.specs.Limits.{ROWS}
use Rattle.bank.specs.declared.Geometry.{Geometry}
use Rattle.bank.specs.Geometry.{block, in_limits}
use Rattle.algebra.specs.Matrix.{applied, columns, inverse}
use Rattle.planning.specs.Pass.{Pass}
use Rattle.planning.specs.Stored.{route_of}
use Rattle.planning.specs.declared.Plan.{Plan}
use Rattle.tables.specs.Pace.{Paced, pace_of}
use Rattle.tables.specs.declared.tables.Tables.{Tables}
use Rattle.tables.specs.declared.pace.Pace.{Pace}
use Rattle.planning.specs.Inner.{PassRuns}

-- the pass of n of the stored rows, and a complement
abbrev pub pass_with : Geometry → List ℕ → ℕ → Pass
pass_with g rows c = record { rows = take g.n rows; complement = c }

-- the columns of the inverse of rows 0..m-1 on the columns below m
abbrev pub low_columns : Geometry → Pass → List ℕ
low_columns g pass = columns g.m (inverse g.m (take g.m pass.rows))

-- what the pass makes of the columns of that inverse, in blocks
abbrev pub low_blocks : Geometry → Pass → List ℕ
low_blocks g pass = map (λ v. applied pass.rows v / block g) (low_columns g pass)

-- the tables of pass p, whose rows and complement are stored so
unfoldable pub tables_for : Geometry → Pace → ℕ → List ℕ → ℕ → Tables
tables_for g pace p rows c =
    record {
      geometry = g;
      pace = pace;
      pass = p;
      rows = rows;
      complement = c;
      columns = low_columns g (pass_with g rows c) ++ replicate (ROWS - g.m) 0;
      blocks = low_blocks g (pass_with g rows c) ++ replicate (ROWS - g.m) 0;
    }

-- the pass that tables are for
abbrev pub pass_for : Tables → Pass
pass_for t = pass_with t.geometry t.rows t.complement

-- a pass that has tables
pub record TablesReady (g : Geometry) (rows : List ℕ) (c : ℕ) : Type 0 where
  pub inside : in_limits g ≡ true
  pub runs : PassRuns g (pass_with g rows c)

-- tables that are those of their pass, at a pace of their bank
pub record Prepared (t : Tables) : Type 0 where
  pub ready : TablesReady t.geometry t.rows t.complement
  pub columns_are : t.columns ≡ low_columns t.geometry (pass_for t) ++ replicate (ROWS - t.geometry.m) 0
  pub blocks_are : t.blocks ≡ low_blocks t.geometry (pass_for t) ++ replicate (ROWS - t.geometry.m) 0
  pub paced : Paced t.geometry t.pace

-- the tables of pass p of a plan
unfoldable pub tables_of : Plan → ℕ → Tables
tables_of plan p = tables_for plan.geometry (pace_of (route_of plan)) p (take ROWS (drop (p * ROWS) plan.rows)) (get_or plan.complements p 0)
