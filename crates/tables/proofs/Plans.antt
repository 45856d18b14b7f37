-- Why has each pass of a plan that can run its tables? Assumes nothing.
use mathlib.Core.Path.{◌≡◌, sym, subst}
use mathlib.Core.Bool.{true}
use mathlib.Core.List.{List}
use Prim.Native.Nat.{ℕ, ◌*◌, ◌≤◌, ◌<◌}
use lib.ListN.{get_or, take, drop}
use lib.Seq.{take-take}
use Rattle.bank.specs.Geometry.{in_limits}
use Rattle.bank.specs.Limits.{ROWS}
use Rattle.bank.specs.declared.Geometry.{Geometry}
use Rattle.planning.proofs.Running.{runs_allowed}
use Rattle.planning.proofs.Stored.{route_at, route_length}
use Rattle.planning.specs.Inner.{PassRuns, Runs}
use Rattle.planning.specs.Pass.{pass_at}
use Rattle.planning.specs.Stored.{route_of, stored_pass}
use Rattle.planning.specs.declared.Plan.{Plan}
use Rattle.tables.proofs.Columns.{tables_prepared}
use Rattle.tables.proofs.Paces.{plan_paced}
use Rattle.tables.specs.Tables.{Prepared, TablesReady, pass_with, tables_of}

pub plan_inside : (plan : Plan) → Runs (route_of plan) → in_limits plan.geometry ≡ true
unfolding route_of
plan_inside plan k = k.inside

module _ (plan : Plan) (k : Runs (route_of plan)) (p : ℕ) (h : p < plan.count) where
  abbrev g : Geometry
  g = plan.geometry

  abbrev rows : List ℕ
  rows = take ROWS (drop (p * ROWS) plan.rows)

  abbrev c : ℕ
  c = get_or plan.complements p 0

  wide : g.n ≤ ROWS
  unfolding route_of
  wide = (runs_allowed (route_of plan) k).n_high

  -- the pass that the tables are for is the plan's
  pub pass_same : pass_with g rows c ≡ pass_at (route_of plan) p
  unfolding stored_pass
  pass_same = rw (take-take g.n ROWS (drop (p * ROWS) plan.rows) wide) (sym (route_at plan p h))

  pub plan_ready : TablesReady g rows c
  unfolding route_of
  plan_ready =
      record {
        inside = k.inside;
        runs = subst (PassRuns g) (sym pass_same) (k.each_runs p (subst (λ (n : ℕ). p < n) (sym (route_length plan)) h));
      }

  pub plan_prepared : Prepared (tables_of plan p)
  unfolding tables_of
  plan_prepared = tables_prepared plan_ready (plan_paced plan) p
