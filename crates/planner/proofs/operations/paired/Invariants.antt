-- `planner::operations::paired` meets its contract. The loop's invariant: the first j columns are in place, and the others still get theirs of what is left.
-- Assumes nothing.
use mathlib.Core.Path.{◌≡◌}
use Prim.Native.Nat.{◌-◌, ◌/◌, ◌<◌, ◌^◌, ◌≤◌, ℕ}
use Rattle.bank.specs.Limits.{ROWS}
use Rattle.algebra.specs.Search.{which}
use Rattle.matrix.proofs.Filled.{filled}
use Rattle.planning.specs.Columns.{adding}
use Rattle.planning.specs.Making.{partner}
use Rattle.planner.specs.Marks.{bare, places_of}
use Rattle.planner.proofs.operations.paired.Given as goal

-- what each column gets
abbrev pub share : ℕ → ℕ → ℕ → ℕ → ℕ
share set n m = partner (which (bare set m n) n 0) (places_of m (set / 2 ^ (n - m)))

abbrev pub invariant-loop-j : goal.invariant-loop-j
invariant-loop-j l =
    (l.left < 2 ^ l.m) × (l.out ≡ filled ROWS (adding (share l.set l.n l.m) l.n) l.j)
    × ((i : ℕ) → l.j ≤ i → share l.set l.n l.m i ≡ partner (which (bare l.set l.m l.n) (l.n - l.j) l.j) (places_of l.m l.left) i)
