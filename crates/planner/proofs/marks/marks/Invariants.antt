-- `planner::marks::marks` meets its contract. The loop's invariant: the entries and the marks after j columns. Assumes nothing.
use mathlib.Core.Path.{◌≡◌}
use Rattle.bank.specs.Limits.{ROWS}
use Rattle.algebra.specs.Elimination.{built}
use Rattle.algebra.specs.Matrix.{marked}
use Rattle.elimination.specs.Echelon.{echelon_of}
use Rattle.planner.specs.Marks.{mask_of}
use Rattle.planner.proofs.marks.marks.Given as goal

abbrev pub invariant-loop-j : goal.invariant-loop-j
invariant-loop-j l = (echelon_of l.entries ≡ built ROWS l.columns l.j) × (l.set ≡ mask_of (marked l.columns) l.j)
