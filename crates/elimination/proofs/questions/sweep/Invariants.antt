-- `elimination::questions::sweep` meets its contract. The loop's invariant: the entries are those after the first j columns, all of them marked.
-- Assumes nothing.
use mathlib.Core.Path.{◌≡◌}
use lib.ListN.{length}
use Rattle.bank.specs.Limits.{ROWS}
use Rattle.algebra.specs.Elimination.{built}
use Rattle.algebra.specs.Matrix.{columns}
use Rattle.algebra.proofs.Questions.{AllMarked}
use Rattle.elimination.specs.Echelon.{echelon_of}
use Rattle.elimination.proofs.questions.sweep.Given as goal

abbrev pub invariant-loop-j : goal.invariant-loop-j
invariant-loop-j l = (echelon_of l.entries ≡ built ROWS (columns (length l.rows) l.rows) l.j) × AllMarked (length l.rows) l.rows l.j
