-- `lists::apart::columns_of` meets its contract: the first j columns are in place. Assumes nothing.
use mathlib.Core.Path.{◌≡◌}
use Rattle.bank.specs.Limits.{ROWS}
use Rattle.matrix.proofs.Filled.{filled}
use Rattle.lists.specs.Apart.{columns_of}
use Rattle.lists.proofs.apart.columns_of.Given as goal

abbrev pub invariant-loop-j : goal.invariant-loop-j
invariant-loop-j l = l.cols ≡ filled ROWS (columns_of l.list l.n) l.j
