-- `tables::tables::block_columns` meets its contract: the first j places are filled. Assumes nothing.
use mathlib.Core.Path.{◌≡◌}
use mathlib.Core.List.{map}
use Prim.Native.Nat.{◌/◌, ◌^◌}
use Rattle.algebra.specs.Matrix.{applied}
use Rattle.bank.specs.Limits.{ROWS}
use Rattle.matrix.proofs.Filled.{filled}
use Rattle.tables.proofs.tables.block_columns.Given as goal

abbrev pub invariant-loop-j : goal.invariant-loop-j
invariant-loop-j l = l.blocks ≡ filled ROWS (map (λ v. applied l.rows v / 2 ^ l.b) l.columns) l.j
