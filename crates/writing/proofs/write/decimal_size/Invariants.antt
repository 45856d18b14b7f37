-- `writing::write::decimal_size` meets its contract: each iteration takes one digit away. Assumes nothing.
use mathlib.Core.Path.{◌≡◌}
use Prim.Native.Nat.{◌+◌, ◌≤◌}
use lib.ListN.{length}
use Rattle.text.specs.Lines.{decimal}
use Rattle.writing.proofs.write.decimal_size.Given as goal

abbrev pub invariant-loop-x : goal.invariant-loop-x
invariant-loop-x l = (l.x ≤ l.v) × (l.k + length (decimal l.x) ≡ length (decimal l.v) + 1)

abbrev pub decreases-loop-x : goal.decreases-loop-x
decreases-loop-x l = l.x
