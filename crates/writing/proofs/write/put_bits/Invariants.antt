-- `writing::write::put_bits` meets its contract: after i iterations the characters of the first i bits stand there. Assumes nothing.
use mathlib.Core.Path.{◌≡◌}
use Prim.Native.Nat.{◌+◌}
use Rattle.text.specs.Lines.{bits}
use Rattle.writing.specs.Written.{Wrote}
use Rattle.text.proofs.RowLines.{shifted}
use Rattle.writing.proofs.write.put_bits.Given as goal

abbrev pub invariant-loop-i : goal.invariant-loop-i
invariant-loop-i l = (l.x ≡ shifted l.v l.i) × Wrote l.initial.room l.at (bits l.i l.v) l.room (l.at + l.i)
