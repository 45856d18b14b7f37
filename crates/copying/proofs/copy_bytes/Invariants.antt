-- `copying::copy_bytes` meets its contract. The invariant: dst is as long as it was, and agrees with src below i. Assumes nothing.
use mathlib.Core.Path.{◌≡◌}
use Prim.Native.Nat.{ℕ, ◌<◌}
use lib.ListN.{length, get_or}
use Rattle.copying.proofs.copy_bytes.Given as goal

abbrev pub invariant-loop-i : goal.invariant-loop-i
invariant-loop-i l = (length l.dst ≡ length l.src) × ((k : ℕ) → k < l.i → get_or l.dst k 0 ≡ get_or l.src k 0)
