-- `lessons::next_place` meets its contract: a search that passed only places below `from` and other keys. Assumes nothing.
use mathlib.Core.Path.{◌≡◌}
use mathlib.Core.Bool.{false, ◌&&◌}
use Prim.Native.Nat.{ℕ, ◌<◌}
use lib.Dec.{eqb, leb}
use lib.ListN.{get_or}
use Rattle.lessons.proofs.next_place.Given as goal

abbrev pub invariant-loop-i : goal.invariant-loop-i
invariant-loop-i l = (k : ℕ) → k < l.i → leb l.from k && eqb (get_or l.places k 0) l.key ≡ false
