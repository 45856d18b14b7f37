-- `lists::apart::fill_targets` meets its contract: the first i targets are in place, and y is target i. Assumes nothing.
use mathlib.Core.Path.{◌≡◌}
use Prim.Native.Nat.{ℕ, ◌<◌, ◌^◌}
use lib.ListN.{get_or}
use Rattle.algebra.specs.Vector.{WORD}
use Rattle.algebra.specs.Carry.{place_by}
use Rattle.lists.proofs.apart.fill_targets.Given as goal

abbrev pub invariant-loop-i : goal.invariant-loop-i
invariant-loop-i l = (l.y < 2 ^ WORD) × (l.y ≡ place_by l.base l.columns l.i) × ((k : ℕ) → k < l.i → get_or l.low k 0 ≡ place_by l.base l.columns k)
