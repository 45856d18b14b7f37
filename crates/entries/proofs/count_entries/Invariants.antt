-- `entries::count_entries` meets its contract: the lines passed are those of as many entries as are counted. Assumes nothing.
use mathlib.Core.Path.{◌≡◌}
use mathlib.Core.List.{List}
use Prim.Native.Nat.{ℕ, ◌+◌, ◌-◌, ◌≤◌}
use lib.ListN.{length}
use Rattle.entries.proofs.Passed.{Passed}
use Rattle.entries.proofs.count_entries.Given as goal

-- each entry took a byte of the text or more, so that their count doesn't wrap
abbrev pub invariant-loop-at : goal.invariant-loop-at
invariant-loop-at l = (done : List ℕ) × Passed l.text l.at done × (l.count ≡ length done) × (l.count + (length l.text - l.at) ≤ length l.text)

abbrev pub decreases-loop-at : goal.decreases-loop-at
decreases-loop-at l = length l.text - l.at
