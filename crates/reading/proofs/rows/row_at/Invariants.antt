-- `reading::rows::row_at` meets its contract: the characters from place i on are the bits read so far; a row has a digit below 2 at each place, and LF after.
-- Assumes nothing.
use mathlib.Core.Path.{◌≡◌}
use mathlib.Core.List.{◌++◌}
use Prim.Native.Nat.{◌+◌, ◌-◌, ◌^◌, ◌<◌}
use lib.ListN.{drop}
use Rattle.text.specs.Lines.{bits}
use Rattle.reading.proofs.rows.row_at.Given as goal

abbrev pub invariant-loop-i : goal.invariant-loop-i
invariant-loop-i l = (l.v < 2 ^ (l.n - l.i)) × (drop (l.at + l.i) l.text ≡ bits (l.n - l.i) l.v ++ drop (l.at + l.n) l.text)
