-- `running::spare_rows` meets its contract: a search that passed only places that hold what they may. Assumes nothing.
use mathlib.Core.Path.{◌≡◌}
use mathlib.Core.Bool.{Bool, ◌&&◌, ◌||◌, false, not}
use mathlib.Core.List.{List}
use Prim.Native.Nat.{ℕ, ◌<◌, ◌/◌, ◌%◌}
use lib.Dec.{eqb, leb}
use lib.ListN.{get_or}
use Rattle.bank.specs.Limits.{ROWS}
use Rattle.running.proofs.spare_rows.Given as goal

-- what is asked of place q
abbrev pub test : List ℕ → ℕ → ℕ → ℕ → Bool
test rows count n q = (leb count (q / ROWS) || leb n (q % ROWS)) && not (eqb (get_or rows q 0) 0)

abbrev pub invariant-loop-q : goal.invariant-loop-q
invariant-loop-q l = (k : ℕ) → k < l.q → test l.rows l.count l.n k ≡ false
