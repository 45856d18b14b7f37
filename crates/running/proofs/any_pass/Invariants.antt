-- `running::any_pass` meets its contract: a search that passed only passes that fail the test. Assumes nothing.
use mathlib.Core.Path.{◌≡◌}
use mathlib.Core.Bool.{Bool, false}
use mathlib.Core.List.{List}
use Prim.Native.Nat.{ℕ, ◌<◌, ◌*◌}
use lib.ListN.{take, drop}
use Rattle.std.specs.Fn.{FnReturnsAt}
use Rattle.bank.specs.Limits.{ROWS}
use Rattle.running.proofs.any_pass.Given as goal

abbrev pub invariant-loop-p : goal.invariant-loop-p
invariant-loop-p g l =
    (asked : List ℕ → Bool) → ((pass : List ℕ) (answer : Bool) → FnReturnsAt g.F.Fn l.test pass answer → answer ≡ asked pass)
    → (k : ℕ) → k < l.p → asked (take l.n (drop (k * ROWS) l.rows)) ≡ false
