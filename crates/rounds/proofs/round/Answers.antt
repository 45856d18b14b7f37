-- `rounds::round` meets its contract: S keeps what E asks, and the products are those of the definition. Assumes nothing.
use mathlib.Core.Path.{subst, sym}
use mathlib.Core.List.{List}
use Prim.Native.Nat.{◌-◌, ◌<◌, ◌≤◌, ℕ}
use native.Mathlib.Omega.{arith}
use lib.ListN.{length, replicate, take}
use borrow.Author.Rules.{rules}
use Rattle.bank.specs.Limits.{ROWS}
use Rattle.planning.proofs.Round.{after-swaps_ready}
use Rattle.planning.specs.Inner.{RoundReady}
use Rattle.planning.specs.Making.{after_swaps}
use Rattle.rounds.proofs.Products.{swapped_front, swaps_front}
use Rattle.rounds.proofs.round.Goals as goal

pub erases-e-requires : goal.erases-e-requires
erases-e-requires c =
    let a = c.args in
    let cols = a.columns.now in
    let n = length cols in
    let S = c.swaps-s in
    let w = c.product-swapped in
    let s-front = swaps_front n a.b a.m cols S.result w.result (replicate (ROWS - n) 0) S.ensures in
    let w-front = swapped_front n a.b a.m cols S.result w.result (replicate (ROWS - length (take n S.result)) 0) s-front w.ensures in
    let ready = after-swaps_ready n a.b a.m (omega arith) (omega arith) cols c.requires.3 in
    subst (λ (l : List ℕ). (a.b < a.m) × (a.m < length l) × (length l ≤ ROWS) × RoundReady (length l) a.m l) (sym w-front)
    (search rules, omega (arith, ready.long), omega (arith, ready.long), subst (λ (k : ℕ). RoundReady k a.m (after_swaps n a.b a.m cols)) (sym ready.long) ready)
