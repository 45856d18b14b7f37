-- `order::has_stray` meets its contract: stray rows, and then c. Assumes nothing.
use mathlib.Core.Path.{◌≡◌, ap, ap₂, sym, ◌∙◌}
use mathlib.Core.Bool.{Bool, ◌||◌}
use Prim.Native.Nat.{ℕ, ◌≤◌}
use native.Mathlib.Omega.{arith}
use lib.Dec.{leb}
use lib.ListN.{get_or, length}
use Rattle.bank.specs.Geometry.{records}
use Rattle.algebra.specs.Search.{any_below}
use Rattle.order.specs.Order.{matrix_of, stray_row, stray_complement}
use Rattle.order.specs.declared.Order.{Order}
use Rattle.order.proofs.Passing.{any_of_first}
use Rattle.order.proofs.has_stray.Goals as goal

-- the test of the rows tells whether one is stray: so its answer decides
module _ (order : Order) {size : ℕ} {t s : Bool} (is : size ≡ records order.geometry) (room : order.geometry.n ≤ length order.rows)
    (rows : t ≡ any_below (λ i. leb size (get_or (matrix_of order) i 0)) (length (matrix_of order))) (so : t ≡ s) where
  decided : s || stray_complement order ≡ stray_row order || stray_complement order
  unfolding stray_row
  decided =
      let first = any_of_first (leb size) order.geometry.n order.rows room in
      ap (λ (u : Bool). u || stray_complement order)
      (sym so ∙ rows ∙ first ∙ ap (λ (k : ℕ). any_below (λ i. leb k (get_or order.rows i 0)) order.geometry.n) is)

pub returns-then-stray : goal.returns-then-stray
returns-then-stray c = c.if-stray.true ∙ decided c.args.order c.power-size.ensures (omega arith) c.stray.ensures c.if-stray.true

pub returns-else-stray : goal.returns-else-stray
unfolding stray_complement
returns-else-stray c =
    ap₂ leb c.power-size.ensures c.from.ensures ∙ decided c.args.order c.power-size.ensures (omega arith) c.stray.ensures c.if-stray.false
