-- Has a delivery one outcome, does a refusal show why, is the run in tray order only one, what is left where no record need move,
-- and what in the spent area? Assumes nothing.
use Rattle.std.specs.Prelude.{◌≡◌, Bool, true, List, ℕ, length, take}
use Rattle.bank.specs.Limits.{ROWS}
use Rattle.bank.specs.declared.Address.{Address}
use Rattle.bank.specs.declared.Geometry.{Geometry}
use Rattle.order.specs.declared.Order.{Order}
use Rattle.order.specs.Order.{judgement}
use Rattle.moving.specs.Bytes.{AllZero}
use Rattle.moving.specs.Step.{Buffers, area_bytes, memory_bytes}
use Rattle.reading.specs.Reading.{Reads, Whole}
use Rattle.demands.specs.Mover.{Mover}
use Rattle.demands.specs.Numbers.{Inside}
use Rattle.demands.specs.Shows.{Explains, Gives, GoesWith}
use Rattle.demands.specs.Still.{StillOrder}
use Rattle.delivery.specs.declared.Delivery.{Delivery}
use Rattle.delivery.specs.declared.Delivery.TheVariants.{Done, Refused}
use Rattle.delivery.specs.Delivery.{InTrayOrder, DeliveryPromise}

pub record Outcome : Type 1 where
  -- the promise admits one answer, and one end of every lent byte
  pub one : (text : List ℕ) (blanks : Bool) (v : Buffers) (answer answer' : Delivery) (w w' : Buffers)
      → DeliveryPromise text blanks v answer w → DeliveryPromise text blanks v answer' w' → (answer ≡ answer') × (w ≡ w')
  -- refused, it shows why, as every call does of the order that the text is; a text that is no order's has no z either
  pub shows : (text : List ℕ) (blanks : Bool) (v : Buffers) (k : ℕ) (z : Address) (w : Buffers) → DeliveryPromise text blanks v (Refused k z) w
      → (g : Geometry) (written : Order) → Inside text g → Whole text g written → GoesWith written k z.0
  pub else_0 : (text : List ℕ) (blanks : Bool) (v : Buffers) (k : ℕ) (z : Address) (w : Buffers) → DeliveryPromise text blanks v (Refused k z) w
      → (k ≡ 3 → ⊥) → z.0 ≡ 0
  -- so another site, whichever mover it has and whichever call it makes, is given the same z with the same number
  pub agrees : (M : Mover) → Explains M → (text : List ℕ) (blanks : Bool) (v : Buffers) (k : ℕ) (z : Address) (w : Buffers)
      → DeliveryPromise text blanks v (Refused k z) w
      → (g : Geometry) (written : Order) → Inside text g → Whole text g written → (z' : ℕ) → Gives M written k z' → z.0 ≡ z'
  -- an accepted order sets a run of N-as-R bytes in one order only
  pub one_order : (order : Order) → length order.rows ≡ ROWS → judgement order ≡ 0 → (before after after' : List ℕ)
      → length before ≡ area_bytes order.geometry → InTrayOrder order before after → InTrayOrder order before after' → after ≡ after'
  -- an order that leaves every record where it is leaves every lent byte as it was, whatever is answered
  pub untouched : (text : List ℕ) (order : Order) → Reads text 0 order 0 → StillOrder order
      → (blanks : Bool) (v : Buffers) (answer : Delivery) (w : Buffers) → DeliveryPromise text blanks v answer w → w ≡ v
  -- any other order, where the spent area is to be blanked, leaves the spare area and memory zero in every byte that the run took of them
  pub blanked : (text : List ℕ) (order : Order) → Reads text 0 order 0 → (StillOrder order → ⊥) → (v : Buffers) (w : Buffers)
      → DeliveryPromise text true v Done w
      → AllZero (take (area_bytes order.geometry) w.area1) × AllZero (take (memory_bytes order.geometry) w.memory)
