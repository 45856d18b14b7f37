-- What does a delivery answer, and what does it leave where the run was? Assumes nothing.
use Rattle.std.specs.Prelude.{◌≡◌, Bool, true, false, cond, ◌&&◌, List, ◌++◌, ℕ, suc, ◌<◌, eqb, leb, length, take, drop, replicate}
use Rattle.bank.specs.declared.Geometry.{Geometry}
use Rattle.bank.specs.Geometry.{records}
use Rattle.order.specs.declared.Order.{Order}
use Rattle.addresses.specs.Address.{sent_to}
use Rattle.plan.specs.Answer.{planned_for}
use Rattle.totals.specs.Total.{total_steps, result_area}
use Rattle.moving.specs.Bytes.{record_of}
use Rattle.moving.specs.Step.{Buffers, buffers_of, area_bytes, memory_bytes}
use Rattle.moving.specs.Call.{begun, ran}
use Rattle.reading.specs.Reading.{Reads, no_order}
use Rattle.demands.specs.Delivers.{area_named}
use Rattle.delivery.specs.declared.Delivery.{Delivery}
use Rattle.delivery.specs.declared.Delivery.TheVariants.{Done, Refused, NoRoom}

-- the lent bytes of a delivery are the run, a spare area and a memory, in the places of area 0, area 1 and memory;
-- the spare area and the memory may be longer than a run and its memory are
abbrev pub room_for : Geometry → Buffers → Bool
room_for g v = leb (area_bytes g) (length v.area1) && leb (memory_bytes g) (length v.memory)

-- ---- the run in tray order

-- as long as it was, and at Ax xor c the record that was at x, for every x
pub record InTrayOrder (order : Order) (before after : List ℕ) : Type 0 where
  pub as_long : length after ≡ length before
  pub at_target : (x : ℕ) → x < records order.geometry
      → record_of order.geometry.r after (sent_to order x) ≡ record_of order.geometry.r before x

-- ---- every byte that is left

-- what the mover is lent: no more of the spare area and the memory than it takes
abbrev pub parts_of : Geometry → Buffers → Buffers
parts_of g v = buffers_of v.area0 (take (area_bytes g) v.area1) (take (memory_bytes g) v.memory)

-- all the steps of the order's plan, which blanks or doesn't, each done once: however often the line sends a step again, no byte tells
abbrev pub all_steps : Order → Bool → Buffers → Buffers
all_steps order blanks v = let plan = (planned_for order blanks).plan in (ran plan (begun v) (total_steps plan)).buffers

-- area 1 once the result, where it lies there, was taken to area 0: as it is, or all zero where the spent area is to be blanked
abbrev pub taken_from : ℕ → Bool → List ℕ → List ℕ
taken_from area blanks l = cond (blanks && eqb area 1) (replicate (length l) 0) l

-- the same, and the area that holds the result goes to area 0
unfoldable pub set_in_order : Order → Bool → Buffers → Buffers
set_in_order order blanks v =
    let w = all_steps order blanks v in
    let area = result_area (planned_for order blanks).plan in
    buffers_of (area_named area w) (taken_from area blanks w.area1) w.memory

-- the same on the parts; what lies beyond them stays
unfoldable pub after_delivery : Order → Bool → Buffers → Buffers
after_delivery order blanks v =
    let g = order.geometry in
    let w = set_in_order order blanks (parts_of g v) in
    buffers_of w.area0 (w.area1 ++ drop (area_bytes g) v.area1) (w.memory ++ drop (memory_bytes g) v.memory)

-- ---- the promise

-- for this order text, where the spent area is to be blanked or not, and for these bytes a delivery may answer so, and leave these bytes
pub data DeliveryPromise (text : List ℕ) (blanks : Bool) (v : Buffers) : Delivery → Buffers → Type 0 where
  -- 8, 1, 3: what reading the text is refused by, and its z
  unread : (k z : ℕ) → Reads text (suc k) no_order z → DeliveryPromise text blanks v (Refused (suc k) (record { 0 = z })) v
  -- the run's N-as-R bytes or its memory's M-as-R don't fit the spare area and the memory
  no_room : (order : Order) → Reads text 0 order 0 → room_for order.geometry v ≡ false
      → DeliveryPromise text blanks v (NoRoom (area_bytes order.geometry)) v
  -- 4: what came in isn't N-as-R bytes
  other_length : (order : Order) → Reads text 0 order 0 → room_for order.geometry v ≡ true
      → (length v.area0 ≡ area_bytes order.geometry → ⊥) → DeliveryPromise text blanks v (Refused 4 (record { 0 = 0 })) v
  -- for all else the run is in tray order
  done : (order : Order) → Reads text 0 order 0 → room_for order.geometry v ≡ true → length v.area0 ≡ area_bytes order.geometry
      → InTrayOrder order v.area0 (after_delivery order blanks v).area0 → DeliveryPromise text blanks v Done (after_delivery order blanks v)
