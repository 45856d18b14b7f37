-- What does each check of a delivery come to, and which promise does each end keep? Assumes nothing.
use mathlib.Core.Path.{◌≡◌, refl, sym, ◌∙◌, subst}
use mathlib.Core.Bool.{Bool, true, false}
use mathlib.Core.List.{List, ◌++◌}
use Prim.Native.Nat.{ℕ, zero, suc, ◌<◌, ◌≤◌}
use native.Mathlib.Omega.{arith}
use borrow.Author.Tests.{le-leb, lt-leb}
use lib.Dec.{leb}
use lib.ListN.{length, take, drop}
use lib.Seq.{length-take-le}
use Rattle.bank.specs.declared.Geometry.{Geometry}
use Rattle.order.specs.declared.Order.{Order}
use Rattle.moving.specs.Step.{Buffers, area_bytes, memory_bytes, buffers_of, buffers_fit}
use Rattle.moving.proofs.Fits.{Fits→buffers_fit}
use Rattle.reading.specs.Reading.{Reads}
use Rattle.reading.proofs.Main.{read_taken}
use Rattle.demands.proofs.Answers.{ours_answers}
use Rattle.delivery.proofs.InOrder.{set_in_tray_order}
use Rattle.delivery.specs.declared.Delivery.TheVariants.{Done, Refused, NoRoom}
use Rattle.delivery.specs.Delivery.{DeliveryPromise, after_delivery, parts_of, room_for, set_in_order}
use Rattle.delivery.specs.Delivery.DeliveryPromise.{unread, no_room, other_length, done}

-- ---- a text that is refused

pub unread_promise : (text : List ℕ) (blanks : Bool) (v : Buffers) (k : ℕ) (order : Order) (z : ℕ) → Reads text k order z → (k ≡ 0 → ⊥)
    → DeliveryPromise text blanks v (Refused k (record { 0 = z })) v
unread_promise text blanks v zero order z r ne = absurd (ne refl)
unread_promise text blanks v (suc k) order z r ne =
    unread k z (subst (λ (o : Order). Reads text (suc k) o z) (ours_answers.read_refused text (suc k) order z r ne) r)

-- ---- the lengths

-- a text that isn't refused has no z
read_none : {text : List ℕ} {k : ℕ} {order : Order} {z : ℕ} → Reads text k order z → k ≡ 0 → Reads text 0 order 0
read_none {text} {k} {order} {z} r e =
    let none = ours_answers.explained.of_text text k order z r (λ q. omega (arith, e, q)) in
    subst (λ (j : ℕ). Reads text j order 0) e (subst (Reads text k order) none r)

-- a text that is read, and its order's run is of s bytes, its memory of k
pub record Measured (text : List ℕ) (order : Order) (s k : ℕ) : Type 0 where
  pub read : Reads text 0 order 0
  pub is_run : s ≡ area_bytes order.geometry
  pub is_memory : k ≡ memory_bytes order.geometry

pub measured : {text : List ℕ} {number : ℕ} {order : Order} {z s k : ℕ} → Reads text number order z → number ≡ 0
    → s ≡ area_bytes order.geometry → k ≡ memory_bytes order.geometry → Measured text order s k
measured r e size room = record { read = read_none r e; is_run = size; is_memory = room }

module _ {text : List ℕ} {order : Order} {s k : ℕ} (m : Measured text order s k) (blanks : Bool) (v : Buffers) where
  abbrev g : Geometry
  g = order.geometry

  no_room_promise : room_for g v ≡ false → DeliveryPromise text blanks v (NoRoom s) v
  no_room_promise e = subst (λ (n : ℕ). DeliveryPromise text blanks v (NoRoom n) v) (sym m.is_run) (no_room order m.read e)

  pub short_area : length v.area1 < s → DeliveryPromise text blanks v (NoRoom s) v
  short_area h = no_room_promise (rw (lt-leb (area_bytes g) (length v.area1) (omega (arith, m.is_run))))

  module _ (area : s ≤ length v.area1) where
    area_enough : leb (area_bytes g) (length v.area1) ≡ true
    area_enough = le-leb (area_bytes g) (length v.area1) (omega (arith, m.is_run))

    pub short_memory : length v.memory < k → DeliveryPromise text blanks v (NoRoom s) v
    short_memory h = no_room_promise (rw (area_enough, lt-leb (memory_bytes g) (length v.memory) (omega (arith, m.is_memory))))

    module _ (memory : k ≤ length v.memory) where
      enough : room_for g v ≡ true
      enough = rw (area_enough, le-leb (memory_bytes g) (length v.memory) (omega (arith, m.is_memory)))

      pub other_length_promise : (length v.area0 ≡ s → ⊥) → DeliveryPromise text blanks v (Refused 4 (record { 0 = 0 })) v
      other_length_promise ne = other_length order m.read enough (λ e. ne (e ∙ sym m.is_run))

      module _ (long : length v.area0 ≡ s) where
        -- what is lent on: no more of the spare area and the memory than is needed
        abbrev parts : Buffers
        parts = buffers_of v.area0 (take s v.area1) (take k v.memory)

        pub parts_fit : buffers_fit g parts ≡ true
        parts_fit =
            Fits→buffers_fit g parts
            (record {
              area0_long = long ∙ m.is_run;
              area1_long = length-take-le s v.area1 area ∙ m.is_run;
              memory_long = length-take-le k v.memory memory ∙ m.is_memory;
            })

        -- the parts came back as w, and the rest of each stayed
        pub done_promise : (w : Buffers) → w ≡ set_in_order order blanks parts
            → DeliveryPromise text blanks v Done (buffers_of w.area0 (w.area1 ++ drop s v.area1) (w.memory ++ drop k v.memory))
        unfolding after_delivery
        done_promise w set =
            let t = read_taken m.read refl in
            rw (set, m.is_run, m.is_memory)
            (done order m.read enough (long ∙ m.is_run)
            (set_in_tray_order order t.room t.judged blanks (parts_of g v) (rw (m.is_run, m.is_memory) at parts_fit)))
