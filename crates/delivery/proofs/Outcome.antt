-- Why has a delivery one outcome, what does a refusal show, why is the run in tray order only one, why does no byte change where no record
-- need move, and why is the spent area zero? Assumes nothing.
use mathlib.Core.Path.{◌≡◌, refl, sym, ap, ap₂, ◌∙◌, subst}
use mathlib.Core.Bool.{Bool, cond, false, true}
use mathlib.Core.List.{List, ◌++◌}
use Prim.Native.Nat.{ℕ, zero, suc, ◌*◌, ◌/◌, ◌%◌, ◌<◌}
use native.Mathlib.Nat.{div-add-mod', div-lt_iff_lt-mul, mod-lt}
use native.Mathlib.Omega.{arith}
use borrow.Author.Tests.{eq-eqb, leb-true, ne_eqb}
use lib.Dec.{eqb, leb}
use lib.ListN.{length, get_or, drop, take, take-append-drop}
use lib.Seq.{ext_get_or, get_or-drop, get_or-take, take_at}
use Rattle.algebra.proofs.Search.{and_l, and_r}
use Rattle.bank.specs.Limits.{ROWS}
use Rattle.bank.specs.declared.Address.{Address}
use Rattle.bank.specs.declared.Geometry.{Geometry}
use Rattle.bank.specs.Geometry.{records}
use Rattle.order.specs.declared.Order.{Order}
use Rattle.order.specs.Order.{judgement}
use Rattle.addresses.proofs.Main.{comes}
use Rattle.moving.specs.Bytes.{AllZero, record_of}
use Rattle.moving.specs.Call.{Moment, begun, ran}
use Rattle.moving.specs.Step.{Buffers, area_bytes, buffers_of, memory_bytes}
use Rattle.moving.proofs.Calls.{run_none}
use Rattle.plan.specs.Answer.{planned_for}
use Rattle.reading.specs.Reading.{Reads, Whole, no_order}
use Rattle.reading.proofs.Main.{read_taken}
use Rattle.demands.specs.Delivers.{area_named}
use Rattle.demands.specs.Mover.{Mover}
use Rattle.demands.specs.Numbers.{Inside}
use Rattle.demands.specs.Ours.{ours}
use Rattle.demands.specs.Shows.{Explains, Gives, GoesWith}
use Rattle.demands.specs.Shows.Gives.{reading}
use Rattle.demands.specs.Still.{NoSteps, StillOrder}
use Rattle.demands.proofs.Answers.{ours_answers}
use Rattle.demands.proofs.Delivers.{ours_counts}
use Rattle.demands.proofs.Shows.{one_with}
use Rattle.demands.proofs.Still.{ours_still}
use Rattle.delivery.proofs.InOrder.{set_blank, set_fits, taken_none}
use Rattle.delivery.proofs.Promised.{parts_fit}
use Rattle.delivery.specs.declared.Delivery.{Delivery}
use Rattle.delivery.specs.declared.Delivery.TheVariants.{Done, Refused, NoRoom}
use Rattle.delivery.specs.Delivery.{DeliveryPromise, InTrayOrder, after_delivery, all_steps, parts_of, room_for, set_in_order, taken_from}
use Rattle.delivery.specs.Delivery.DeliveryPromise.{unread, no_room, other_length, done}
use Rattle.delivery.specs.Outcome.{Outcome}

-- ---- one outcome: it is a function of what reading the text gives, and of the bytes

answer_by : ℕ → Order → ℕ → Buffers → Delivery
answer_by zero order z v =
    let g = order.geometry in
    cond (room_for g v) (cond (eqb (length v.area0) (area_bytes g)) Done (Refused 4 (record { 0 = 0 }))) (NoRoom (area_bytes g))
answer_by (suc k) order z v = Refused (suc k) (record { 0 = z })

bytes_by : ℕ → Order → Bool → Buffers → Buffers
bytes_by zero order blanks v =
    let g = order.geometry in
    cond (room_for g v) (cond (eqb (length v.area0) (area_bytes g)) (after_delivery order blanks v) v) v
bytes_by (suc k) order blanks v = v

-- a choice between v and what is v
either : (t : Bool) {v w : Buffers} → w ≡ v → cond t w v ≡ v
either true e = e
either false e = refl

-- what a promise says
record Decided (text : List ℕ) (blanks : Bool) (v : Buffers) (answer : Delivery) (w : Buffers) : Type 0 where
  number : ℕ
  order : Order
  z : ℕ
  read : Reads text number order z
  answered : answer ≡ answer_by number order z v
  bytes : w ≡ bytes_by number order blanks v

decided : {text : List ℕ} {blanks : Bool} {v : Buffers} {answer : Delivery} {w : Buffers} → DeliveryPromise text blanks v answer w → Decided text blanks v answer w
unfolding answer_by bytes_by
decided (unread k z r) = record { number = suc k; order = no_order; z = z; read = r; answered = refl; bytes = refl }
decided (no_room order r e) = record { number = 0; order = order; z = 0; read = r; answered = rw e; bytes = rw e }
decided {v = v} (other_length order r e ne) =
    let n = ne_eqb (length v.area0) (area_bytes order.geometry) ne in
    record { number = 0; order = order; z = 0; read = r; answered = rw (e, n); bytes = rw (e, n) }
decided {v = v} (done order r e long set) =
    let n = eq-eqb (length v.area0) (area_bytes order.geometry) long in
    record { number = 0; order = order; z = 0; read = r; answered = rw (e, n); bytes = rw (e, n) }

one : (text : List ℕ) (blanks : Bool) (v : Buffers) (answer answer' : Delivery) (w w' : Buffers)
    → DeliveryPromise text blanks v answer w → DeliveryPromise text blanks v answer' w' → (answer ≡ answer') × (w ≡ w')
one text blanks v answer answer' w w' p p' =
    let a = decided p in
    let b = decided p' in
    let e = ours_answers.read_one text a.number b.number a.order b.order a.z b.z a.read b.read in (
      a.answered ∙ (λ i. answer_by (e.0 i) (e.1 i) (e.2 i) v) ∙ sym b.answered,
      a.bytes ∙ ap₂ (λ (k : ℕ) (o : Order). bytes_by k o blanks v) e.0 e.1 ∙ sym b.bytes,
    )

-- ---- a refusal by 3 shows why

shows : (text : List ℕ) (blanks : Bool) (v : Buffers) (k : ℕ) (z : Address) (w : Buffers) → DeliveryPromise text blanks v (Refused k z) w
    → (g : Geometry) (written : Order) → Inside text g → Whole text g written → GoesWith written k z.0
shows text blanks v k z w (unread j y r) g written i h = ours_answers.explained.of_order written (suc j) y (reading text g i h (suc j) no_order y r)
shows text blanks v k z w (other_length order r e ne) g written i h = record { with_3 = λ q. absurd (omega (arith, q)); else_0 = λ f. refl }

agrees : (M : Mover) → Explains M → (text : List ℕ) (blanks : Bool) (v : Buffers) (k : ℕ) (z : Address) (w : Buffers) → DeliveryPromise text blanks v (Refused k z) w
    → (g : Geometry) (written : Order) → Inside text g → Whole text g written → (z' : ℕ) → Gives M written k z' → z.0 ≡ z'
agrees M e text blanks v k z w p g written i h z' gives =
    one_with written k z.0 z' (shows text blanks v k z w p g written i h) (e.of_order written k z' gives)

else_0 : (text : List ℕ) (blanks : Bool) (v : Buffers) (k : ℕ) (z : Address) (w : Buffers) → DeliveryPromise text blanks v (Refused k z) w → (k ≡ 3 → ⊥) → z.0 ≡ 0
else_0 text blanks v k z w (unread j y r) f = ours_answers.explained.of_text text (suc j) no_order y r f
else_0 text blanks v k z w (other_length order r e ne) f = refl

-- ---- one order: two runs of N records of r bytes are equal where their records are

byte_of_record : (r : ℕ) (l : List ℕ) (i : ℕ) → 0 < r → get_or (record_of r l (i / r)) (i % r) 0 ≡ get_or l i 0
byte_of_record r l i h =
    get_or-take r (drop (i / r * r) l) (i % r) 0 (mod-lt i h) ∙ get_or-drop (i / r * r) l (i % r) 0 ∙ ap (λ (j : ℕ). get_or l j 0) (div-add-mod' i r)

same_records : (r N : ℕ) (l k : List ℕ) → length l ≡ N * r → length k ≡ N * r → ((y : ℕ) → y < N → record_of r l y ≡ record_of r k y) → l ≡ k
same_records zero N l k el ek h = ext_get_or 0 l k (el ∙ sym ek) (λ i b. absurd (omega arith))
same_records (suc r) N l k el ek h =
    ext_get_or 0 l k (el ∙ sym ek)
    (λ i b. let q : i < N * suc r = subst (λ (n : ℕ). i < n) el b in
    let p : 0 < suc r = omega arith in
    sym (byte_of_record (suc r) l i p) ∙ ap (λ (x : List ℕ). get_or x (i % suc r) 0) (h (i / suc r) ((div-lt_iff_lt-mul p).1 q)) ∙ byte_of_record (suc r) k i p)

one_order : (order : Order) → length order.rows ≡ ROWS → judgement order ≡ 0 → (before after after' : List ℕ)
    → length before ≡ area_bytes order.geometry → InTrayOrder order before after → InTrayOrder order before after' → after ≡ after'
one_order order room taken before after after' long a b =
    let g = order.geometry in
    same_records g.r (records g) after after' (a.as_long ∙ long) (b.as_long ∙ long)
    (λ y h. let c = comes order room taken y h in
    ap (record_of g.r after) (sym c.goes) ∙ a.at_target c.from c.below
    ∙ sym (b.at_target c.from c.below) ∙ ap (record_of g.r after') c.goes)

-- ---- an order that leaves every record where it is

module _ (order : Order) (room : length order.rows ≡ ROWS) (taken : judgement order ≡ 0) (still : StillOrder order) (blanks : Bool) where
  no_steps : NoSteps ours order (planned_for order blanks).plan
  no_steps = ours_still order room taken still blanks

  steps_leave : (v : Buffers) → all_steps order blanks v ≡ v
  steps_leave v =
      let plan = (planned_for order blanks).plan in
      ap (λ (q : ℕ). (ran plan (begun v) q).buffers) no_steps.no_step ∙ ap (λ (m : Moment). m.buffers) (run_none plan (begun v))

  set_leaves : (v : Buffers) → set_in_order order blanks v ≡ v
  unfolding set_in_order area_named
  set_leaves v =
      ap₂ (λ (k : ℕ) (w : Buffers). buffers_of (area_named k w) (taken_from k blanks w.area1) w.memory) no_steps.in_area_0 (steps_leave v)
      ∙ ap (λ (l : List ℕ). buffers_of v.area0 l v.memory) (taken_none blanks v.area1)

  delivery_leaves : (v : Buffers) → after_delivery order blanks v ≡ v
  unfolding after_delivery
  delivery_leaves v =
      let s = area_bytes order.geometry in
      let k = memory_bytes order.geometry in
      ap (λ (w : Buffers). buffers_of w.area0 (w.area1 ++ drop s v.area1) (w.memory ++ drop k v.memory)) (set_leaves (parts_of order.geometry v))
      ∙ ap₂ (buffers_of v.area0) (take-append-drop s v.area1) (take-append-drop k v.memory)

  bytes_leave : (v : Buffers) → bytes_by 0 order blanks v ≡ v
  unfolding bytes_by
  bytes_leave v =
      let g = order.geometry in
      ap (λ (w : Buffers). cond (room_for g v) (cond (eqb (length v.area0) (area_bytes g)) w v) v) (delivery_leaves v)
      ∙ either (room_for g v) (either (eqb (length v.area0) (area_bytes g)) refl)

untouched : (text : List ℕ) (order : Order) → Reads text 0 order 0 → StillOrder order → (blanks : Bool) (v : Buffers) (answer : Delivery) (w : Buffers)
    → DeliveryPromise text blanks v answer w → w ≡ v
untouched text order r still blanks v answer w p =
    let a = decided p in
    let e = ours_answers.read_one text a.number 0 a.order order a.z 0 a.read r in
    let t = read_taken r refl in
    a.bytes ∙ ap₂ (λ (k : ℕ) (o : Order). bytes_by k o blanks v) e.0 e.1 ∙ bytes_leave order t.room t.judged still blanks v

-- ---- any other order, where the spent area is to be blanked

-- what the run took of the spare area and of memory, after a delivery
Spent : Order → Buffers → Type 0
Spent order w = AllZero (take (area_bytes order.geometry) w.area1) × AllZero (take (memory_bytes order.geometry) w.memory)

-- a list is what is taken of it and more
front_zero : (n : ℕ) (l r : List ℕ) → length l ≡ n → AllZero l → AllZero (take n (l ++ r))
front_zero n l r e z = subst AllZero (sym (take_at l r n e)) z

blanked : (text : List ℕ) (order : Order) → Reads text 0 order 0 → (StillOrder order → ⊥) → (v : Buffers) (w : Buffers)
    → DeliveryPromise text true v Done w → Spent order w
unfolding Spent after_delivery
blanked text order r moves v w (done its read room long set) =
    let e = (ours_answers.read_one text 0 0 its order 0 0 read r).1 in
    let t = read_taken read refl in
    let g = its.geometry in
    let parts = parts_of g v in
    let area = leb (area_bytes g) (length v.area1) in
    let memory = leb (memory_bytes g) (length v.memory) in
    let fit = parts_fit (record { read = read; is_run = refl; is_memory = refl }) true v (leb-true (area_bytes g) (length v.area1) (and_l area memory room))
    (leb-true (memory_bytes g) (length v.memory) (and_r area memory room)) long in
    let moves-it = subst (λ (o : Order). StillOrder o → ⊥) (sym e) moves in
    let some : 0 < (planned_for its true).plan.count = omega (arith, ours_counts.exact its t.room t.judged moves-it true) in
    let fits = set_fits its t.room t.judged true parts fit in
    let left = set_in_order its true parts in
    let zero = set_blank its t.room t.judged true parts fit refl some in
    subst (λ (o : Order). Spent o (after_delivery its true v)) e (
      front_zero (area_bytes g) left.area1 (drop (area_bytes g) v.area1) fits.area1_long zero.0,
      front_zero (memory_bytes g) left.memory (drop (memory_bytes g) v.memory) fits.memory_long zero.1,
    )

pub delivery_outcome : Outcome
unfolding Spent
delivery_outcome =
    record { one = one; shows = shows; else_0 = else_0; agrees = agrees; one_order = one_order; untouched = untouched; blanked = blanked }
