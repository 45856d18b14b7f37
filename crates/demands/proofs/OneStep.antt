-- Why does a step of ours move one block on each drive, and nothing else? Assumes nothing.
use mathlib.Core.Path.{◌≡◌, ◌∙◌, ap, refl, subst, sym}
use mathlib.Core.List.{List}
use Prim.Native.Nat.{ℕ, ◌/◌, ◌<◌}
use borrow.Author.Tests.{eq-eqb, ne_eqb}
use lib.ListN.{get_or, length}
use Rattle.bank.specs.declared.Geometry.{Geometry}
use Rattle.bank.specs.Geometry.{block_at, drive_at, tier_at}
use Rattle.planning.specs.declared.Phase.TheVariants.{Reads, Writes, Blanks}
use Rattle.planning.specs.declared.Plan.{Plan}
use Rattle.planning.specs.Pass.{Route, total}
use Rattle.planning.specs.Inner.{Runs}
use Rattle.planning.specs.Stored.{route_of}
use Rattle.planning.proofs.Running.{sound→runs, runs_allowed}
use Rattle.moving.specs.Blocks.{step_block}
use Rattle.moving.specs.Call.{Moment, refuses}
use Rattle.moving.specs.Number.{pass_of, phase_of, tier_of}
use Rattle.moving.specs.Step.Area.{zeroth, first}
use Rattle.moving.specs.Step.{Buffers, bytes_of, area_read, area_written, move, Area}
use Rattle.moving.proofs.Calls.{by_stepped, taken_moves}
use Rattle.moving.proofs.Drives.{step_block_in}
use Rattle.moving.proofs.Fits.{area_long, move_fits, Fits}
use Rattle.moving.proofs.Moved.{blank_byte, blank_place, blank_written, given, read_areas, read_byte, taken, taken_in, write_byte, write_memory, write_reads}
use Rattle.mover.specs.declared.step.Stepped.{Stepped}
use Rattle.mover.specs.Promise.{StepPromise}
use Rattle.mover.proofs.Asked.{total_is}
use Rattle.demands.specs.Delivers.{Runnable}
use Rattle.demands.specs.OneStep.{BlankStep, InBlocks, InTier, MoveMade, OneStep, ReadStep, WriteStep}
use Rattle.demands.specs.Ours.{ours}
use Rattle.demands.proofs.Promised.{step_number_lem}

-- ---- a call for a step

module _ (plan : Plan) (k : ℕ) (m : Moment) (w : Buffers) where
  abbrev moved : Buffers
  moved = move (route_of plan) k m.buffers

  -- it leaves the bytes that were there, or those of the move; then the buffers fit
  left : (r : Stepped) → StepPromise plan m k r w → (P : Buffers → Type 0) → P m.buffers → (Fits plan.geometry m.buffers → P moved) → P w
  left r q P stays goes =
      subst P (sym q.bytes) (by_stepped plan m k (λ n. P n.buffers) stays (λ y h e. goes y.fitting) (λ y h e. goes y.fitting))

  -- where it isn't refused, those of the move
  made : MoveMade ours plan k m w → Fits plan.geometry m.buffers × (w ≡ moved)
  made d =
      let t = taken_moves plan m k (ap refuses (sym (step_number_lem plan m k d.answer w d.promised)) ∙ d.taken) in
      (t.0.fitting, d.promised.bytes ∙ t.1)

-- ---- a step of a plan that can run

module _ (plan : Plan) (runs : Runs (route_of plan)) (k : ℕ) (h : k < total (route_of plan)) where
  abbrev bank : Geometry
  bank = plan.geometry

  abbrev route : Route
  route = route_of plan

  -- a move leaves an area as long as it was
  as_long : (m : Moment) → Fits bank m.buffers → (a : Area) → length (bytes_of a (move route k m.buffers)) ≡ length (bytes_of a m.buffers)
  as_long m f a = area_long bank (move route k m.buffers) (move_fits bank route k m.buffers f) a ∙ sym (area_long bank m.buffers f a)

  module _ (e : phase_of route k ≡ Reads) where
    -- a byte of the step's tier comes from the area read
    read_takes_lem : (m : Moment) (w : Buffers) → MoveMade ours plan k m w → (i : ℕ) → i < length m.buffers.memory → InTier plan k i
        → get_or w.memory i 0 ≡ get_or (bytes_of (area_read (pass_of route k)) m.buffers) (taken route k i) 0
    unfolding route_of
    read_takes_lem m w d i l t =
        ap (λ (u : Buffers). get_or u.memory i 0) (made plan k m w d).1
        ∙ read_byte route k m.buffers e i l ∙ rw (eq-eqb (tier_at bank (i / bank.r)) (tier_of route k) t)

    a_read : ReadStep ours plan k (step_block route k)
    unfolding route_of
    a_read =
        record {
          area0_stays = λ m r w q. left plan k m w r q (λ u. u.area0 ≡ m.buffers.area0) refl (λ f. read_areas route k m.buffers e zeroth);
          area1_stays = λ m r w q. left plan k m w r q (λ u. u.area1 ≡ m.buffers.area1) refl (λ f. read_areas route k m.buffers e first);
          memory_long = λ m r w q.
              left plan k m w r q (λ u. length u.memory ≡ length m.buffers.memory) refl
              (λ f. (move_fits bank route k m.buffers f).memory_long ∙ sym f.memory_long);
          places = λ m r w q i l n.
              left plan k m w r q (λ u. get_or u.memory i 0 ≡ get_or m.buffers.memory i 0) refl
              (λ f. read_byte route k m.buffers e i l ∙ rw (ne_eqb (tier_at bank (i / bank.r)) (tier_of route k) n));
          looks = λ m m' w w' d d' same i l t.
              let f = (made plan k m w d).0 in
              let f' = (made plan k m' w' d').0 in
              read_takes_lem m w d i l t
              ∙ same (taken route k i) (taken_in route k (runs_allowed route runs) e i (subst (λ (n : ℕ). i < n) f.memory_long l) t)
              ∙ sym (read_takes_lem m' w' d' i (subst (λ (n : ℕ). i < n) (f.memory_long ∙ sym f'.memory_long) l) t);
        }

  module _ (e : phase_of route k ≡ Writes) where
    -- the area written
    abbrev other : Area
    other = area_written (pass_of route k)

    -- a byte of the step's blocks comes from memory
    write_takes_lem : (m : Moment) (w : Buffers) → MoveMade ours plan k m w → (i : ℕ) → i < length (bytes_of other m.buffers)
        → InBlocks plan (step_block route k) i → get_or (bytes_of other w) i 0 ≡ get_or m.buffers.memory (given route k i) 0
    unfolding route_of
    write_takes_lem m w d i l t =
        ap (λ (u : Buffers). get_or (bytes_of other u) i 0) (made plan k m w d).1
        ∙ write_byte route k runs h m.buffers (made plan k m w d).0 e i l
        ∙ rw (eq-eqb (block_at bank (i / bank.r)) (step_block route k (drive_at bank (i / bank.r))) t)

    a_write : WriteStep ours plan k (step_block route k)
    unfolding route_of
    a_write =
        record {
          memory_stays = λ m r w q. left plan k m w r q (λ u. u.memory ≡ m.buffers.memory) refl (λ f. write_memory route k m.buffers e);
          read_stays = λ m r w q.
              left plan k m w r q (λ u. bytes_of (area_read (pass_of route k)) u ≡ bytes_of (area_read (pass_of route k)) m.buffers) refl
              (λ f. write_reads route k m.buffers e);
          area_long = λ m r w q. left plan k m w r q (λ u. length (bytes_of other u) ≡ length (bytes_of other m.buffers)) refl (λ f. as_long m f other);
          others_stay = λ m r w q i l n.
              left plan k m w r q (λ u. get_or (bytes_of other u) i 0 ≡ get_or (bytes_of other m.buffers) i 0) refl
              (λ f. write_byte route k runs h m.buffers f e i l
              ∙ rw (ne_eqb (block_at bank (i / bank.r)) (step_block route k (drive_at bank (i / bank.r))) n));
          fills = λ m m' w w' d d' same i l t.
              let f = (made plan k m w d).0 in
              let f' = (made plan k m' w' d').0 in
              write_takes_lem m w d i l t
              ∙ ap (λ (o : List ℕ). get_or o (given route k i) 0) same
              ∙ sym (write_takes_lem m' w' d' i (subst (λ (n : ℕ). i < n) (area_long bank m.buffers f other ∙ sym (area_long bank m'.buffers f' other)) l) t);
        }

  module _ (e : phase_of route k ≡ Blanks) where
    -- the area read
    abbrev spent : Area
    spent = area_read (pass_of route k)

    a_blank : BlankStep ours plan k (step_block route k)
    unfolding route_of
    a_blank =
        record {
          written_stays = λ m r w q.
              left plan k m w r q (λ u. bytes_of (area_written (pass_of route k)) u ≡ bytes_of (area_written (pass_of route k)) m.buffers) refl
              (λ f. blank_written route k m.buffers e);
          area_long = λ m r w q. left plan k m w r q (λ u. length (bytes_of spent u) ≡ length (bytes_of spent m.buffers)) refl (λ f. as_long m f spent);
          memory_long = λ m r w q.
              left plan k m w r q (λ u. length u.memory ≡ length m.buffers.memory) refl
              (λ f. (move_fits bank route k m.buffers f).memory_long ∙ sym f.memory_long);
          others_stay = λ m r w q i l n.
              left plan k m w r q (λ u. get_or (bytes_of spent u) i 0 ≡ get_or (bytes_of spent m.buffers) i 0) refl
              (λ f. blank_byte route k (runs_allowed route runs) m.buffers e i l
              ∙ rw (ne_eqb (block_at bank (i / bank.r)) (step_block route k (drive_at bank (i / bank.r))) n));
          places = λ m r w q i l n.
              left plan k m w r q (λ u. get_or u.memory i 0 ≡ get_or m.buffers.memory i 0) refl
              (λ f. blank_place route k m.buffers e i l ∙ rw (ne_eqb (tier_at bank (i / bank.r)) (tier_of route k) n));
          blank = λ m w d i l t.
              ap (λ (u : Buffers). get_or (bytes_of spent u) i 0) (made plan k m w d).1
              ∙ blank_byte route k (runs_allowed route runs) m.buffers e i l
              ∙ rw (eq-eqb (block_at bank (i / bank.r)) (step_block route k (drive_at bank (i / bank.r))) t);
          clear = λ m w d i l t.
              ap (λ (u : Buffers). get_or u.memory i 0) (made plan k m w d).1
              ∙ blank_place route k m.buffers e i l ∙ rw (eq-eqb (tier_at bank (i / bank.r)) (tier_of route k) t);
        }

-- ONE STEP. Of any plan that can run, whoever made it
pub one_step : (plan : Plan) → Runnable plan → (k : ℕ) → k < ours.total plan → OneStep ours plan k
unfolding route_of
one_step plan can k l =
    record {
      block_on = step_block (route_of plan) k;
      in_area = λ q b. (step_block_in (route_of plan) k runs h q b).0;
      on_drive = λ q b. (step_block_in (route_of plan) k runs h q b).1;
      reading = a_read plan runs k h;
      writing = a_write plan runs k h;
      blanking = a_blank plan runs k h;
    }
  where
    runs : Runs (route_of plan)
    runs = sound→runs plan can.room can.runnable

    h : k < total (route_of plan)
    h = subst (λ (n : ℕ). k < n) (total_is plan can.runnable) l
