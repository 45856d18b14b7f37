-- Which byte does a step put where, and which bytes stay? Assumes nothing.
use mathlib.Core.Path.{◌∙◌, ◌≡◌, ap, refl, subst, sym}
use mathlib.Core.Bool.{Bool, cond}
use mathlib.Core.List.{List}
use Prim.Native.Nat.{◌%◌, ◌*◌, ◌+◌, ◌/◌, ◌<◌, ℕ}
use native.Mathlib.Nat.{div-lt_iff_lt-mul, mod-lt}
use lib.Arith.{digits_div}
use lib.Dec.{eqb}
use lib.ListN.{get_or, length}
use Rattle.bank.specs.Geometry.{block_at, drive_at, memory_size, records, tier_at}
use Rattle.bank.specs.declared.Geometry.{Geometry}
use Rattle.moving.proofs.Again.{area_memory, area_other, area_same, memory_area, other_area_lem}
use Rattle.moving.proofs.Bytes.{get_or-copied, get_or-zeroed}
use Rattle.moving.proofs.Drives.{step_blank, step_read, step_write}
use Rattle.moving.proofs.Fits.{area_long, Fits}
use Rattle.moving.proofs.Pass.{move_at}
use Rattle.moving.specs.Blocks.{step_block}
use Rattle.moving.specs.Bytes.{copied, zeroed}
use Rattle.moving.specs.Number.{load_of, pass_of, phase_of, tier_of}
use Rattle.moving.specs.Step.{Area, Buffers, area_read, area_written, blank_move, blank_takes, bytes_of, move, read_from, read_move, read_takes}
use Rattle.moving.specs.Step.{with_bytes, with_memory, write_from, write_move, write_takes}
use Rattle.planning.specs.Pass.{Pass, Route, pass_at, total}
use Rattle.planning.specs.declared.Phase.TheVariants.{Reads, Writes, Blanks}
use Rattle.planning.specs.Inner.{Runs}
use Rattle.bank.proofs.Limits.{Allowed}
use Rattle.planning.proofs.Running.{runs_allowed}

module _ (route : Route) (k : ℕ) where
  abbrev g : Geometry
  g = route.geometry

  abbrev p : ℕ
  p = pass_of route k

  abbrev its : Pass
  its = pass_at route p

  -- ---- a read

  -- the byte of the area read that step k takes for byte i of memory
  abbrev pub taken : ℕ → ℕ
  taken i = read_from route.geometry (load_of route k) (i / route.geometry.r) * route.geometry.r + i % route.geometry.r

  module _ (v : Buffers) (e : phase_of route k ≡ Reads) where
    abbrev filled : List ℕ
    filled = copied (read_takes g (tier_of route k)) (read_from g (load_of route k)) g.r (bytes_of (area_read p) v) v.memory

    is_read : move route k v ≡ with_memory filled v
    unfolding read_move
    is_read = move_at route k v Reads p (load_of route k) (tier_of route k) e refl refl refl

    -- the areas stay
    pub read_areas : (a : Area) → bytes_of a (move route k v) ≡ bytes_of a v
    read_areas a = ap (bytes_of a) is_read ∙ memory_area a filled v

    -- a place of its tier gets a byte of the area read, and every other one stays
    pub read_byte : (i : ℕ) → i < length v.memory → get_or (move route k v).memory i 0
        ≡ cond (eqb (tier_at g (i / g.r)) (tier_of route k)) (get_or (bytes_of (area_read p) v) (taken i) 0) (get_or v.memory i 0)
    unfolding read_takes
    read_byte i l =
        ap (λ (w : Buffers). get_or w.memory i 0) is_read
        ∙ get_or-copied (read_takes g (tier_of route k)) (read_from g (load_of route k)) g.r (bytes_of (area_read p) v) v.memory i l

  -- ---- a write

  -- the byte of memory that it takes for byte i of the area written
  abbrev pub given : ℕ → ℕ
  given i = write_from route.geometry (pass_at route (pass_of route k)) (i / route.geometry.r) * route.geometry.r + i % route.geometry.r

  module _ (v : Buffers) (e : phase_of route k ≡ Writes) where
    abbrev written : Area → List ℕ
    written a = copied (write_takes g its (load_of route k) (tier_of route k)) (write_from g its) g.r v.memory (bytes_of a v)

    is_write : move route k v ≡ with_bytes (area_written p) (written (area_written p)) v
    unfolding write_move
    is_write = move_at route k v Writes p (load_of route k) (tier_of route k) e refl refl refl

    -- memory stays, and the area read
    pub write_memory : (move route k v).memory ≡ v.memory
    write_memory = ap (λ (w : Buffers). w.memory) is_write ∙ area_memory (area_written p) (written (area_written p)) v

    pub write_reads : bytes_of (area_read p) (move route k v) ≡ bytes_of (area_read p) v
    write_reads = ap (bytes_of (area_read p)) is_write ∙ area_other (area_read p) (written (area_written p)) v

    written_area : bytes_of (area_written p) (move route k v) ≡ written (area_written p)
    written_area = ap (bytes_of (area_written p)) is_write ∙ area_same (area_written p) (written (area_written p)) v

  -- ---- a blank

  module _ (v : Buffers) (e : phase_of route k ≡ Blanks) where
    abbrev blanked : Area → List ℕ
    blanked a = zeroed (blank_takes g (load_of route k) (tier_of route k)) g.r (bytes_of a v)

    abbrev emptied : List ℕ
    emptied = zeroed (read_takes g (tier_of route k)) g.r v.memory

    is_blank : move route k v ≡ with_memory emptied (with_bytes (area_read p) (blanked (area_read p)) v)
    unfolding blank_move
    is_blank = move_at route k v Blanks p (load_of route k) (tier_of route k) e refl refl refl

    -- the area written stays
    pub blank_written : bytes_of (area_written p) (move route k v) ≡ bytes_of (area_written p) v
    blank_written =
        ap (bytes_of (area_written p)) is_blank ∙ memory_area (area_written p) emptied (with_bytes (area_read p) (blanked (area_read p)) v)
        ∙ other_area_lem (area_read p) (blanked (area_read p)) v

    blanked_area : bytes_of (area_read p) (move route k v) ≡ blanked (area_read p)
    blanked_area =
        ap (bytes_of (area_read p)) is_blank ∙ memory_area (area_read p) emptied (with_bytes (area_read p) (blanked (area_read p)) v)
        ∙ area_same (area_read p) (blanked (area_read p)) v

    -- a place of its tier becomes zero, and every other one stays
    pub blank_place : (i : ℕ) → i < length v.memory
        → get_or (move route k v).memory i 0 ≡ cond (eqb (tier_at g (i / g.r)) (tier_of route k)) 0 (get_or v.memory i 0)
    unfolding read_takes
    blank_place i l =
        ap (λ (w : Buffers). get_or w.memory i 0) is_blank ∙ get_or-zeroed (read_takes g (tier_of route k)) g.r v.memory i l

  -- ---- by the blocks of the step

  -- what a read takes for a place of its tier lies there
  pub taken_in : Allowed g → phase_of route k ≡ Reads → (i : ℕ) → i < memory_size g * g.r → tier_at g (i / g.r) ≡ tier_of route k
      → block_at g (taken i / g.r) ≡ step_block route k (drive_at g (taken i / g.r))
  unfolding read_from
  taken_in ok e i l t =
      subst (λ (z : ℕ). block_at g z ≡ step_block route k (drive_at g z))
      (sym (digits_div (load_of route k * memory_size g + i / g.r) (mod-lt i ok.r_low)))
      (step_read route k ok e (i / g.r) ((div-lt_iff_lt-mul ok.r_low).1 l) t)

  -- a write puts bytes of memory there, and every other byte of the area stays
  pub write_byte : Runs route → k < total route → (v : Buffers) → Fits g v → phase_of route k ≡ Writes → (i : ℕ) → i < length (bytes_of (area_written p) v)
      → get_or (bytes_of (area_written p) (move route k v)) i 0
      ≡ cond (eqb (block_at g (i / g.r)) (step_block route k (drive_at g (i / g.r)))) (get_or v.memory (given i) 0) (get_or (bytes_of (area_written p) v) i 0)
  write_byte runs h v fitting e i l =
      ap (λ (o : List ℕ). get_or o i 0) (written_area v e)
      ∙ get_or-copied (write_takes g its (load_of route k) (tier_of route k)) (write_from g its) g.r v.memory (bytes_of (area_written p) v) i l
      ∙ ap (λ (t : Bool). cond t (get_or v.memory (given i) 0) (get_or (bytes_of (area_written p) v) i 0)) (step_write route k runs h e (i / g.r) in_area)
    where
      in_area : i / g.r < records g
      in_area = (div-lt_iff_lt-mul (runs_allowed route runs).r_low).1 (subst (λ (n : ℕ). i < n) (area_long g v fitting (area_written p)) l)

  -- a blank puts zeros there in the area read, and every other byte of that area stays
  pub blank_byte : Allowed g → (v : Buffers) → phase_of route k ≡ Blanks → (i : ℕ) → i < length (bytes_of (area_read p) v)
      → get_or (bytes_of (area_read p) (move route k v)) i 0
      ≡ cond (eqb (block_at g (i / g.r)) (step_block route k (drive_at g (i / g.r)))) 0 (get_or (bytes_of (area_read p) v) i 0)
  blank_byte ok v e i l =
      ap (λ (o : List ℕ). get_or o i 0) (blanked_area v e)
      ∙ get_or-zeroed (blank_takes g (load_of route k) (tier_of route k)) g.r (bytes_of (area_read p) v) i l
      ∙ ap (λ (t : Bool). cond t 0 (get_or (bytes_of (area_read p) v) i 0)) (step_blank route k ok e (i / g.r))
