-- What is a step's move, where the pass reads area 0, and where it reads area 1? Assumes nothing.
use mathlib.Core.Path.{◌≡◌, refl}
use mathlib.Core.List.{List}
use Prim.Native.Nat.{ℕ}
use Rattle.moving.specs.Bytes.{copied, zeroed}
use Rattle.moving.specs.Step.Area.{zeroth, first}
use Rattle.moving.specs.Step.{Area, Buffers, area_read, blank_move, blank_takes, by_phase, bytes_of, other_area, read_from, read_move, read_takes}
use Rattle.moving.specs.Step.{with_bytes, with_memory, write_from, write_move, write_takes}
use Rattle.planning.specs.declared.Phase.{Phase}
use Rattle.planning.specs.declared.Phase.TheVariants.{Reads, Writes, Blanks}
use Rattle.tables.proofs.Paces.{load_in_pass, tier_in_load}
use Rattle.blocks.specs.Moving.{BetweenReady, MoveReady, from_after, memory_after, move_by, to_after}
use Rattle.tables.specs.Tables.{pass_for}
use Rattle.tables.specs.Pace.{standing_at}
use Rattle.tables.specs.declared.tables.Tables.{Tables}
use Rattle.tables.specs.declared.pace.Standing.{Standing}
use Rattle.moving.proofs.Fits.{area_long, buffers_fit→Fits}
use Rattle.bank.proofs.Limits.{limits→allowed}

-- what the step that stands there makes of memory as a read, of the area written as a write, of the area read as a blank
abbrev read_of : Tables → Standing → List ℕ → List ℕ → List ℕ
read_of t at from mem = copied (read_takes t.geometry at.tier) (read_from t.geometry at.load) t.geometry.r from mem

abbrev written_of : Tables → Standing → List ℕ → List ℕ → List ℕ
written_of t at mem to =
    copied (write_takes t.geometry (pass_for t) at.load at.tier) (write_from t.geometry (pass_for t)) t.geometry.r mem to

abbrev blanked_of : Tables → Standing → List ℕ → List ℕ
blanked_of t at from = zeroed (blank_takes t.geometry at.load at.tier) t.geometry.r from

-- and of memory as a blank
abbrev emptied_of : Tables → Standing → List ℕ → List ℕ
emptied_of t at mem = zeroed (read_takes t.geometry at.tier) t.geometry.r mem

-- ---- the side that is read is b, the side written the other

-- the buffers with other bytes in all three
abbrev pub sides : Area → List ℕ → List ℕ → List ℕ → Buffers → Buffers
sides b from to mem v = with_memory mem (with_bytes (other_area b) to (with_bytes b from v))

module _ (v : Buffers) where
  -- all three, where a read, a write or a blank leaves some as they were
  read_side : (b : Area) (m : List ℕ) → sides b (bytes_of b v) (bytes_of (other_area b) v) m v ≡ with_memory m v
  read_side zeroth m = refl
  read_side first m = refl

  write_side : (b : Area) (l : List ℕ) → sides b (bytes_of b v) l v.memory v ≡ with_bytes (other_area b) l v
  write_side zeroth l = refl
  write_side first l = refl

  blank_side : (b : Area) (l m : List ℕ) → sides b l (bytes_of (other_area b) v) m v ≡ with_memory m (with_bytes b l v)
  blank_side zeroth l m = refl
  blank_side first l m = refl

  -- the two areas and memory, phase by phase
  all : (b : Area) (R W A M : List ℕ) {from' to' m' : List ℕ} (k : Phase)
      → from' ≡ by_phase k (bytes_of b v) (bytes_of b v) A → to' ≡ by_phase k (bytes_of (other_area b) v) W (bytes_of (other_area b) v)
      → m' ≡ by_phase k R v.memory M
      → sides b from' to' m' v ≡ by_phase k (with_memory R v) (with_bytes (other_area b) W v) (with_memory M (with_bytes b A v))
  all b R W A M Reads d e f = rw (d, e, f) (read_side b R)
  all b R W A M Writes d e f = rw (d, e, f) (write_side b W)
  all b R W A M Blanks d e f = rw (d, e, f) (blank_side b A M)

module _ (t : Tables) (s : ℕ) (v : Buffers) (b : Area) {at : Standing} (stands : at ≡ standing_at t.pace s) where
  pub side_move : area_read t.pass ≡ b → {from' to' m' : List ℕ} → from' ≡ from_after t at (bytes_of b v)
      → to' ≡ to_after t at (bytes_of (other_area b) v) v.memory → m' ≡ memory_after t at (bytes_of b v) v.memory
      → sides b from' to' m' v ≡ move_by t s v
  unfolding move_by read_move write_move blank_move
  side_move p {from'} {to'} {m'} d e f =
      let z = standing_at t.pace s in
      rw p (all v b (read_of t z (bytes_of b v) v.memory) (written_of t z v.memory (bytes_of (other_area b) v)) (blanked_of t z (bytes_of b v))
      (emptied_of t z v.memory) z.phase (rw stands at d) (rw stands at e) (rw stands at f))

  -- what it asks
  pub side_ready : MoveReady t v → BetweenReady t at (bytes_of b v) (bytes_of (other_area b) v) v.memory
  side_ready k =
      let ok = limits→allowed t.geometry k.prepared.ready.inside in
      let f = buffers_fit→Fits t.geometry v k.fitting in record {
        prepared = k.prepared;
        load_in = rw stands (load_in_pass k.prepared.paced ok s);
        tier_in = rw stands (tier_in_load k.prepared.paced ok s);
        from_long = area_long t.geometry v f b;
        to_long = area_long t.geometry v f (other_area b);
        memory_long = f.memory_long;
      }
