-- What does a step do to the two areas and the memory? Assumes nothing.
use Rattle.std.specs.Prelude.{Bool, cond, ◌&&◌, List, ℕ, zero, suc, ◌+◌, ◌*◌, ◌%◌, eqb, length}
use Rattle.bank.specs.declared.Geometry.{Geometry}
use Rattle.bank.specs.Geometry.{records, memory_size, load_at, tier_at}
use Rattle.algebra.specs.Matrix.{source}
use Rattle.planning.specs.declared.Phase.{Phase}
use Rattle.planning.specs.declared.Phase.TheVariants.{Reads, Writes, Blanks}
use Rattle.planning.specs.Pass.{Pass, Route, pass_at}
use Rattle.moving.specs.Bytes.{copied, zeroed}
use Rattle.moving.specs.Number.{pass_of, load_of, phase_of, tier_of}

-- the lent bytes
pub record Buffers : Type 0 where
  pub area0 : List ℕ
  pub area1 : List ℕ
  pub memory : List ℕ

abbrev pub buffers_of : List ℕ → List ℕ → List ℕ → Buffers
buffers_of area0 area1 memory = record { area0 = area0; area1 = area1; memory = memory }

-- N-as-R, the bytes of an area, which are those of a run
abbrev pub area_bytes : Geometry → ℕ
area_bytes g = records g * g.r

-- M-as-R, the bytes of a memory
abbrev pub memory_bytes : Geometry → ℕ
memory_bytes g = memory_size g * g.r

-- the lengths of the two areas and of memory are right
abbrev pub lengths_fit : Geometry → ℕ → ℕ → ℕ → Bool
lengths_fit g area0 area1 memory = eqb area0 (area_bytes g) && eqb area1 (area_bytes g) && eqb memory (memory_bytes g)

-- the lent bytes are of the right lengths
unfoldable pub buffers_fit : Geometry → Buffers → Bool
buffers_fit g v = lengths_fit g (length v.area0) (length v.area1) (length v.memory)

-- area 0, or area 1
pub data Area : Type 0 where
  zeroth : Area
  first : Area

-- the one that an area isn't
abbrev pub other_area : Area → Area
other_area zeroth = first
other_area first = zeroth

-- pass p reads area p mod 2
abbrev pub area_read : ℕ → Area
area_read p = cond (eqb (p % 2) 0) zeroth first

-- pass p writes the area that it doesn't read
abbrev pub area_written : ℕ → Area
area_written p = other_area (area_read p)

-- the bytes of an area
abbrev pub bytes_of : Area → Buffers → List ℕ
bytes_of zeroth v = v.area0
bytes_of first v = v.area1

-- the buffers with other bytes in an area
abbrev pub with_bytes : Area → List ℕ → Buffers → Buffers
with_bytes zeroth l v = record { area0 = l; area1 = v.area1; memory = v.memory }
with_bytes first l v = record { area0 = v.area0; area1 = l; memory = v.memory }

-- the buffers with other bytes in memory
abbrev pub with_memory : List ℕ → Buffers → Buffers
with_memory l v = record { area0 = v.area0; area1 = v.area1; memory = l }

-- read t fills place q of memory: its tier is t
unfoldable pub read_takes : Geometry → ℕ → ℕ → Bool
read_takes g t q = eqb (tier_at g q) t

-- a read fills place q of memory from this record of the load
unfoldable pub read_from : Geometry → ℕ → ℕ → ℕ
read_from g load q = load * memory_size g + q

-- read t of a load in pass p: the places of memory in tier t get the load's records of the area read
unfoldable pub read_move : Geometry → ℕ → ℕ → ℕ → Buffers → Buffers
read_move g p load t v = with_memory (copied (read_takes g t) (read_from g load) g.r (bytes_of (area_read p) v) v.memory) v

-- where the record comes from that a pass sends to y
abbrev pub source_of : Geometry → Pass → ℕ → ℕ
source_of g pass y = source g.n pass.rows pass.complement y

-- write t of a load writes record y: its source lies in the load, and its tier, bits b+d..m-1, equals t
unfoldable pub write_takes : Geometry → Pass → ℕ → ℕ → ℕ → Bool
write_takes g pass load t y = eqb (load_at g (source_of g pass y)) load && eqb (tier_at g y) t

-- a write takes record y from this place of memory
unfoldable pub write_from : Geometry → Pass → ℕ → ℕ
write_from g pass y = source_of g pass y % memory_size g

-- write t of a load in pass p: the records that it writes, of the area written, come from memory, which stays
unfoldable pub write_move : Geometry → Pass → ℕ → ℕ → ℕ → Buffers → Buffers
write_move g pass p load t v =
    with_bytes (area_written p) (copied (write_takes g pass load t) (write_from g pass) g.r v.memory (bytes_of (area_written p) v)) v

-- blank t of a load zeroes record x of the area read: it lies in the load, and its tier is t
unfoldable pub blank_takes : Geometry → ℕ → ℕ → ℕ → Bool
blank_takes g load t x = eqb (load_at g x) load && eqb (tier_at g x) t

-- blank t of a load in pass p: stripe t of the load becomes zero in the area read, and so do the places of the same records in memory
unfoldable pub blank_move : Geometry → ℕ → ℕ → ℕ → Buffers → Buffers
blank_move g p load t v =
    with_memory (zeroed (read_takes g t) g.r v.memory)
    (with_bytes (area_read p) (zeroed (blank_takes g load t) g.r (bytes_of (area_read p) v)) v)

module _ {A : Type 0} where
  -- one thing for a read, another for a write, and a third for a blank
  abbrev pub by_phase : Phase → A → A → A → A
  by_phase Reads reads writes blanks = reads
  by_phase Writes reads writes blanks = writes
  by_phase Blanks reads writes blanks = blanks

-- the move of step s
unfoldable pub move : Route → ℕ → Buffers → Buffers
move route s v =
    by_phase (phase_of route s)
    (read_move route.geometry (pass_of route s) (load_of route s) (tier_of route s) v)
    (write_move route.geometry (pass_at route (pass_of route s)) (pass_of route s) (load_of route s) (tier_of route s) v)
    (blank_move route.geometry (pass_of route s) (load_of route s) (tier_of route s) v)

-- the k moves from number s on, each once, where f has the move of each number
unfoldable pub moves_from : (ℕ → Buffers → Buffers) → ℕ → ℕ → Buffers → Buffers
moves_from f s zero v = v
moves_from f s (suc k) v = f (s + k) (moves_from f s k v)
