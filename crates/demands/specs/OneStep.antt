-- What does one step do, on bytes? One block on each drive; every other byte of the three buffers stays. It is said of every plan
-- that can run, whoever made it. Assumes nothing.
use Rattle.std.specs.Prelude.{◌≡◌, false, List, ℕ, ◌-◌, ◌/◌, ◌%◌, ◌^◌, ◌<◌, length, get_or}
use Rattle.bank.specs.Geometry.{drives, block_at, drive_at, tier_at}
use Rattle.planning.specs.declared.Plan.{Plan}
use Rattle.planning.specs.declared.Phase.TheVariants.{Reads, Writes, Blanks}
use Rattle.planning.specs.Stored.{route_of}
use Rattle.moving.specs.Number.{pass_of, phase_of, tier_of}
use Rattle.moving.specs.Step.{Buffers, area_read, area_written, bytes_of}
use Rattle.moving.specs.Call.{Moment, refuses}
use Rattle.mover.specs.declared.step.Stepped.{Stepped}
use Rattle.mover.specs.Promise.{number_of}
use Rattle.demands.specs.Mover.{Mover}

-- byte i of an area lies in the block that is given for its drive
abbrev pub InBlocks : Plan → (ℕ → ℕ) → ℕ → Type 0
InBlocks plan block_on i = let g = plan.geometry in block_at g (i / g.r) ≡ block_on (drive_at g (i / g.r))

-- byte i of memory is of a place in the tier of step k
abbrev pub InTier : Plan → ℕ → ℕ → Type 0
InTier plan k i = let g = plan.geometry in tier_at g (i / g.r) ≡ tier_of (route_of plan) k

-- the bytes of the area that the pass of step k reads
abbrev pub read_bytes : Plan → ℕ → Buffers → List ℕ
read_bytes plan k v = bytes_of (area_read (pass_of (route_of plan) k)) v

-- the bytes of the area that the pass of step k writes
abbrev pub written_bytes : Plan → ℕ → Buffers → List ℕ
written_bytes plan k v = bytes_of (area_written (pass_of (route_of plan) k)) v

-- a call for step k of a plan that made its move: it was done, or done again
pub record MoveMade (M : Mover) (plan : Plan) (k : ℕ) (m : Moment) (w : Buffers) : Type 0 where
  pub answer : Stepped
  pub promised : M.step plan m k answer w
  pub taken : refuses (number_of answer) ≡ false

-- a read changes no byte of either area, and in memory only the places of its tier;
-- what it leaves there depends on the area that it reads only through its blocks, and on nothing else
pub record ReadStep (M : Mover) (plan : Plan) (k : ℕ) (block_on : ℕ → ℕ) : Type 0 where
  pub area0_stays : (m : Moment) (r : Stepped) (w : Buffers) → M.step plan m k r w → w.area0 ≡ m.buffers.area0
  pub area1_stays : (m : Moment) (r : Stepped) (w : Buffers) → M.step plan m k r w → w.area1 ≡ m.buffers.area1
  pub memory_long : (m : Moment) (r : Stepped) (w : Buffers) → M.step plan m k r w → length w.memory ≡ length m.buffers.memory
  pub places : (m : Moment) (r : Stepped) (w : Buffers) → M.step plan m k r w → (i : ℕ) → i < length m.buffers.memory
      → (InTier plan k i → ⊥) → get_or w.memory i 0 ≡ get_or m.buffers.memory i 0
  pub looks : (m m' : Moment) (w w' : Buffers) → MoveMade M plan k m w → MoveMade M plan k m' w'
      → ((j : ℕ) → InBlocks plan block_on j → get_or (read_bytes plan k m.buffers) j 0 ≡ get_or (read_bytes plan k m'.buffers) j 0)
      → (i : ℕ) → i < length m.buffers.memory → InTier plan k i → get_or w.memory i 0 ≡ get_or w'.memory i 0

-- a write changes no byte of memory nor of the area read, and in the other area only bytes of its blocks;
-- what it leaves there depends on memory alone, so the blocks are written whole
pub record WriteStep (M : Mover) (plan : Plan) (k : ℕ) (block_on : ℕ → ℕ) : Type 0 where
  pub memory_stays : (m : Moment) (r : Stepped) (w : Buffers) → M.step plan m k r w → w.memory ≡ m.buffers.memory
  pub read_stays : (m : Moment) (r : Stepped) (w : Buffers) → M.step plan m k r w → read_bytes plan k w ≡ read_bytes plan k m.buffers
  pub area_long : (m : Moment) (r : Stepped) (w : Buffers) → M.step plan m k r w
      → length (written_bytes plan k w) ≡ length (written_bytes plan k m.buffers)
  pub others_stay : (m : Moment) (r : Stepped) (w : Buffers) → M.step plan m k r w → (i : ℕ) → i < length (written_bytes plan k m.buffers)
      → (InBlocks plan block_on i → ⊥) → get_or (written_bytes plan k w) i 0 ≡ get_or (written_bytes plan k m.buffers) i 0
  pub fills : (m m' : Moment) (w w' : Buffers) → MoveMade M plan k m w → MoveMade M plan k m' w' → m.buffers.memory ≡ m'.buffers.memory
      → (i : ℕ) → i < length (written_bytes plan k m.buffers) → InBlocks plan block_on i
      → get_or (written_bytes plan k w) i 0 ≡ get_or (written_bytes plan k w') i 0

-- a blank changes no byte of the area written, in the area read only bytes of its blocks, and in memory only the places of its tier;
-- what it leaves there is zero
pub record BlankStep (M : Mover) (plan : Plan) (k : ℕ) (block_on : ℕ → ℕ) : Type 0 where
  pub written_stays : (m : Moment) (r : Stepped) (w : Buffers) → M.step plan m k r w → written_bytes plan k w ≡ written_bytes plan k m.buffers
  pub area_long : (m : Moment) (r : Stepped) (w : Buffers) → M.step plan m k r w
      → length (read_bytes plan k w) ≡ length (read_bytes plan k m.buffers)
  pub memory_long : (m : Moment) (r : Stepped) (w : Buffers) → M.step plan m k r w → length w.memory ≡ length m.buffers.memory
  pub others_stay : (m : Moment) (r : Stepped) (w : Buffers) → M.step plan m k r w → (i : ℕ) → i < length (read_bytes plan k m.buffers)
      → (InBlocks plan block_on i → ⊥) → get_or (read_bytes plan k w) i 0 ≡ get_or (read_bytes plan k m.buffers) i 0
  pub places : (m : Moment) (r : Stepped) (w : Buffers) → M.step plan m k r w → (i : ℕ) → i < length m.buffers.memory
      → (InTier plan k i → ⊥) → get_or w.memory i 0 ≡ get_or m.buffers.memory i 0
  pub blank : (m : Moment) (w : Buffers) → MoveMade M plan k m w → (i : ℕ) → i < length (read_bytes plan k m.buffers)
      → InBlocks plan block_on i → get_or (read_bytes plan k w) i 0 ≡ 0
  pub clear : (m : Moment) (w : Buffers) → MoveMade M plan k m w → (i : ℕ) → i < length m.buffers.memory
      → InTier plan k i → get_or w.memory i 0 ≡ 0

-- the numbers of the blocks of an area
abbrev pub BlockOf : Plan → ℕ → Type 0
BlockOf plan y = let g = plan.geometry in y < 2 ^ (g.n - g.b)

-- how many drives the plan's bank has
abbrev pub drives_of : Plan → ℕ
drives_of plan = drives plan.geometry

-- on each drive there is one block of the area, and the step is a read, a write or a blank of those
pub record OneStep (M : Mover) (plan : Plan) (k : ℕ) : Type 0 where
  pub block_on : ℕ → ℕ
  pub in_area : (q : ℕ) → q < drives_of plan → BlockOf plan (block_on q)
  pub on_drive : (q : ℕ) → q < drives_of plan → block_on q % drives_of plan ≡ q
  pub reading : phase_of (route_of plan) k ≡ Reads → ReadStep M plan k block_on
  pub writing : phase_of (route_of plan) k ≡ Writes → WriteStep M plan k block_on
  pub blanking : phase_of (route_of plan) k ≡ Blanks → BlankStep M plan k block_on
