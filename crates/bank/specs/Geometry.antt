-- What is a bank of drives, and where in it does an address lie? Assumes nothing.
use Rattle.std.specs.Prelude.{Bool, ◌&&◌, ℕ, ◌+◌, ◌-◌, ◌*◌, ◌/◌, ◌%◌, ◌^◌, ltb, leb}
use Rattle.bank.specs.Limits.{ROWS, BYTES}
use Rattle.bank.specs.declared.Geometry.{Geometry}

-- 2 ≤ n ≤ ROWS, b < m < n, b + d ≤ m, 1 ≤ R ≤ BYTES
unfoldable pub in_limits : Geometry → Bool
in_limits g =
    leb 2 g.n && leb g.n ROWS && ltb g.b g.m && ltb g.m g.n && leb (g.b + g.d) g.m && leb 1 g.r
    && leb g.r BYTES

-- N, the records of a run
abbrev pub records : Geometry → ℕ
records g = 2 ^ g.n

-- B, the records of a block
abbrev pub block : Geometry → ℕ
block g = 2 ^ g.b

-- D, the drives
abbrev pub drives : Geometry → ℕ
drives g = 2 ^ g.d

-- M, the records that memory holds
abbrev pub memory_size : Geometry → ℕ
memory_size g = 2 ^ g.m

-- N/M, the memoryloads of an area
abbrev pub loads : Geometry → ℕ
loads g = 2 ^ (g.n - g.m)

-- N/(BD), the stripes of an area
abbrev pub stripes : Geometry → ℕ
stripes g = records g / (block g * drives g)

-- M/(BD), the stripes of a memoryload, which are its tiers: so many reads, and so many writes, has each load
unfoldable pub tiers : Geometry → ℕ
tiers g = memory_size g / (block g * drives g)

-- ---- an address. Its offset in a block is bits 0..b-1

-- the drive of address x: bits b..b+d-1
unfoldable pub drive_at : Geometry → ℕ → ℕ
drive_at g x = x / block g % drives g

-- the stripe of address x: bits b+d..n-1
abbrev pub stripe_at : Geometry → ℕ → ℕ
stripe_at g x = x / (block g * drives g)

-- the block of address x, which is its drive's part of its stripe: bits b..n-1
unfoldable pub block_at : Geometry → ℕ → ℕ
block_at g x = x / block g

-- the memoryload of address x: bits m..n-1
unfoldable pub load_at : Geometry → ℕ → ℕ
load_at g x = x / memory_size g

-- the tier of address x, which is its stripe counted within its memoryload: bits b+d..m-1
unfoldable pub tier_at : Geometry → ℕ → ℕ
tier_at g x = stripe_at g (x % memory_size g)
