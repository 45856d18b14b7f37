-- Which places does code go through, one after the other? Assumes nothing.
-- What proofs and inner contracts go by; the rules need none of it.
use Rattle.std.specs.Prelude.{Bool, true, List, ℕ, ◌/◌, ◌%◌, eqb}
use Rattle.algebra.specs.Carry.{place_by}

-- every record is moved
abbrev pub every : ℕ → Bool
every k = true

-- record x of an area lies in block y, where a block is of count records
abbrev pub in_block : ℕ → ℕ → ℕ → Bool
in_block count y x = eqb (x / count) y

-- the place for record x, as the record of its block that it is
abbrev pub block_place : ℕ → ℕ → List ℕ → ℕ → ℕ
block_place count base columns x = place_by base columns (x % count)

-- record x lies in the block Y q of its drive q; block y lies on drive y % D
abbrev pub on_drives : ℕ → ℕ → (ℕ → ℕ) → ℕ → Bool
on_drives count D Y x = eqb (x / count) (Y (x / count % D))

-- the place for record x: P q is that of the first record of drive q's block
abbrev pub drive_place : ℕ → ℕ → (ℕ → ℕ) → List ℕ → ℕ → ℕ
drive_place count D P columns x = place_by (P (x / count % D)) columns (x % count)
