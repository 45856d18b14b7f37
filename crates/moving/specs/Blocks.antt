-- Where do a load's records land, in a form that code computes? What proofs and inner contracts go by; the rules need none of it.
-- Assumes nothing.
use Rattle.std.specs.Prelude.{ℕ, ◌+◌, ◌-◌, ◌*◌, ◌%◌, ◌^◌, take}
use Rattle.bank.specs.declared.Geometry.{Geometry}
use Rattle.bank.specs.Geometry.{block, drives, memory_size, block_at}
use Rattle.algebra.specs.Matrix.{target, source}
use Rattle.planning.specs.Pass.{Pass, Route, pass_at}
use Rattle.moving.specs.Number.{pass_of, load_of, phase_of, tier_of}
use Rattle.moving.specs.Step.{by_phase}

-- the memory place of the record of this load whose target has the low m bits w: one solution of rows 0..m-1 on the columns below m
unfoldable pub place_in : Geometry → Pass → ℕ → ℕ → ℕ
place_in g pass load w = source g.m (take g.m pass.rows) (target pass.rows pass.complement (load * memory_size g) % memory_size g) w

-- the target of the record of this load whose target has the low m bits w
unfoldable pub landing : Geometry → Pass → ℕ → ℕ → ℕ
landing g pass load w = target pass.rows pass.complement (load * memory_size g + place_in g pass load w)

-- the low m bits of the first record of a block in tier t on drive q
abbrev pub block_start : Geometry → ℕ → ℕ → ℕ
block_start g t q = (t * drives g + q) * block g

-- the block that write t of a load writes on drive q
unfoldable pub target_block : Geometry → Pass → ℕ → ℕ → ℕ → ℕ
target_block g pass load t q = block_at g (landing g pass load (block_start g t q))

-- block t·D + q of a load
abbrev pub load_block : Geometry → ℕ → ℕ → ℕ → ℕ
load_block g load t q = load * 2 ^ (g.m - g.b) + (t * drives g + q)

-- the block that step s moves on drive q: read, written, or blanked
unfoldable pub step_block : Route → ℕ → ℕ → ℕ
step_block route s q =
    let its = load_block route.geometry (load_of route s) (tier_of route s) q in
    by_phase (phase_of route s) its (target_block route.geometry (pass_at route (pass_of route s)) (load_of route s) (tier_of route s) q) its
