-- Why is what the code of a read and of a blank leaves what their definitions say? Assumes nothing.
use mathlib.Core.Path.{◌≡◌, sym, ap, ap₂, ◌∙◌}
use mathlib.Core.List.{List}
use Prim.Native.Nat.{ℕ, ◌+◌, ◌-◌, ◌*◌, ◌^◌, ◌≤◌, ◌<◌}
use native.Mathlib.Nat.{add-mul, mul_assoc, mul_comm, mul-le-mul_left, mul-pos}
use native.Mathlib.Omega.{arith}
use lib.Pow.{pow_mono, pow_pos}
use lib.ListN.{length}
use Rattle.bank.specs.Geometry.{block, drives, loads, memory_size, records, tiers}
use Rattle.bank.specs.declared.Geometry.{Geometry}
use Rattle.moving.proofs.Bridge.{blank_area, blank_memory, read_laid, stripe_bytes}
use Rattle.algebra.proofs.Digits.{pow_split, share}
use Rattle.moving.proofs.Numbers.{memory_is, records_is}
use Rattle.moving.specs.Bytes.{copied, zeroed}
use Rattle.moving.specs.Step.{blank_takes, read_from, read_takes}
use Rattle.tables.proofs.Sizes.{memory_fit, records_fit, start_lt}
use Rattle.copying.proofs.Parts.{laid-cleared}
use Rattle.stripes.specs.Stripe.{ReadReady, stripe_of}
use Rattle.stripes.specs.declared.stripe.Stripe.{Stripe}
use Rattle.moving.specs.Laid.{cleared, laid}
use Rattle.bank.proofs.Limits.{Allowed, limits→allowed}

-- ---- the numbers of a stripe

module _ {g : Geometry} (ok : Allowed g) where
  pub size_fits : block g * g.r < 2 ^ 64
  size_fits =
      let below : block g ≤ memory_size g = pow_mono (omega (arith, ok.block_below)) in
      omega (arith, mul-le-mul_left (block g) ok.r_high, memory_fit ok, records_fit ok)

  pub first_fits : (load tier : ℕ) → load < loads g → tier < tiers g → load * 2 ^ (g.m - g.b) + tier * drives g < 2 ^ 64
  first_fits load tier hl ht =
      let part : load * 2 ^ (g.m - g.b) ≤ load * memory_size g = mul-le-mul_left load (pow_mono (omega arith)) in
      let lead : tier * drives g * 1 ≤ tier * drives g * block g = mul-le-mul_left (tier * drives g) (pow_pos g.b) in
      omega (arith, share load (loads g) (memory_size g) hl, records_is g ok, start_lt ok tier ht, records_fit ok)

-- ---- a read, and a blank

module _ {g : Geometry} {load tier : ℕ} {area mem : List ℕ} (k : ReadReady g load tier area mem) where
  ok : Allowed g
  ok = limits→allowed g k.inside

  abbrev s : Stripe
  s = stripe_of g load tier

  -- a block has bytes
  pub size_pos : 0 < s.size
  size_pos = mul-pos (pow_pos g.b) ok.r_low

  -- the load's first record is one of the area
  pub load_lt : load * memory_size g < records g
  load_lt = omega (arith, share load (loads g) (memory_size g) k.load_in, records_is g ok, pow_pos g.m)

  stripe_size : s.drives * s.size ≡ stripe_bytes g
  stripe_size =
      sym (mul_assoc (drives g) (block g) g.r) ∙ mul_comm (drives g * block g) g.r
      ∙ ap (λ (i : ℕ). g.r * i) (mul_comm (drives g) (block g))

  -- where the stripe starts in memory, and in the area
  place_at : s.place.0 * s.size ≡ tier * stripe_bytes g
  place_at = mul_assoc tier (drives g) s.size ∙ ap (λ (i : ℕ). tier * i) stripe_size

  load_size : load * 2 ^ (g.m - g.b) * s.size ≡ load * memory_size g * g.r
  load_size =
      let split : memory_size g ≡ 2 ^ (g.m - g.b) * block g = pow_split g.b g.m (omega (arith, ok.block_below)) in
      sym (mul_assoc (load * 2 ^ (g.m - g.b)) (block g) g.r)
      ∙ ap (λ (i : ℕ). i * g.r) (mul_assoc load (2 ^ (g.m - g.b)) (block g) ∙ ap (λ (i : ℕ). load * i) (sym split))

  first_at : s.first.0 * s.size ≡ load * memory_size g * g.r + tier * stripe_bytes g
  first_at = add-mul (load * 2 ^ (g.m - g.b)) (tier * drives g) s.size ∙ ap₂ (λ (i j : ℕ). i + j) load_size place_at

  memory_bytes_lem : memory_size g * g.r ≡ tiers g * stripe_bytes g
  memory_bytes_lem =
      ap (λ (i : ℕ). i * g.r) (memory_is g ok) ∙ mul_assoc (tiers g) (block g * drives g) g.r
      ∙ ap (λ (i : ℕ). tiers g * i) (mul_comm (block g * drives g) g.r)

  pub read_memory : s.place.0 * s.size + s.drives * s.size ≤ length mem
  read_memory = omega (arith, place_at, stripe_size, k.memory_long, memory_bytes_lem, share tier (tiers g) (stripe_bytes g) k.tier_in)

  pub read_area : s.first.0 * s.size + s.drives * s.size ≤ length area
  read_area =
      let sizes = ap (λ (i : ℕ). i * g.r) (records_is g ok) ∙ mul_assoc (loads g) (memory_size g) g.r in
      let room = share load (loads g) (memory_size g * g.r) k.load_in in
      omega (arith, read_memory, place_at, first_at, k.memory_long, k.area_long, sizes, mul_assoc load (memory_size g) g.r, room)

  pub read_is : laid mem (s.place.0 * s.size) (s.drives * s.size) area (s.first.0 * s.size)
      ≡ copied (read_takes g tier) (read_from g load) g.r area mem
  read_is =
      ap₂ (λ (a n : ℕ). laid mem a n area (s.first.0 * s.size)) place_at stripe_size
      ∙ ap (laid mem (tier * stripe_bytes g) (stripe_bytes g) area) first_at
      ∙ sym (read_laid g ok tier mem k.memory_long load area)

  -- a blank's part of memory, and of the area, which takes it from there
  pub memory_blanked : cleared mem (s.place.0 * s.size) (s.drives * s.size) ≡ zeroed (read_takes g tier) g.r mem
  memory_blanked = ap₂ (cleared mem) place_at stripe_size ∙ sym (blank_memory g ok tier mem k.memory_long)

  pub area_blanked : laid area (s.first.0 * s.size) (s.drives * s.size) (cleared mem (s.place.0 * s.size) (s.drives * s.size)) (s.place.0 * s.size)
      ≡ zeroed (blank_takes g load tier) g.r area
  area_blanked =
      laid-cleared area mem (s.first.0 * s.size) (s.drives * s.size) (s.place.0 * s.size) read_memory
      ∙ ap₂ (cleared area) first_at stripe_size ∙ sym (blank_area g ok tier load k.tier_in area)
