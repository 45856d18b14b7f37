-- Why does a step move one block on a drive? Assumes nothing.
use mathlib.Core.Path.{◌∙◌, ◌≡◌, ap, ap₂, refl, subst, sym}
use Prim.Native.Nat.{◌%◌, ◌*◌, ◌+◌, ◌-◌, ◌/◌, ◌<◌, ◌^◌, ℕ}
use native.Mathlib.Nat.{add_assoc, add-mul, div-add-mod', div-div-eq-div-mul, div-lt_iff_lt-mul, mod-eq_of_lt, mod-lt, mul_assoc, mul-div_cancel}
use native.Mathlib.Nat.{mul-lt-mul_of_pos_right, mul_right_comm}
use native.Mathlib.Omega.{arith}
use lib.Arith.{digits_lt, digits_mod}
use lib.Bits.{bit_xor, xor_shifted}
use lib.Dec.{eqb}
use lib.Pow.{high, low, mod-mod-pow, pow-add, pow_pos}
use lib.ListN.{length, take}
use Rattle.algebra.proofs.Digits.{bits_below, bits_from, bits_mid, pow_split}
use Rattle.algebra.specs.Matrix.{columns, inverse}
use Rattle.algebra.specs.Vector.{comb}
use Rattle.bank.specs.Geometry.{block, block_at, drive_at, drives, load_at, loads, memory_size, records, tier_at, tiers}
use Rattle.bank.specs.declared.Geometry.{Geometry}
use Rattle.moving.proofs.All.{target_in}
use Rattle.moving.proofs.Low.{block_low, land_block, landed_from, lands, place_block, place_of, whole_block}
use Rattle.moving.proofs.Numbers.{both_test, load_of_lt, memory_is, pass_of_lt, same_digits, tier_lt, tier_of_lt, tiers-pow}
use Rattle.moving.specs.Blocks.{block_start, landing, load_block, place_in, step_block, target_block}
use Rattle.moving.specs.Number.{load_of, pass_of, phase_of, tier_of}
use Rattle.moving.specs.Step.{blank_takes, by_phase, source_of, write_from, write_takes}
use Rattle.planning.specs.declared.Phase.{Phase}
use Rattle.planning.specs.declared.Phase.TheVariants.{Reads, Writes, Blanks}
use Rattle.planning.specs.Pass.{Pass, Route, pass_at, total}
use Rattle.planning.specs.Inner.{PassRuns, Runs}
use Rattle.bank.proofs.Limits.{Allowed}
use Rattle.planning.proofs.Running.{runs_allowed}

-- ---- an address of a geometry

module _ (g : Geometry) (ok : Allowed g) where
  -- the low m bits: tier, drive, offset
  low_split : (y : ℕ) → y % memory_size g / block g ≡ tier_at g y * drives g + drive_at g y
  unfolding tier_at drive_at
  low_split y =
      sym (div-add-mod' (y % memory_size g / block g) (drives g))
      ∙ ap₂ (λ (a c : ℕ). a * drives g + c) (div-div-eq-div-mul (y % memory_size g) (block g) (drives g))
      (ap (λ (k : ℕ). k % drives g) (bits_mid g.b g.m (omega arith) y)
      ∙ ap (λ (k : ℕ). y / block g % 2 ^ k % drives g) (omega arith)
      ∙ mod-mod-pow (y / block g) (g.m - (g.b + g.d)) g.d)

  drive_lt : (y : ℕ) → drive_at g y < drives g
  unfolding drive_at
  drive_lt y = mod-lt (y / block g) (pow_pos g.d)

  -- a memoryload is its tiers, each a block on every drive
  memory_blocks : memory_size g ≡ tiers g * drives g * block g
  memory_blocks = memory_is g ok ∙ sym (mul_assoc (tiers g) (block g) (drives g)) ∙ mul_right_comm (tiers g) (block g) (drives g)

  pub first_lt : (t q : ℕ) → t < tiers g → q < drives g → block_start g t q < memory_size g
  first_lt t q ht hq = subst (λ (k : ℕ). block_start g t q < k) (sym memory_blocks) (mul-lt-mul_of_pos_right (digits_lt ht hq) (pow_pos g.b))

  first_block : (t q : ℕ) → block_start g t q / block g ≡ t * drives g + q
  first_block t q = mul-div_cancel (t * drives g + q) (pow_pos g.b)

  same_tier : (y t q : ℕ) → q < drives g → y % memory_size g / block g ≡ t * drives g + q → (tier_at g y ≡ t) × (drive_at g y ≡ q)
  same_tier y t q hq e = same_digits (tier_at g y) t (drive_lt y) hq (sym (low_split y) ∙ e)

  -- an address's block, from its load, its tier and its drive: so a read's block on drive q is block load·M/B + t·D + q
  read_block_lem : (x : ℕ) → block_at g x ≡ load_at g x * 2 ^ (g.m - g.b) + (tier_at g x * drives g + drive_at g x)
  unfolding block_at load_at
  read_block_lem x = bits_from g.b g.m (omega arith) x ∙ ap (λ (k : ℕ). x / memory_size g * 2 ^ (g.m - g.b) + k) (low_split x)

  -- the blocks of a load
  blocks_of : tiers g * drives g ≡ 2 ^ (g.m - g.b)
  blocks_of =
      ap (λ (k : ℕ). k * drives g) (tiers-pow g ok) ∙ sym (pow-add 2 (g.m - (g.b + g.d)) g.d) ∙ ap (λ (k : ℕ). 2 ^ k) (omega arith)

  -- a block of a load, counted there
  in_load_lem : (t q : ℕ) → t < tiers g → q < drives g → t * drives g + q < 2 ^ (g.m - g.b)
  in_load_lem t q ht hq = subst (λ (k : ℕ). t * drives g + q < k) blocks_of (digits_lt ht hq)

  module _ (l t q : ℕ) (hl : l < loads g) (ht : t < tiers g) (hq : q < drives g) where
    abbrev read_block : ℕ
    read_block = load_block g l t q

    read_block_in : (read_block < 2 ^ (g.n - g.b)) × (read_block % drives g ≡ q)
    read_block_in = (
      subst (λ (k : ℕ). read_block < k) (sym (pow-add 2 (g.n - g.m) (g.m - g.b)) ∙ ap (λ (k : ℕ). 2 ^ k) (omega arith))
          (digits_lt hl (in_load_lem t q ht hq)),
      ap (λ (k : ℕ). k % drives g)
          (ap (λ (k : ℕ). l * k + (t * drives g + q)) (sym blocks_of) ∙ sym (add_assoc (l * (tiers g * drives g)) (t * drives g) q)
          ∙ ap (λ (k : ℕ). k + q)
          (ap (λ (k : ℕ). k + t * drives g) (sym (mul_assoc l (tiers g) (drives g))) ∙ sym (add-mul (l * tiers g) t (drives g))))
          ∙ digits_mod (l * tiers g + t) hq,
    )

  -- ---- a blank: record x is of the load and of the tier exactly where its block is the one that a read takes on its drive

  blank_test : (l t x : ℕ) → t < tiers g → eqb (block_at g x) (load_block g l t (drive_at g x)) ≡ blank_takes g l t x
  unfolding blank_takes
  blank_test l t x ht =
      let q = drive_at g x in
      both_test (load_at g x) l (tier_at g x) t (block_at g x) (load_block g l t q)
      (λ el et. read_block_lem x ∙ ap₂ (λ (i k : ℕ). load_block g i k q) el et)
      (λ e. let its = in_load_lem (tier_at g x) q (tier_lt g ok x) (drive_lt x) in
      let w = same_digits (load_at g x) l its (in_load_lem t q ht (drive_lt x)) (sym (read_block_lem x) ∙ e) in
      (w.0, (same_digits (tier_at g x) t (drive_lt x) (drive_lt x) w.1).0))

  -- ---- a write

  module _ (pass : Pass) (runs : PassRuns g pass) (load t : ℕ) (hl : load < loads g) (ht : t < tiers g) where
    abbrev start : ℕ → ℕ
    start q = block_start g t q

    -- a record that is written on drive q lies in the one block
    written→block : (y q : ℕ) → y < records g → q < drives g → load_at g (source_of g pass y) ≡ load → tier_at g y ≡ t → drive_at g y ≡ q
        → block_at g y ≡ target_block g pass load t q
    unfolding block_at load_at target_block landing place_in
    written→block y q hy hq el et eq =
        ap (λ (k : ℕ). k / block g) (sym (lands ok runs load y hy el))
        ∙ land_block ok runs load (y % memory_size g) (start q) (mod-lt y (pow_pos g.m)) (first_lt t q ht hq)
        (low_split y ∙ ap₂ (λ (a c : ℕ). a * drives g + c) et eq ∙ sym (first_block t q))

    -- and each record of that block is written, on that drive
    block→written : (y q : ℕ) → q < drives g → block_at g y ≡ target_block g pass load t q
        → (load_at g (source_of g pass y) ≡ load) × (tier_at g y ≡ t) × (drive_at g y ≡ q)
    unfolding block_at load_at target_block landing place_in
    block→written y q hq e =
        let h = first_lt t q ht hq in
        let s = same_tier y t q hq (block_low ok runs load (start q) y h e ∙ first_block t q) in (
          ap (λ (k : ℕ). source_of g pass k / memory_size g) (sym (whole_block ok runs load (start q) y h e))
              ∙ landed_from ok runs load (y % memory_size g) hl (mod-lt y (pow_pos g.m)),
          s.0,
          s.1,
        )

    pub target-block_in : (q : ℕ) → q < drives g → (target_block g pass load t q < 2 ^ (g.n - g.b)) × (target_block g pass load t q % drives g ≡ q)
    unfolding target_block block_at landing drive_at
    target-block_in q hq = (
      (div-lt_iff_lt-mul (pow_pos g.b)).1
          (subst (λ (k : ℕ). landing g pass load (start q) < k) (pow_split g.b g.n (omega arith))
          (target_in g pass runs (load * memory_size g + place_in g pass load (start q)))),
      (block→written (landing g pass load (start q)) q hq refl).2,
    )

    -- the same as tests, for code that writes block by block
    module _ (y : ℕ) (hy : y < records g) where
      pub block_test : eqb (block_at g y) (target_block g pass load t (drive_at g y)) ≡ write_takes g pass load t y
      unfolding write_takes
      block_test =
          both_test (load_at g (source_of g pass y)) load (tier_at g y) t (block_at g y) (target_block g pass load t (drive_at g y))
          (λ el et. written→block y (drive_at g y) hy (drive_lt y) el et refl)
          (λ e. let w = block→written y (drive_at g y) (drive_lt y) e in (w.0, w.1))

      -- and where record k of the block comes from, by the place of its first record and the first b columns of the inverse of the low rows
      pub block_place_lem : load_at g (source_of g pass y) ≡ load → tier_at g y ≡ t
          → bit_xor (place_in g pass load (start (drive_at g y))) (comb (columns g.b (inverse g.m (take g.m pass.rows))) (y % block g))
          ≡ write_from g pass y
      unfolding load_at place_in write_from
      block_place_lem el et =
          let k = y % block g in
          let hk = mod-lt y (pow_pos g.b) in
          let q = drive_at g y in
          sym (place_block ok runs load (start q) k (first_lt t q ht (drive_lt y)) hk)
          ∙ ap (place_in g pass load) (xor_shifted (t * drives g + q) g.b k hk ∙ whole) ∙ place_of ok runs load y hy el
        where
          whole : start (drive_at g y) + y % block g ≡ y % memory_size g
          whole =
              ap₂ (λ (a c : ℕ). a * block g + c) (ap (λ (k : ℕ). k * drives g + drive_at g y) (sym et) ∙ sym (low_split y))
              (sym (bits_below g.b g.m (omega arith) y))
              ∙ div-add-mod' (y % memory_size g) (block g)

-- ---- a step

module _ (route : Route) (s : ℕ) where
  abbrev geo : Geometry
  geo = route.geometry

  abbrev its_pass : Pass
  its_pass = pass_at route (pass_of route s)

  -- the step's block on drive q, by its phase
  abbrev block_by : Phase → ℕ → ℕ
  block_by f q =
      let its = load_block geo (load_of route s) (tier_of route s) q in
      by_phase f its (target_block geo its_pass (load_of route s) (tier_of route s) q) its

  -- ONE BLOCK ON A DRIVE. What a read takes for place q of its tier lies in the step's block on its drive
  pub step_read : Allowed geo → phase_of route s ≡ Reads → (q : ℕ) → q < memory_size geo → tier_at geo q ≡ tier_of route s
      → block_at geo (load_of route s * memory_size geo + q) ≡ step_block route s (drive_at geo (load_of route s * memory_size geo + q))
  unfolding load_at tier_at step_block
  step_read ok e q hq t =
      read_block_lem geo ok x
      ∙ ap₂ (λ (l u : ℕ). l * 2 ^ (geo.m - geo.b) + (u * drives geo + drive_at geo x)) (high (load_of route s) geo.m hq)
      (ap (λ (w : ℕ). w / (block geo * drives geo)) (low (load_of route s) geo.m hq ∙ sym (mod-eq_of_lt hq)) ∙ t)
      ∙ sym (ap (λ (f : Phase). block_by f (drive_at geo x)) e)
    where
      x : ℕ
      x = load_of route s * memory_size geo + q

  -- a blank zeroes record x exactly when x lies in the step's block on x's drive
  pub step_blank : Allowed geo → phase_of route s ≡ Blanks → (x : ℕ)
      → blank_takes geo (load_of route s) (tier_of route s) x ≡ eqb (block_at geo x) (step_block route s (drive_at geo x))
  unfolding step_block
  step_blank ok e x =
      sym (blank_test geo ok (load_of route s) (tier_of route s) x (tier_of_lt route ok s))
      ∙ sym (ap (λ (f : Phase). eqb (block_at geo x) (block_by f (drive_at geo x))) e)

  module _ (runs : Runs route) (hs : s < total route) where
    pass_runs : PassRuns geo its_pass
    unfolding total
    pass_runs = runs.each_runs (pass_of route s) (pass_of_lt route (runs_allowed route runs) s (length route.passes) hs)

    hl : load_of route s < loads geo
    hl = load_of_lt route (runs_allowed route runs) s

    ht : tier_of route s < tiers geo
    ht = tier_of_lt route (runs_allowed route runs) s

    -- and a write writes record y exactly when y lies in the step's block on y's drive
    pub step_write : phase_of route s ≡ Writes → (y : ℕ) → y < records geo
        → write_takes geo its_pass (load_of route s) (tier_of route s) y ≡ eqb (block_at geo y) (step_block route s (drive_at geo y))
    unfolding step_block
    step_write e y hy =
        sym (block_test geo (runs_allowed route runs) its_pass pass_runs (load_of route s) (tier_of route s) hl ht y hy)
        ∙ sym (ap (λ (f : Phase). eqb (block_at geo y) (block_by f (drive_at geo y))) e)

    -- the step's block on drive q is a block of the area, on that drive
    pub step_block_in : (q : ℕ) → q < drives geo → (step_block route s q < 2 ^ (geo.n - geo.b)) × (step_block route s q % drives geo ≡ q)
    unfolding step_block
    step_block_in q hq = go (phase_of route s)
      where
        go : (f : Phase) → (block_by f q < 2 ^ (geo.n - geo.b)) × (block_by f q % drives geo ≡ q)
        go Reads = read_block_in geo (runs_allowed route runs) (load_of route s) (tier_of route s) q hl ht hq
        go Writes = target-block_in geo (runs_allowed route runs) its_pass pass_runs (load_of route s) (tier_of route s) hl ht q hq
        go Blanks = read_block_in geo (runs_allowed route runs) (load_of route s) (tier_of route s) q hl ht hq
