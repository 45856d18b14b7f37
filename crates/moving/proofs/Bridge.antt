-- How does code make the moves, run by run and block by block? Assumes nothing.
use mathlib.Core.Path.{◌∙◌, ◌≡◌, ap, ap₂, refl, subst, sym}
use mathlib.Core.Bool.{Bool, cond, false, true}
use mathlib.Core.List.{List, map}
use Prim.Native.Nat.{◌%◌, ◌*◌, ◌+◌, ◌-◌, ◌/◌, ◌<◌, ◌^◌, ◌≤◌, suc, ℕ}
use native.Mathlib.Nat.{add-mul, add-zero, div-add-mod', div-div-eq-div-mul, div-lt_iff_lt-mul, le-div_iff_mul-le, lt_of_lt_of_le}
use native.Mathlib.Nat.{mod-eq_of_lt, mod-lt, mul_assoc, mul_comm, mul_left_comm, mul-pos, suc-mul}
use native.Mathlib.Omega.{arith}
use borrow.Author.Tests.{eq-eqb, eqb-true, ne_eqb}
use lib.Arith.{digits_div}
use lib.Bits.{bit_xor, xor_block, xor_lt, xor_shifted}
use lib.Dec.{eqb}
use lib.Pow.{pow-add, pow_mono, pow_pos}
use lib.ListN.{get_or, length, take}
use Rattle.algebra.proofs.Digits.{bits_from, pow_split, share}
use Rattle.algebra.proofs.Search.{and_l, and_r}
use Rattle.algebra.specs.Matrix.{applied, columns, inverse, target}
use Rattle.algebra.specs.Vector.{comb, unit_vectors}
use Rattle.bank.specs.Geometry.{block, block_at, drive_at, drives, load_at, loads, memory_size, records, stripe_at, tier_at, tiers}
use Rattle.bank.specs.declared.Geometry.{Geometry}
use Rattle.moving.proofs.Bytes.{each_ext}
use Rattle.moving.proofs.Drives.{block_place_lem, block_test, first_lt, target-block_in}
use Rattle.moving.proofs.Laid.{by_run, within-after, within_ap, within_before, within_in}
use Rattle.moving.proofs.Low.{block_drive, on_load, place_block, place_drive, place_form, place_lt}
use Rattle.moving.proofs.Numbers.{both_test, memory_is, same_digits, stripe_pos, tier_lt, tiers-pow}
use Rattle.moving.specs.Blocks.{block_start, landing, place_in, target_block}
use Rattle.moving.specs.Bytes.{copied, zeroed}
use Rattle.moving.specs.Laid.{cleared, laid, landed, within}
use Rattle.moving.specs.Step.{blank_takes, read_from, read_takes, source_of, write_from, write_takes}
use Rattle.planning.specs.Pass.{Pass}
use Rattle.planning.specs.Inner.{PassRuns}
use Rattle.bank.proofs.Limits.{Allowed}

-- ---- a read, and a blank, is one run of bytes

-- run s of S bytes, as a test of the index
run_test : (S s i v x : ℕ) → 0 < S → cond (eqb (i / S) s) v x ≡ within (s * S) S i v x
run_test S s i v x pos =
    by_run (s * S) S i
    (λ h. let low = (div-lt_iff_lt-mul pos).1 h in rw (within_before, ne_eqb (i / S) s (λ e. omega (arith, low))))
    (λ h l. rw (within_in, eq-eqb (i / S) s (ap (λ (k : ℕ). k / S) (omega arith) ∙ digits_div s {m = S} {r = i - s * S} (omega arith))))
    (λ h. let past = (le-div_iff_mul-le {k = S} {x = suc s} {y = i} pos).1 (omega (arith, suc-mul s S)) in
    rw (within-after, ne_eqb (i / S) s (λ e. omega (arith, past))))

-- the bytes of a stripe
abbrev pub stripe_bytes : Geometry → ℕ
stripe_bytes g = g.r * (block g * drives g)

module _ (g : Geometry) (ok : Allowed g) where
  bytes_pos : 0 < stripe_bytes g
  bytes_pos = mul-pos ok.r_low (stripe_pos g ok)

  -- where a load lies in the area
  abbrev load_start : ℕ → ℕ
  load_start load = load * memory_size g * g.r

  -- the stripe of address x, from its load and its tier
  stripe_split : (x : ℕ) → stripe_at g x ≡ load_at g x * tiers g + tier_at g x
  unfolding load_at tier_at
  stripe_split x =
      ap (λ (k : ℕ). x / k) (sym (pow-add 2 g.b g.d)) ∙ bits_from (g.b + g.d) g.m ok.drives_fit x
      ∙ ap₂ (λ (k i : ℕ). x / memory_size g * k + x % memory_size g / i) (sym (tiers-pow g ok)) (pow-add 2 g.b g.d)

  module _ (t : ℕ) where
    -- where tier t lies in memory, and in its load
    abbrev start : ℕ
    start = t * stripe_bytes g

    module _ (mem : List ℕ) (long : length mem ≡ memory_size g * g.r) where
      -- byte i of memory is of tier t where it lies in the run
      tier_byte : (i : ℕ) → i < length mem → (v x : ℕ) → cond (read_takes g t (i / g.r)) v x ≡ within start (stripe_bytes g) i v x
      unfolding read_takes tier_at
      tier_byte i b v x =
          ap (λ (k : ℕ). cond (eqb k t) v x)
          (ap (stripe_at g) (mod-eq_of_lt ((div-lt_iff_lt-mul ok.r_low).1 (subst (λ (n : ℕ). i < n) long b)))
          ∙ div-div-eq-div-mul i g.r (block g * drives g))
          ∙ run_test (stripe_bytes g) t i v x bytes_pos

      -- a read, as code that copies the bytes of a stripe makes it
      pub read_laid : (load : ℕ) (area : List ℕ)
          → copied (read_takes g t) (read_from g load) g.r area mem ≡ laid mem start (stripe_bytes g) area (load_start load + start)
      unfolding copied laid read_from
      read_laid load area =
          each_ext (λ i x. cond (read_takes g t (i / g.r)) (get_or area (read_from g load (i / g.r) * g.r + i % g.r) 0) x)
          (λ i x. within start (stripe_bytes g) i (get_or area (load_start load + start + (i - start)) 0) x) mem
          (λ i b. tier_byte i b (get_or area ((load * memory_size g + i / g.r) * g.r + i % g.r) 0) (get_or mem i 0)
          ∙ within_ap start (stripe_bytes g) (stripe_bytes g) i _ _ (get_or mem i 0) refl
          (λ h l. ap (λ (k : ℕ). get_or area k 0) (omega (arith, add-mul (load * memory_size g) (i / g.r) g.r, div-add-mod' i g.r))))

      -- a blank's part of memory, as code that clears the bytes of a stripe makes it
      pub blank_memory : zeroed (read_takes g t) g.r mem ≡ cleared mem start (stripe_bytes g)
      unfolding zeroed cleared
      blank_memory =
          each_ext (λ i x. cond (read_takes g t (i / g.r)) 0 x) (λ i x. within start (stripe_bytes g) i 0 x) mem (λ i b. tier_byte i b 0 (get_or mem i 0))

    module _ (load : ℕ) (ht : t < tiers g) where
      -- the stripe that a blank zeroes begins at the same byte, counted in stripes
      in_stripes : (load * tiers g + t) * stripe_bytes g ≡ load_start load + start
      in_stripes =
          add-mul (load * tiers g) t (stripe_bytes g)
          ∙ ap (λ (k : ℕ). k + start)
          (mul_assoc load (tiers g) (stripe_bytes g)
          ∙ ap (λ (k : ℕ). load * k) (mul_left_comm (tiers g) g.r (block g * drives g) ∙ mul_comm g.r (tiers g * (block g * drives g)))
          ∙ sym (mul_assoc load (tiers g * (block g * drives g)) g.r) ∙ ap (λ (k : ℕ). load * k * g.r) (sym (memory_is g ok)))

      -- byte i of the area is of that stripe where it lies in the run
      stripe_byte : (i v x : ℕ) → cond (blank_takes g load t (i / g.r)) v x ≡ within (load_start load + start) (stripe_bytes g) i v x
      unfolding blank_takes
      stripe_byte i v x =
          let y = i / g.r in
          ap (λ (s : Bool). cond s v x)
          (sym (both_test (load_at g y) load (tier_at g y) t (load_at g y * tiers g + tier_at g y) (load * tiers g + t)
          (ap₂ (λ (l u : ℕ). l * tiers g + u)) (same_digits (load_at g y) load (tier_lt g ok y) ht))
          ∙ ap (λ (k : ℕ). eqb k (load * tiers g + t)) (sym (stripe_split y) ∙ div-div-eq-div-mul i g.r (block g * drives g)))
          ∙ run_test (stripe_bytes g) (load * tiers g + t) i v x bytes_pos
          ∙ ap (λ (a : ℕ). within a (stripe_bytes g) i v x) in_stripes

      -- a blank's part of the area, as code that clears the bytes of a stripe makes it
      pub blank_area : (area : List ℕ) → zeroed (blank_takes g load t) g.r area ≡ cleared area (load_start load + start) (stripe_bytes g)
      unfolding zeroed cleared
      blank_area area =
          each_ext (λ i x. cond (blank_takes g load t (i / g.r)) 0 x) (λ i x. within (load_start load + start) (stripe_bytes g) i 0 x) area
          (λ i b. stripe_byte i 0 (get_or area i 0))

-- ---- the columns of the inverse of a pass's low rows, in parts that are made once a pass

abbrev low_inverse : Geometry → Pass → List ℕ
low_inverse g pass = inverse g.m (take g.m pass.rows)

-- columns 0..b-1
abbrev record_columns : Geometry → Pass → List ℕ
record_columns g pass = columns g.b (low_inverse g pass)

-- columns b..b+d-1
abbrev place_columns : Geometry → Pass → List ℕ
place_columns g pass = map (applied (low_inverse g pass)) (unit_vectors g.d g.b)

-- and what the pass makes of them, in blocks
abbrev block_columns : Geometry → Pass → List ℕ
block_columns g pass = map (λ v. applied pass.rows v / block g) (place_columns g pass)

-- ---- the parameters of a write, drive by drive: affine in the drive

first_drive : (g : Geometry) (t q : ℕ) → q < drives g → block_start g t q ≡ bit_xor (block_start g t 0) (q * block g)
first_drive g t q h =
    ap (λ (k : ℕ). k * block g) (sym (xor_shifted t g.d q h))
    ∙ sym (add-zero (bit_xor (t * drives g) q * block g)) ∙ sym (xor_block g.b (t * drives g) q 0 0 (pow_pos g.b) (pow_pos g.b))
    ∙ ap₂ bit_xor (add-zero (t * drives g * block g) ∙ ap (λ (k : ℕ). k * block g) (sym (add-zero (t * drives g)))) (add-zero (q * block g))

module _ (g : Geometry) (ok : Allowed g) (pass : Pass) (runs : PassRuns g pass) (load t : ℕ) (ht : t < tiers g) where
  -- the place in memory of the first record that goes to drive 0
  abbrev base : ℕ
  base = place_in g pass load (block_start g t 0)

  first_in : block_start g t 0 < memory_size g
  first_in = first_lt g ok t 0 ht (pow_pos g.d)

  place_by_drive : (q : ℕ) → q < drives g → place_in g pass load (block_start g t q) ≡ bit_xor base (comb (place_columns g pass) q)
  unfolding place_in
  place_by_drive q h = ap (place_in g pass load) (first_drive g t q h) ∙ place_drive ok runs load (block_start g t 0) q first_in h

  block_by_drive : (q : ℕ) → q < drives g → target_block g pass load t q ≡ bit_xor (target_block g pass load t 0) (comb (block_columns g pass) q)
  unfolding target_block block_at landing place_in
  block_by_drive q h =
      ap (λ (w : ℕ). block_at g (landing g pass load w)) (first_drive g t q h) ∙ block_drive ok runs load (block_start g t 0) q first_in h

  -- where the load's first record goes: the two bases come from it and one inverse
  abbrev first_goes : ℕ
  first_goes = target pass.rows pass.complement (load * memory_size g)

  pub place_base : base ≡ comb (columns g.m (low_inverse g pass)) (bit_xor (block_start g t 0) (first_goes % memory_size g))
  unfolding place_in
  place_base = place_form ok runs load (block_start g t 0) first_in

  pub block_base : target_block g pass load t 0 ≡ bit_xor (applied pass.rows base) first_goes / block g
  unfolding target_block block_at landing place_in
  block_base = ap (λ (k : ℕ). k / block g) (on_load ok runs load base (place_lt ok runs load (block_start g t 0) first_in))

-- ---- a write is a block on each drive

module _ (g : Geometry) (ok : Allowed g) (pass : Pass) (runs : PassRuns g pass) (load t : ℕ) (hl : load < loads g) (ht : t < tiers g) where
  -- as code works them out: the block on drive q, and the place of its record k
  abbrev pub code_block : ℕ → ℕ
  code_block q = bit_xor (target_block g pass load t 0) (comb (block_columns g pass) q)

  abbrev pub code_place : ℕ → ℕ → ℕ
  code_place q k = bit_xor (bit_xor (place_in g pass load (block_start g t 0)) (comb (place_columns g pass) q)) (comb (record_columns g pass) k)

  module _ (area mem : List ℕ) where
    -- the byte that index i has if its block is written
    abbrev code_byte : ℕ → ℕ
    code_byte i = get_or mem (code_place (i / g.r / block g % drives g) (i / g.r % block g) * g.r + i % g.r) 0

    module _ (i : ℕ) (h : i / g.r < records g) where
      abbrev y : ℕ
      y = i / g.r

      abbrev q : ℕ
      q = i / g.r / block g % drives g

      write_at : (x : ℕ) → cond (write_takes g pass load t y) (get_or mem (write_from g pass y * g.r + i % g.r) 0) x
          ≡ cond (eqb (y / block g) (code_block q)) (code_byte i) x
      unfolding block_at drive_at write_takes
      write_at x =
          go (write_takes g pass load t y) refl
          ∙ ap₂ (λ (k p : ℕ). cond (eqb (y / block g) k) (get_or mem (bit_xor p (comb (record_columns g pass) (y % block g)) * g.r + i % g.r) 0) x)
          (block_by_drive g ok pass runs load t ht q hq) (place_by_drive g ok pass runs load t ht q hq)
        where
          hq : q < drives g
          hq = mod-lt (y / block g) (pow_pos g.d)

          -- record k of the block comes from the place of its first record, by the first b columns of the inverse
          byte : ℕ
          byte = get_or mem (bit_xor (place_in g pass load (block_start g t q)) (comb (record_columns g pass) (y % block g)) * g.r + i % g.r) 0

          go : (s : Bool) → write_takes g pass load t y ≡ s
              → cond s (get_or mem (write_from g pass y * g.r + i % g.r) 0) x ≡ cond (eqb (y / block g) (target_block g pass load t q)) byte x
          go true e =
              let its-load = eqb (load_at g (source_of g pass y)) load in
              let its-tier = eqb (tier_at g y) t in
              ap (λ (k : ℕ). get_or mem (k * g.r + i % g.r) 0)
              (sym (block_place_lem g ok pass runs load t hl ht y h
              (eqb-true (load_at g (source_of g pass y)) load (and_l its-load its-tier e)) (eqb-true (tier_at g y) t (and_r its-load its-tier e))))
              ∙ sym (ap (λ (s : Bool). cond s byte x) (block_test g ok pass runs load t hl ht y h ∙ e))
          go false e = sym (ap (λ (s : Bool). cond s byte x) (block_test g ok pass runs load t hl ht y h ∙ e))

    -- a write, as code that fills a block on each drive makes it
    pub write_as_code : length area ≡ records g * g.r
        → copied (write_takes g pass load t) (write_from g pass) g.r mem area ≡ landed code_block code_byte g.r (block g) (drives g) area
    unfolding copied landed
    write_as_code long =
        each_ext (λ i x. cond (write_takes g pass load t (i / g.r)) (get_or mem (write_from g pass (i / g.r) * g.r + i % g.r) 0) x)
        (λ i x. cond (eqb (i / g.r / block g) (code_block (i / g.r / block g % drives g))) (code_byte i) x) area
        (λ i b. write_at i ((div-lt_iff_lt-mul ok.r_low).1 (subst (λ (n : ℕ). i < n) long b)) (get_or area i 0))

  -- what the code asks: the block is on its drive, and in the area; the place is in memory
  pub code_drive : (q : ℕ) → q < drives g → code_block q % drives g ≡ q
  code_drive q h = ap (λ (k : ℕ). k % drives g) (sym (block_by_drive g ok pass runs load t ht q h)) ∙ (target-block_in g ok pass runs load t hl ht q h).1

  pub code_block_lem : (q : ℕ) → q < drives g → code_block q * (block g * g.r) + block g * g.r ≤ records g * g.r
  code_block_lem q h =
      let in_area : code_block q < 2 ^ (g.n - g.b)
      = subst (λ (k : ℕ). k < 2 ^ (g.n - g.b)) (block_by_drive g ok pass runs load t ht q h) (target-block_in g ok pass runs load t hl ht q h).0 in
      subst (λ (k : ℕ). code_block q * (block g * g.r) + block g * g.r ≤ k)
      (sym (mul_assoc (2 ^ (g.n - g.b)) (block g) g.r) ∙ ap (λ (k : ℕ). k * g.r) (sym (pow_split g.b g.n (omega arith))))
      (share (code_block q) (2 ^ (g.n - g.b)) (block g * g.r) in_area)

  pub code_place_lem : (q k : ℕ) → q < drives g → k < block g → code_place q k * g.r + g.r ≤ memory_size g * g.r
  unfolding place_in
  code_place_lem q k hq hk =
      let first = block_start g t q in
      let room = first_lt g ok t q ht hq in
      let small = place_lt ok runs load (bit_xor first k) (xor_lt g.m first k room (lt_of_lt_of_le hk (pow_mono (omega arith)))) in
      let same = place_block ok runs load first k room hk
      ∙ ap (λ (i : ℕ). bit_xor i (comb (record_columns g pass) k)) (place_by_drive g ok pass runs load t ht q hq) in
      share (code_place q k) (memory_size g) g.r (subst (λ (i : ℕ). i < memory_size g) same small)
