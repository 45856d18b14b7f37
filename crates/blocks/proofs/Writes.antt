-- Why is what the code of a write leaves what its definition says? Assumes nothing.
use mathlib.Core.Path.{◌≡◌, refl, sym, ap, ap₂, ◌∙◌}
use mathlib.Core.Bool.{cond}
use mathlib.Core.List.{List}
use Prim.Native.Nat.{ℕ, ◌+◌, ◌-◌, ◌*◌, ◌/◌, ◌%◌, ◌≤◌, ◌<◌}
use native.Mathlib.Omega.{arith}
use lib.Bits.{bit_xor}
use lib.Dec.{eqb}
use lib.ListN.{length, get_or, take, drop}
use Rattle.algebra.specs.Matrix.{applied, columns, target}
use Rattle.algebra.specs.Vector.{comb}
use Rattle.bank.specs.Geometry.{block, drives, memory_size}
use Rattle.bank.specs.declared.Geometry.{Geometry}
use Rattle.moving.proofs.Bridge.{block_base, code_block_lem, code_drive, code_place_lem, code_block, code_place, place_base, write_as_code}
use Rattle.moving.proofs.Bytes.{each_ext}
use Rattle.moving.specs.Blocks.{block_start, place_in, target_block}
use Rattle.moving.specs.Bytes.{copied}
use Rattle.moving.specs.Step.{write_from, write_takes}
use Rattle.planning.specs.Pass.{Pass}
use Rattle.planning.specs.Inner.{PassRuns}
use Rattle.tables.proofs.Columns.{all-columns, front_columns, part_blocks, part_columns}
use Rattle.algebra.specs.Carry.{place_by}
use Rattle.blocks.specs.Places.{drive_place, on_drives}
use Rattle.blocks.specs.Moving.{WriteReady}
use Rattle.tables.specs.Tables.{pass_for}
use Rattle.tables.specs.declared.tables.Tables.{Tables}
use Rattle.moving.specs.Laid.{landed}
use Rattle.bank.proofs.Limits.{Allowed, limits→allowed}

module _ {t : Tables} {load tier : ℕ} {area mem : List ℕ} (k : WriteReady t load tier area mem) where
  abbrev g : Geometry
  g = t.geometry

  abbrev pass : Pass
  pass = pass_for t

  ok : Allowed g
  ok = limits→allowed g k.in_load_lem.inside

  runs : PassRuns g pass
  runs = k.prepared.ready.runs

  abbrev B : ℕ
  B = block g

  abbrev D : ℕ
  D = drives g

  -- the three lists of columns, as parts of the tables
  abbrev cols : List ℕ
  cols = take g.b t.columns

  abbrev places : List ℕ
  places = take (g.b + g.d - g.b) (drop g.b t.columns)

  abbrev blocks : List ℕ
  blocks = take (g.b + g.d - g.b) (drop g.b t.blocks)

  module _ {goes place first : ℕ} (eg : goes ≡ target pass.rows pass.complement (load * memory_size g))
      (ep : place ≡ comb (take g.m t.columns) (bit_xor (block_start g tier 0) (goes % memory_size g)))
      (ef : first ≡ bit_xor (applied pass.rows place) goes / block g) where
    abbrev the_block : ℕ → ℕ
    the_block q = code_block g ok pass runs load tier k.in_load_lem.load_in k.in_load_lem.tier_in q

    abbrev the_place : ℕ → ℕ → ℕ
    the_place q j = code_place g ok pass runs load tier k.in_load_lem.load_in k.in_load_lem.tier_in q j

    place_is : place ≡ place_in g pass load (block_start g tier 0)
    place_is =
        ep ∙ ap₂ (λ (l : List ℕ) (i : ℕ). comb l (bit_xor (block_start g tier 0) (i % memory_size g))) (all-columns k.prepared) eg
        ∙ sym (place_base g ok pass runs load tier k.in_load_lem.tier_in)

    block_is : first ≡ target_block g pass load tier 0
    block_is =
        ef ∙ ap₂ (λ (p i : ℕ). bit_xor (applied pass.rows p) i / block g) place_is eg ∙ sym (block_base g ok pass runs load tier k.in_load_lem.tier_in)

    block_same : (q : ℕ) → place_by first blocks q ≡ the_block q
    block_same q =
        ap₂ (λ (y : ℕ) (l : List ℕ). bit_xor y (comb l q)) block_is (part_blocks k.prepared g.b (g.b + g.d) g.d refl ok.drives_fit)

    place_same : (q j : ℕ) → place_by (place_by place places q) cols j ≡ the_place q j
    unfolding columns
    place_same q j =
        ap₂ bit_xor
        (ap₂ (λ (y : ℕ) (l : List ℕ). bit_xor y (comb l q)) place_is
        (part_columns k.prepared g.b (g.b + g.d) g.d refl ok.drives_fit))
        (ap (λ (l : List ℕ). comb l j) (front_columns k.prepared g.b (omega (arith, ok.block_below))))

    pub on_drive : (q : ℕ) → q < D → place_by first blocks q % D ≡ q
    on_drive q h = rw (block_same q) (code_drive g ok pass runs load tier k.in_load_lem.load_in k.in_load_lem.tier_in q h)

    pub in_area : (q : ℕ) → q < D → place_by first blocks q * (B * g.r) + B * g.r ≤ length area
    in_area q h = rw (block_same q, k.in_load_lem.area_long) (code_block_lem g ok pass runs load tier k.in_load_lem.load_in k.in_load_lem.tier_in q h)

    pub in_memory : (q : ℕ) → q < D → (j : ℕ) → j < B → place_by (place_by place places q) cols j * g.r + g.r ≤ length mem
    in_memory q h j l = rw (place_same q j, k.in_load_lem.memory_long) (code_place_lem g ok pass runs load tier k.in_load_lem.load_in k.in_load_lem.tier_in q j h l)

    pub write_is : copied (on_drives B D (place_by first blocks)) (drive_place B D (place_by place places) cols) g.r mem area
        ≡ copied (write_takes g pass load tier) (write_from g pass) g.r mem area
    unfolding copied landed
    write_is =
        each_ext (λ i x. byte i (place_by first blocks (drive i)) (place_by (place_by place places (drive i)) cols (i / g.r % B)) x)
        (λ i x. byte i (the_block (drive i)) (the_place (drive i) (i / g.r % B)) x) area
        (λ i b. ap₂ (λ (y p : ℕ). byte i y p (get_or area i 0)) (block_same (drive i)) (place_same (drive i) (i / g.r % B)))
        ∙ sym (write_as_code g ok pass runs load tier k.in_load_lem.load_in k.in_load_lem.tier_in area mem k.in_load_lem.area_long)
      where
        drive : ℕ → ℕ
        drive i = i / g.r / B % D

        -- byte i, which is x before, where its drive's block is y, from the record at p of memory
        byte : ℕ → ℕ → ℕ → ℕ → ℕ
        byte i y p x = cond (eqb (i / g.r / B) y) (get_or mem (p * g.r + i % g.r) 0) x
