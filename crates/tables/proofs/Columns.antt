-- Which parts of a pass's tables are the columns that its writes go by? Assumes nothing.
use mathlib.Core.Path.{◌≡◌, refl, sym, ap, ap₂, ◌∙◌}
use mathlib.Core.Bool.{false}
use mathlib.Core.List.{List, [], map, ◌++◌, append-nil}
use Prim.Native.Nat.{ℕ, ◌+◌, ◌-◌, ◌/◌, ◌≤◌, ◌^◌}
use native.Mathlib.Nat.{zero-add}
use native.Mathlib.Omega.{arith}
use lib.ListN.{length, take, drop, length-map, replicate, length-append}
use lib.Seq.{length-take-le, take_at, take-take}
use Rattle.algebra.proofs.Columns.{columns-length, part_units, unit_vectors-length}
use Rattle.algebra.proofs.Lists.{part_map}
use Rattle.algebra.specs.Matrix.{applied, columns, inverse, singular}
use Rattle.algebra.specs.Vector.{unit_vectors}
use Rattle.bank.proofs.Limits.{Allowed, limits→allowed}
use Rattle.bank.specs.Geometry.{block}
use Rattle.bank.specs.Limits.{ROWS}
use Rattle.bank.specs.declared.Geometry.{Geometry}
use Rattle.moving.proofs.Low.{low_regular}
use Rattle.planning.specs.Pass.{Pass}
use Rattle.tables.specs.Tables.{Prepared, TablesReady, low_columns, pass_for, pass_with, tables_for}
use Rattle.tables.specs.Pace.{Paced}
use Rattle.tables.specs.declared.tables.Tables.{Tables}
use Rattle.tables.specs.declared.pace.Pace.{Pace}

-- ---- the tables of a pass

module _ {g : Geometry} {rows : List ℕ} {c : ℕ} (k : TablesReady g rows c) where
  abbrev pass : Pass
  pass = pass_with g rows c

  abbrev zeros : List ℕ
  zeros = replicate (ROWS - g.m) 0

  ok : Allowed g
  ok = limits→allowed g k.inside

  -- rows 0..m-1, of the n rows and of the places
  low_same : take g.m (take g.n rows) ≡ take g.m rows
  low_same = take-take g.m g.n rows (omega (arith, ok.memory_below))

  pub low_singular : singular g.m (take g.m rows) ≡ false
  low_singular = ap (singular g.m) (sym low_same) ∙ low_regular ok k.runs

  low_long : length (low_columns g pass) ≡ g.m
  low_long = columns-length g.m (inverse g.m (take g.m pass.rows))

  -- the first m of the places of an array
  pub low_part : (l : List ℕ) → length l ≡ ROWS → length (take g.m l) ≡ g.m
  low_part l e = length-take-le g.m l (omega (arith, ok.memory_below, ok.n_high))

  -- from the two arrays that code makes
  pub tables_made : {pace : Pace} {p m m' : ℕ} {columns' blocks' : List ℕ} → m ≡ g.m → m' ≡ g.m
      → columns' ≡ columns m (inverse m (take g.m rows)) ++ replicate (ROWS - m) 0
      → blocks' ≡ map (λ v. applied (take g.n rows) v / 2 ^ g.b) (take g.m columns') ++ replicate (ROWS - m') 0
      → ◌≡◌ {A = Tables} (record { geometry = g; pace = pace; pass = p; rows = rows; complement = c; columns = columns'; blocks = blocks' })
      (tables_for g pace p rows c)
  unfolding tables_for
  tables_made {pace} {p} {m} {m'} {columns'} {blocks'} em em' ec eb =
      ap₂ (λ (x y : List ℕ). record { geometry = g; pace = pace; pass = p; rows = rows; complement = c; columns = x; blocks = y }) same
      (eb ∙ ap₂ (λ (l z : List ℕ). map (λ v. applied (take g.n rows) v / 2 ^ g.b) l ++ z)
      (ap (take g.m) same ∙ take_at (low_columns g pass) zeros g.m low_long) (rest em'))
    where
      rest : {i : ℕ} → i ≡ g.m → replicate {A = ℕ} (ROWS - i) 0 ≡ zeros
      rest e = ap (λ (i : ℕ). replicate (ROWS - i) 0) e

      same : columns' ≡ low_columns g pass ++ zeros
      same = ec ∙ ap₂ (λ (i : ℕ) (l : List ℕ). columns i (inverse i l) ++ replicate (ROWS - i) 0) em (sym low_same)

  pub tables_prepared : {pace : Pace} → Paced g pace → (p : ℕ) → Prepared (tables_for g pace p rows c)
  unfolding tables_for
  tables_prepared at p = record { ready = k; columns_are = refl; blocks_are = refl; paced = at }

-- ---- the parts of prepared tables that a write goes by

module _ {t : Tables} (k : Prepared t) where
  abbrev geo : Geometry
  geo = t.geometry

  abbrev low : List ℕ
  low = inverse geo.m (take geo.m (pass_for t).rows)

  -- what the pass makes of a column, in blocks
  abbrev blocked : ℕ → ℕ
  blocked v = applied (pass_for t).rows v / block geo

  abbrev nothing : List ℕ
  nothing = replicate (ROWS - geo.m) 0

  long : length (columns geo.m low) ≡ geo.m
  long = columns-length geo.m low

  pub all-columns : take geo.m t.columns ≡ columns geo.m low
  all-columns = ap (take geo.m) k.columns_are ∙ take_at (columns geo.m low) nothing geo.m long

  pub blocks_room : geo.m ≤ length t.blocks
  blocks_room =
      omega (
        arith,
        ap length k.blocks_are,
        length-append (map blocked (columns geo.m low)) nothing,
        length-map (columns geo.m low) blocked,
        long,
      )

  -- of a part from o to e, which is d long
  module _ (o e d : ℕ) (q : e ≡ o + d) (h : e ≤ geo.m) where
    same_part : {x y : List ℕ} → x ≡ y → take (e - o) (drop o x) ≡ take d (drop o y)
    same_part w = let n : e - o ≡ d = omega arith in ap₂ (λ (i : ℕ) (l : List ℕ). take i (drop o l)) n w

    part_low : (z : List ℕ) → take d (drop o (columns geo.m low ++ z)) ≡ map (applied low) (unit_vectors d o)
    unfolding columns
    part_low z =
        part_map (applied low) o d (unit_vectors geo.m 0) z (omega (arith, unit_vectors-length geo.m 0))
        ∙ ap (map (applied low)) (part_units o d geo.m 0 (omega arith) ∙ ap (unit_vectors d) (zero-add o))

    pub part_columns : take (e - o) (drop o t.columns) ≡ map (applied low) (unit_vectors d o)
    part_columns = same_part k.columns_are ∙ part_low nothing

    pub part_blocks : take (e - o) (drop o t.blocks) ≡ map blocked (map (applied low) (unit_vectors d o))
    part_blocks =
        same_part k.blocks_are ∙ part_map blocked o d (columns geo.m low) nothing (omega (arith, long))
        ∙ ap (map blocked) (ap (λ (l : List ℕ). take d (drop o l)) (sym (append-nil (columns geo.m low))) ∙ part_low [])

  -- of the first d
  pub front_columns : (d : ℕ) → d ≤ geo.m → take d t.columns ≡ map (applied low) (unit_vectors d 0)
  front_columns d h = ap (λ (k : ℕ). take k t.columns) (omega arith) ∙ part_columns 0 d d (omega arith) h
