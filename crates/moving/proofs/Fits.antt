-- When do buffers fit a geometry, and why do they still fit after a move? Assumes nothing.
use mathlib.Core.Path.{◌≡◌, ◌∙◌, ap, sym}
use mathlib.Core.Bool.{true, ◌&&◌}
use mathlib.Core.List.{List}
use Prim.Native.Nat.{ℕ, zero, suc, ◌+◌, ◌*◌}
use borrow.Author.Rules.{rules}
use borrow.Author.Tests.{eq-eqb, eqb-true}
use lib.Dec.{eqb}
use lib.ListN.{length}
use Rattle.algebra.proofs.Search.{and_l, and_r}
use Rattle.bank.specs.Geometry.{memory_size, records}
use Rattle.bank.specs.declared.Geometry.{Geometry}
use Rattle.moving.proofs.Again.{area_memory}
use Rattle.moving.proofs.Bytes.{length-copied, length-zeroed}
use Rattle.moving.specs.Number.{load_of, pass_of, phase_of, tier_of}
use Rattle.moving.specs.Step.Area.{zeroth, first}
use Rattle.moving.specs.Step.{Area, Buffers, area_read, area_written, blank_move, buffers_fit, by_phase, bytes_of, move, moves_from, read_move, with_bytes, with_memory, write_move}
use Rattle.planning.specs.declared.Phase.{Phase}
use Rattle.planning.specs.declared.Phase.TheVariants.{Reads, Writes, Blanks}
use Rattle.planning.specs.Pass.{Pass, Route, pass_at}

-- the three lengths one by one
pub record Fits (g : Geometry) (v : Buffers) : Type 0 where
  pub area0_long : length v.area0 ≡ records g * g.r
  pub area1_long : length v.area1 ≡ records g * g.r
  pub memory_long : length v.memory ≡ memory_size g * g.r

pub buffers_fit→Fits : (g : Geometry) (v : Buffers) → buffers_fit g v ≡ true → Fits g v
unfolding buffers_fit
buffers_fit→Fits g v e =
    let a0 = eqb (length v.area0) (records g * g.r) in
    let a1 = eqb (length v.area1) (records g * g.r) in
    let m = eqb (length v.memory) (memory_size g * g.r) in
    let both = and_l (a0 && a1) m e in
    record {
      area0_long = eqb-true (length v.area0) (records g * g.r) (and_l a0 a1 both);
      area1_long = eqb-true (length v.area1) (records g * g.r) (and_r a0 a1 both);
      memory_long = eqb-true (length v.memory) (memory_size g * g.r) (and_r (a0 && a1) m e);
    }

pub Fits→buffers_fit : (g : Geometry) (v : Buffers) → Fits g v → buffers_fit g v ≡ true
unfolding buffers_fit
Fits→buffers_fit g v k =
    rw (
      eq-eqb (length v.area0) (records g * g.r) k.area0_long,
      eq-eqb (length v.area1) (records g * g.r) k.area1_long,
      eq-eqb (length v.memory) (memory_size g * g.r) k.memory_long,
    )

-- the lengths alone decide
pub as_long_fit : (g : Geometry) (v w : Buffers) → buffers_fit g v ≡ true
    → length w.area0 ≡ length v.area0 → length w.area1 ≡ length v.area1 → length w.memory ≡ length v.memory
    → buffers_fit g w ≡ true
unfolding buffers_fit
as_long_fit g v w fit e₀ e₁ e = rw (e₀, e₁, e) fit

pub area_long : (g : Geometry) (v : Buffers) → Fits g v → (a : Area) → length (bytes_of a v) ≡ records g * g.r
area_long g v k zeroth = k.area0_long
area_long g v k first = k.area1_long

-- ---- a move changes no length

module _ (g : Geometry) where
  with_bytes_fits : (a : Area) (l : List ℕ) (v : Buffers) → length l ≡ length (bytes_of a v) → Fits g v → Fits g (with_bytes a l v)
  with_bytes_fits zeroth l v e k = record { area0_long = e ∙ k.area0_long; area1_long = k.area1_long; memory_long = k.memory_long }
  with_bytes_fits first l v e k = record { area0_long = k.area0_long; area1_long = e ∙ k.area1_long; memory_long = k.memory_long }

  with_memory_fits : (l : List ℕ) (v : Buffers) → length l ≡ length v.memory → Fits g v → Fits g (with_memory l v)
  with_memory_fits l v e k = record { area0_long = k.area0_long; area1_long = k.area1_long; memory_long = e ∙ k.memory_long }

  read_fits : (its : Geometry) (p load t : ℕ) (v : Buffers) → Fits g v → Fits g (read_move its p load t v)
  unfolding read_move
  read_fits its p load t v k = with_memory_fits _ v (simp length-copied) k

  write_fits : (its : Geometry) (pass : Pass) (p load t : ℕ) (v : Buffers) → Fits g v → Fits g (write_move its pass p load t v)
  unfolding write_move
  write_fits its pass p load t v k = with_bytes_fits (area_written p) _ v (simp length-copied) k

  blank_fits : (its : Geometry) (p load t : ℕ) (v : Buffers) → Fits g v → Fits g (blank_move its p load t v)
  unfolding blank_move
  blank_fits its p load t v k =
      with_memory_fits _ _ (length-zeroed _ _ v.memory ∙ ap length (sym (area_memory (area_read p) _ v)))
      (with_bytes_fits (area_read p) _ v (simp length-zeroed) k)

  by_phase_lem : (k : Phase) (v w u : Buffers) → Fits g v → Fits g w → Fits g u → Fits g (by_phase k v w u)
  by_phase_lem Reads v w u a b c = search rules
  by_phase_lem Writes v w u a b c = search rules
  by_phase_lem Blanks v w u a b c = search rules

  pub move_fits : (route : Route) (s : ℕ) (v : Buffers) → Fits g v → Fits g (move route s v)
  unfolding move
  move_fits route s v k =
      let its = route.geometry in
      let p = pass_of route s in
      by_phase_lem (phase_of route s) _ _ _ (read_fits its p (load_of route s) (tier_of route s) v k)
      (write_fits its (pass_at route p) p (load_of route s) (tier_of route s) v k) (blank_fits its p (load_of route s) (tier_of route s) v k)

  pub moves_from_fits : (route : Route) (s k : ℕ) (v : Buffers) → Fits g v → Fits g (moves_from (move route) s k v)
  unfolding moves_from
  moves_from_fits route s zero v f = f
  moves_from_fits route s (suc k) v f = move_fits route (s + k) (moves_from (move route) s k v) (moves_from_fits route s k v f)
