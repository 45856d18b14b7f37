-- Why does a move made again change nothing? Assumes nothing.
use mathlib.Core.Path.{◌≡◌, refl}
use mathlib.Core.List.{List}
use Prim.Native.Nat.{ℕ}
use Rattle.bank.specs.declared.Geometry.{Geometry}
use Rattle.moving.proofs.Bytes.{copied-again, zeroed-again}
use Rattle.moving.specs.Bytes.{copied}
use Rattle.moving.specs.Number.{load_of, pass_of, phase_of, tier_of}
use Rattle.moving.specs.Step.Area.{zeroth, first}
use Rattle.moving.specs.Step.{Area, Buffers, area_read, blank_move, by_phase, bytes_of, move, other_area, read_from, read_move, read_takes, with_bytes, with_memory, write_move}
use Rattle.planning.specs.declared.Phase.{Phase}
use Rattle.planning.specs.declared.Phase.TheVariants.{Reads, Writes, Blanks}
use Rattle.planning.specs.Pass.{Pass, Route, pass_at}

-- ---- the areas

pub area_same : (a : Area) (l : List ℕ) (v : Buffers) → bytes_of a (with_bytes a l v) ≡ l
area_same zeroth l v = refl
area_same first l v = refl

pub area_other : (a : Area) (l : List ℕ) (v : Buffers) → bytes_of a (with_bytes (other_area a) l v) ≡ bytes_of a v
area_other zeroth l v = refl
area_other first l v = refl

pub other_area_lem : (a : Area) (l : List ℕ) (v : Buffers) → bytes_of (other_area a) (with_bytes a l v) ≡ bytes_of (other_area a) v
other_area_lem zeroth l v = refl
other_area_lem first l v = refl

pub area_memory : (a : Area) (l : List ℕ) (v : Buffers) → (with_bytes a l v).memory ≡ v.memory
area_memory zeroth l v = refl
area_memory first l v = refl

pub memory_area : (a : Area) (l : List ℕ) (v : Buffers) → bytes_of a (with_memory l v) ≡ bytes_of a v
memory_area zeroth l v = refl
memory_area first l v = refl

area_twice : (a : Area) (l k : List ℕ) (v : Buffers) → with_bytes a l (with_bytes a k v) ≡ with_bytes a l v
area_twice zeroth l k v = refl
area_twice first l k v = refl

-- memory and an area, changed and changed again
both_twice : (a : Area) (l k m n : List ℕ) (v : Buffers) → with_memory m (with_bytes a l (with_memory n (with_bytes a k v))) ≡ with_memory m (with_bytes a l v)
both_twice zeroth l k m n v = refl
both_twice first l k m n v = refl

-- ---- a move done again

read_again : (g : Geometry) (p load t : ℕ) (v : Buffers) → read_move g p load t (read_move g p load t v) ≡ read_move g p load t v
unfolding read_move
read_again g p load t v =
    let read = copied (read_takes g t) (read_from g load) g.r (bytes_of (area_read p) v) v.memory in
    rw (memory_area (area_read p) read v, copied-again)

write_again : (g : Geometry) (pass : Pass) (p load t : ℕ) (v : Buffers)
    → write_move g pass p load t (write_move g pass p load t v) ≡ write_move g pass p load t v
unfolding write_move
write_again g pass p load t v = rw (area_twice, area_memory, area_same, copied-again)

blank_again : (g : Geometry) (p load t : ℕ) (v : Buffers) → blank_move g p load t (blank_move g p load t v) ≡ blank_move g p load t v
unfolding blank_move
blank_again g p load t v = rw (both_twice, memory_area, area_same, zeroed-again, zeroed-again)

by_phase_lem : (k : Phase) (f h z : Buffers → Buffers) (v : Buffers) → f (f v) ≡ f v → h (h v) ≡ h v → z (z v) ≡ z v
    → by_phase k (f (by_phase k (f v) (h v) (z v))) (h (by_phase k (f v) (h v) (z v))) (z (by_phase k (f v) (h v) (z v))) ≡ by_phase k (f v) (h v) (z v)
by_phase_lem Reads f h z v a b c = cc
by_phase_lem Writes f h z v a b c = cc
by_phase_lem Blanks f h z v a b c = cc

pub move-again : (route : Route) (s : ℕ) (v : Buffers) → move route s (move route s v) ≡ move route s v
unfolding move
move-again route s v =
    let g = route.geometry in
    let p = pass_of route s in
    let l = load_of route s in
    let t = tier_of route s in
    by_phase_lem (phase_of route s) (read_move g p l t) (write_move g (pass_at route p) p l t) (blank_move g p l t) v
    (read_again g p l t v) (write_again g (pass_at route p) p l t v) (blank_again g p l t v)
