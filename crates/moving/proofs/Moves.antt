-- What do moves leave, done one after the other? Assumes nothing.
use mathlib.Core.Path.{◌≡◌, ◌∙◌, ap, ap₂, refl, sym}
use Prim.Native.Nat.{ℕ, zero, suc, ◌+◌}
use native.Mathlib.Nat.{add_assoc, add-suc, add-zero, zero-add}
use native.Mathlib.Numerals.{add-one}
use Rattle.moving.specs.Step.{Buffers, moves_from}

module _ (f : ℕ → Buffers → Buffers) where
  -- j moves, and then k more
  pub from_from : (s j k : ℕ) (v : Buffers) → moves_from f (s + j) k (moves_from f s j v) ≡ moves_from f s (j + k) v
  unfolding moves_from
  from_from s j zero v = ap (λ (i : ℕ). moves_from f s i v) (sym (add-zero j))
  from_from s j (suc k) v = ap₂ f (add_assoc s j k) (from_from s j k v) ∙ ap (λ (i : ℕ). moves_from f s i v) (sym (add-suc j k))

  -- move k after those below it
  pub moves_next : (k : ℕ) (v : Buffers) → moves_from f 0 (k + 1) v ≡ f k (moves_from f 0 k v)
  unfolding moves_from
  moves_next k v = rw (add-one k, zero-add k)

  -- those below s, and then k more
  pub moves_on : (s k : ℕ) (v : Buffers) → moves_from f s k (moves_from f 0 s v) ≡ moves_from f 0 (s + k) v
  moves_on s k v = ap (λ (i : ℕ). moves_from f i k (moves_from f 0 s v)) (sym (zero-add s)) ∙ from_from 0 s k v

  pub moves_none : (s : ℕ) (v : Buffers) → v ≡ moves_from f s 0 v
  unfolding moves_from
  moves_none s v = refl

  -- one more, counted as code counts
  pub moves_more : (s k : ℕ) (v w : Buffers) → w ≡ moves_from f s k v → f (s + k) w ≡ moves_from f s (k + 1) v
  unfolding moves_from
  moves_more s k v w e = rw (add-one k) (ap (f (s + k)) e)
