-- What does a block hold after k of its records were filled? Assumes nothing.
use mathlib.Core.Path.{◌≡◌, sym, ap, ap₂, ◌∙◌, subst}
use mathlib.Core.Bool.{cond}
use mathlib.Core.List.{List}
use Prim.Native.Nat.{ℕ, suc, ◌+◌, ◌-◌, ◌*◌, ◌/◌, ◌%◌, ◌≤◌, ◌<◌}
use native.Mathlib.Nat.{div-lt_iff_lt-mul, le-div_iff_mul-le, suc-mul, zero-add}
use native.Mathlib.Omega.{arith}
use borrow.Author.Tests.{lt-ltb, le-ltb}
use lib.Arith.{digits_div, digits_mod}
use lib.Dec.{ltb}
use lib.ListN.{length, get_or}
use Rattle.moving.proofs.Bytes.{copied_none, each-each, each_ext}
use Rattle.moving.specs.Bytes.{copied}
use Rattle.moving.proofs.Laid.{by_run, within-after, within_before, within_in}
use Rattle.copying.proofs.Parts.{get_d_part, length_part, part}
use Rattle.blocks.specs.Places.{every}
use Rattle.moving.specs.Laid.{laid, within}

-- the block once its first k records are filled
abbrev pub filled : (ℕ → ℕ) → ℕ → List ℕ → ℕ → List ℕ → List ℕ
filled P r m k b = copied (λ j. ltb j k) P r m b

module _ (P : ℕ → ℕ) (r : ℕ) (pos : 0 < r) (m b : List ℕ) where
  pub filled_none : b ≡ filled P r m 0 b
  filled_none = copied_none P r m b (λ j. ltb j 0) (λ j. le-ltb j 0 (omega arith))

  pub filled_all : (count : ℕ) → length b ≡ count * r → filled P r m count b ≡ copied every P r m b
  unfolding copied
  filled_all count e =
      each_ext (λ i x. cond (ltb (i / r) count) (get_or m (P (i / r) * r + i % r) 0) x) (λ i x. get_or m (P (i / r) * r + i % r) 0) b
      (λ i h. rw (lt-ltb (i / r) count ((div-lt_iff_lt-mul pos).1 (subst (λ (n : ℕ). i < n) e h))))

  -- record k, whose bytes were lent as a part of m. b₁ is what the iterations before left
  pub filled_once : (b₁ : List ℕ) (k o s : ℕ) → o ≡ k * r → s ≡ P k * r → b₁ ≡ filled P r m k b → s + r ≤ length m
      → laid b₁ o (length (part s (s + r) m)) (part s (s + r) m) 0 ≡ filled P r m (k + 1) b
  unfolding laid copied
  filled_once b₁ k o s ok sk e h =
      ap (λ (n : ℕ). laid b₁ o n y 0) (length_part s (s + r) m h ∙ omega arith)
      ∙ ap (λ (l : List ℕ). laid l o r y 0) e
      ∙ each-each (λ i x. cond (ltb (i / r) k) (byte i) x) (λ i x. within o r i (get_or y (0 + (i - o)) 0) x)
      (λ i x. cond (ltb (i / r) (k + 1)) (byte i) x) b
      (λ i l. at i (get_or b i 0))
    where
      y : List ℕ
      y = part s (s + r) m

      byte : ℕ → ℕ
      byte i = get_or m (P (i / r) * r + i % r) 0

      inside : (i : ℕ) → o ≤ i → i < o + r → (i / r ≡ k) × (get_or y (0 + (i - o)) 0 ≡ byte i)
      inside i g l = (
        at_k,
        get_d_part s (s + r) m (0 + (i - o)) (omega arith)
            ∙ ap (λ (n : ℕ). get_or m n 0) (ap₂ (λ (x y : ℕ). x + y) (sk ∙ ap (λ (n : ℕ). P n * r) (sym at_k)) (zero-add (i - o) ∙ sym in_k)),
      )
        where
          whole : k * r + (i - o) ≡ i
          whole = omega arith

          at_k : i / r ≡ k
          at_k = ap (λ (n : ℕ). n / r) (sym whole) ∙ digits_div k {m = r} {r = i - o} (omega arith)

          in_k : i % r ≡ i - o
          in_k = ap (λ (n : ℕ). n % r) (sym whole) ∙ digits_mod k {m = r} {r = i - o} (omega arith)

      at : (i x : ℕ) → within o r i (get_or y (0 + (i - o)) 0) (cond (ltb (i / r) k) (byte i) x) ≡ cond (ltb (i / r) (k + 1)) (byte i) x
      at i x =
          by_run o r i
          (λ l. let q : i / r < k = (div-lt_iff_lt-mul pos).1 (subst (λ (n : ℕ). i < n) ok l) in
          rw (within_before, lt-ltb (i / r) k q, lt-ltb (i / r) (k + 1) (omega arith)))
          (λ g l. rw (within_in, lt-ltb (i / r) (k + 1) (omega (arith, (inside i g l).0))) (inside i g l).1)
          (λ g. let q : suc k ≤ i / r = (le-div_iff_mul-le {k = r} {x = suc k} {y = i} pos).1 (omega (arith, suc-mul k r)) in
          rw (within-after, le-ltb (i / r) k (omega arith), le-ltb (i / r) (k + 1) (omega arith)))
