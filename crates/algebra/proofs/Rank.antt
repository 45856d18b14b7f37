-- How does the rank tell a singular matrix? Assumes nothing.
use mathlib.Core.Path.{◌∙◌, ◌≡◌, ap, ap₂, refl, sym}
use mathlib.Core.Bool.{Bool, false, true}
use mathlib.Core.Logic.{⊎_elim}
use mathlib.Core.List.{List}
use Prim.Native.Nat.{◌+◌, ◌<◌, ◌≤◌, suc, zero, zero-le, ℕ}
use native.Mathlib.Nat.{le_antisymm, le_refl, not-suc-le-zero, zero-add}
use native.Mathlib.Omega.{arith}
use lib.Dec.{ltb}
use borrow.Author.Tests.{le-ltb, lt-ltb}
use Rattle.algebra.proofs.Search.{below_suc, le_or_lt}
use Rattle.algebra.proofs.Solve.{marked→regular, unmarked→singular}
use Rattle.algebra.specs.Matrix.{columns, marked, one_if, rank, singular}
use lib.ListN.{length, length-append}
use Rattle.algebra.proofs.Listed.{one_place, which_snoc}
use Rattle.algebra.specs.Search.{which}

-- ---- rank
pub rank-le : (cols : List ℕ) (n : ℕ) → rank cols n ≤ n
unfolding rank
rank-le cols zero = zero-le
rank-le cols (suc n) = go (marked cols n) (rank-le cols n)
  where
    go : (b : Bool) → rank cols n ≤ n → rank cols n + one_if b ≤ suc n
    go true h = omega arith
    go false h = omega arith

rank_full : (cols : List ℕ) (n : ℕ) → rank cols n ≡ n → (i : ℕ) → i < n → marked cols i ≡ true
unfolding rank
rank_full cols zero e = λ i h. absurd (not-suc-le-zero h)
rank_full cols (suc n) e = go (marked cols n) refl e (rank-le cols n) (rank_full cols n)
  where
    go : (b : Bool) → marked cols n ≡ b → rank cols n + one_if b ≡ suc n → rank cols n ≤ n
        → (rank cols n ≡ n → (i : ℕ) → i < n → marked cols i ≡ true) → (i : ℕ) → i < suc n → marked cols i ≡ true
    go true m q h ih = below_suc (λ (i : ℕ). marked cols i ≡ true) n (ih (omega arith)) m
    go false m q h ih = absurd (omega arith)

rank_less : (cols : List ℕ) (n : ℕ) → rank cols n < n → (i : ℕ) × (i < n) × (marked cols i ≡ false)
unfolding rank
rank_less cols zero h = absurd (not-suc-le-zero h)
rank_less cols (suc n) h = go (marked cols n) refl h (rank_less cols n)
  where
    go : (b : Bool) → marked cols n ≡ b → rank cols n + one_if b < suc n → (rank cols n < n → (i : ℕ) × (i < n) × (marked cols i ≡ false))
        → (i : ℕ) × (i < suc n) × (marked cols i ≡ false)
    go true m q ih = let t = ih (omega arith) in (t.0, omega (arith, t.1), t.2)
    go false m q ih = (n, le_refl (suc n), m)

-- a matrix is singular exactly where its rank is below n
pub singular-rank : (n : ℕ) (rows : List ℕ) → singular n rows ≡ ltb (rank (columns n rows) n) n
singular-rank n rows =
    let cols = columns n rows in
    ⊎_elim
    (λ (h : n ≤ rank cols n). marked→regular n rows (rank_full cols n (le_antisymm (rank-le cols n) h)) ∙ sym (le-ltb (rank cols n) n h))
    (λ (h : rank cols n < n). let t = rank_less cols n h in unmarked→singular n rows t.0 t.1 t.2 ∙ sym (lt-ltb (rank cols n) n h))
    (le_or_lt n (rank cols n))

-- the rank counts the marked columns
pub rank-which : (part : List ℕ) (k : ℕ) → rank part k ≡ length (which (marked part) k 0)
unfolding rank
rank-which part zero = unfold which in refl
rank-which part (suc k) =
    ap₂ ◌+◌ (rank-which part k) (one (marked part k) k)
    ∙ sym (ap length (which_snoc (marked part) k 0) ∙ length-append (which (marked part) k 0) (one_place (marked part (0 + k)) (0 + k))
    ∙ ap (λ (u : ℕ). length (which (marked part) k 0) + length (one_place (marked part u) u)) (zero-add k))
  where
    one : (b : Bool) (k : ℕ) → one_if b ≡ length (one_place b k)
    one true k = refl
    one false k = refl
