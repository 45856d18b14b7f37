-- Which columns are marked, and when do columns sum to zero in one way only? Assumes nothing.
use mathlib.Core.Path.{◌∙◌, ◌≡◌, ap, ap₂, sym}
use mathlib.Core.Bool.{false, not, true}
use mathlib.Core.Logic.{⊎_elim}
use mathlib.Core.List.{List}
use Prim.Native.Nat.{◌<◌, ◌^◌, suc, zero, ℕ}
use native.Mathlib.Nat.{le_refl, lt_of_lt_of_le}
use native.Mathlib.Omega.{arith}
use lib.Arith.{lt-one}
use lib.Dec.{eqb}
use lib.ListN.{get_or}
use lib.Bits.{bit_xor, xor_self}
use borrow.Author.Tests.{eq-eqb, eqb-false, eqb-true, ne_eqb, not-false, not-true}
use lib.Pow.{pow-lt, pow_mono}
use Rattle.algebra.proofs.Digits.{top_digit, xor-eq}
use Rattle.algebra.proofs.Linear.{comb_one, comb-xor}
use Rattle.algebra.proofs.Search.{none_elim, none_intro, any_elim, any_ext, any_intro}
use Rattle.algebra.specs.Matrix.{marked}
use Rattle.algebra.specs.Search.{any_below}
use Rattle.algebra.specs.Vector.{comb}

-- ---- marked: no sum of the columns to its left
pub marked_elim : (cols : List ℕ) (j s : ℕ) → marked cols j ≡ true → s < 2 ^ j → comb cols s ≡ get_or cols j 0 → ⊥
unfolding marked
marked_elim cols j s m h e =
    eqb-false (comb cols s) (get_or cols j 0)
    (none_elim (λ s. eqb (comb cols s) (get_or cols j 0)) (2 ^ j) s (not-true (any_below (λ s. eqb (comb cols s) (get_or cols j 0)) (2 ^ j)) m) h) e

pub marked_intro : (part : List ℕ) (j : ℕ) → ((s : ℕ) → s < 2 ^ j → comb part s ≡ get_or part j 0 → ⊥) → marked part j ≡ true
unfolding marked
marked_intro part j f = ap not (none_intro (λ s. eqb (comb part s) (get_or part j 0)) (2 ^ j) (λ s h. ne_eqb (comb part s) (get_or part j 0) (f s h)))

pub unmarked_intro : (part : List ℕ) (j s : ℕ) → s < 2 ^ j → comb part s ≡ get_or part j 0 → marked part j ≡ false
unfolding marked
unmarked_intro part j s h e = ap not (any_intro (λ s. eqb (comb part s) (get_or part j 0)) (2 ^ j) s h (eq-eqb (comb part s) (get_or part j 0) e))

-- an unmarked column, as the sum of those to its left
pub unmarked_elim : (cols : List ℕ) (j : ℕ) → marked cols j ≡ false → (s : ℕ) × (s < 2 ^ j) × (comb cols s ≡ get_or cols j 0)
unfolding marked
unmarked_elim cols j e =
    let t = any_elim (λ s. eqb (comb cols s) (get_or cols j 0)) (2 ^ j) (not-false (any_below (λ s. eqb (comb cols s) (get_or cols j 0)) (2 ^ j)) e) in
    (t.0, t.1, eqb-true (comb cols t.0) (get_or cols j 0) t.2)

pub marked_ext : (f g : List ℕ) (m j : ℕ) → j < m → ((s : ℕ) → s < 2 ^ m → comb f s ≡ comb g s) → marked f j ≡ marked g j
unfolding marked
marked_ext f g m j h e =
    ap not (any_ext (λ s. eqb (comb f s) (get_or f j 0)) (λ s. eqb (comb g s) (get_or g j 0)) (2 ^ j)
    (λ k l. ap₂ eqb (e k (lt_of_lt_of_le l (pow_mono (omega arith)))) (sym (comb_one f j) ∙ e (2 ^ j) (pow-lt h) ∙ comb_one g j)))

-- ---- sums
-- the sum of the columns picked by 2 ^ j over s
pub comb_top : (cols : List ℕ) (j s : ℕ) → comb cols (bit_xor (2 ^ j) s) ≡ bit_xor (get_or cols j 0) (comb cols s)
comb_top cols j s = comb-xor cols (2 ^ j) s ∙ ap (λ (k : ℕ). bit_xor k (comb cols s)) (comb_one cols j)

-- where column j is the sum of those in s, the sum with column j is zero
pub top_zero : (cols : List ℕ) (j s : ℕ) → comb cols s ≡ get_or cols j 0 → comb cols (bit_xor (2 ^ j) s) ≡ 0
top_zero cols j s e = comb_top cols j s ∙ ap (bit_xor (get_or cols j 0)) e ∙ xor_self (get_or cols j 0)

-- .. and the other way round
pub top_sum : (cols : List ℕ) (j s : ℕ) → comb cols (bit_xor (2 ^ j) s) ≡ 0 → comb cols s ≡ get_or cols j 0
top_sum cols j s e = sym (xor-eq (get_or cols j 0) (comb cols s) (sym (comb_top cols j s) ∙ e))

-- marked columns sum to zero in one way only
pub independent : (cols : List ℕ) (j z : ℕ) → ((i : ℕ) → i < j → marked cols i ≡ true) → z < 2 ^ j → comb cols z ≡ 0 → z ≡ 0
independent cols zero z m h e = lt-one h
independent cols (suc j) z m h e =
    ⊎_elim (λ (l : z < 2 ^ j). independent cols j z (λ i p. m i (omega arith)) l e)
    (λ (t : (s : ℕ) × (s < 2 ^ j) × (z ≡ bit_xor (2 ^ j) s)).
    absurd (marked_elim cols j t.0 (m j (le_refl (suc j))) t.1 (top_sum cols j t.0 (ap (comb cols) (sym t.2) ∙ e))))
    (top_digit j z h)
