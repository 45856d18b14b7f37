-- How does code find the marked columns? Assumes nothing.
use mathlib.Core.Path.{◌∙◌, ◌≡◌, ap, refl, subst, sym}
use mathlib.Core.List.{List, ◌++◌}
use Prim.Native.Nat.{◌<◌, ◌^◌, ◌≤◌, ℕ}
use native.Mathlib.Omega.{arith}
use lib.Dec.{eqb}
use lib.ListN.{get_or, length}
use lib.Seq.{take-append_seam}
use borrow.Author.Tests.{eqb-false, eqb-true}
use Rattle.algebra.proofs.Basis.{rest→marked, rest→unmarked}
use Rattle.algebra.proofs.Built.{Built, built_is}
use Rattle.algebra.proofs.Kernel.{marked_ext}
use Rattle.algebra.proofs.Linear.{comb-take}
use Rattle.algebra.proofs.Loops.{unless_not}
use Rattle.algebra.specs.Elimination.{Echelon, built}
use Rattle.algebra.specs.Matrix.{marked, one_if}
use Rattle.algebra.specs.Vector.{WORD, comb, unless_zero}
use Rattle.planning.proofs.Bridges.{rest_in}
use Rattle.algebra.proofs.Search.{by_test}
use Rattle.algebra.proofs.Digits.{unless_no}

-- what is left of column j after the columns before it counts as its mark
pub left_marked : (room : ℕ) (cols : List ℕ) (w : ℕ) → w ≤ WORD → ((i : ℕ) → get_or cols i 0 < 2 ^ w) → (j : ℕ) → j ≤ room → (e : Echelon) → e ≡ built room cols j
    → (d : ℕ) → d ≡ rest_in e (get_or cols j 0) → (x : ℕ) → unless_zero d x ≡ unless_zero (one_if (marked cols j)) x
left_marked room cols w hw hc j hj e q d p x =
    let b : Built room cols w j e = subst (Built room cols w j) (sym q) (built_is room cols w hw hc j hj) in
    by_test (eqb d 0)
    (λ z. unless_no d x (eqb-true d 0 z) ∙ sym (unless_no 0 x refl)
    ∙ rw (rest→unmarked cols j e.vectors e.pivots e.tags e.count b.basis (sym p ∙ eqb-true d 0 z)) refl)
    (λ z. sym (unless_not d x (eqb-false d 0 z)) ∙ unless_not 1 x (λ s. omega (arith, s))
    ∙ rw (rest→marked cols j e.vectors e.pivots e.tags e.count b.basis (λ s. eqb-false d 0 z (p ∙ s))) refl)

-- columns to the right change no mark
pub marked_front : (u v : List ℕ) (j : ℕ) → j < length u → marked (u ++ v) j ≡ marked u j
marked_front u v j h =
    marked_ext (u ++ v) u (length u) j h (λ s l. sym (comb-take (length u) (u ++ v) s l) ∙ ap (λ (p : List ℕ). comb p s) (take-append_seam u v))
