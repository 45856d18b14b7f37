-- What does a test of every number of a list find, as a search by places? Assumes nothing.
use mathlib.Core.Path.{◌≡◌, refl, sym, ap, ◌∙◌}
use mathlib.Core.Bool.{Bool, ◌&&◌}
use mathlib.Core.List.{List}
use Prim.Native.Nat.{ℕ, ◌+◌, ◌-◌, ◌≤◌}
use native.Mathlib.Omega.{arith}
use borrow.Author.Tests.{leb-true, le-leb}
use lib.Dec.{leb}
use lib.ListN.{get_or, length, drop, length-drop, take, length-take}
use lib.Seq.{get_or-drop, get_or-take}
use Rattle.std.specs.List.{list_any}
use Rattle.std.proofs.lemmas.List.Recursion.{or_is}
use Rattle.algebra.specs.Search.{any_below}
use Rattle.algebra.proofs.Search.{any_elim, any_ext, none_elim, and_l, and_r}

module _ (test : ℕ → Bool) where
  pub list_any_below : (xs : List ℕ) → list_any test xs ≡ any_below (λ i. test (get_or xs i 0)) (length xs)
  list_any_below xs =
      let p = λ (i : ℕ). test (get_or xs i 0) in
      sym (or_is (list_any test) test refl (λ _ _. refl) xs 0 (any_below p (length xs))
      (any_elim p (length xs)) (λ e i h. none_elim p (length xs) i e h))

  -- of the places from n on
  pub list_any_from : (n : ℕ) (xs : List ℕ) → list_any test (drop n xs) ≡ any_below (λ i. leb n i && test (get_or xs i 0)) (length xs)
  list_any_from n xs =
      let p = λ (i : ℕ). leb n i && test (get_or xs i 0) in
      let long = length-drop n xs in
      sym (or_is (list_any test) test refl (λ _ _. refl) (drop n xs) 0 (any_below p (length xs))
      (λ e.
      let f = any_elim p (length xs) e in
      let low = leb-true n f.0 (and_l (leb n f.0) (test (get_or xs f.0 0)) f.2) in
      let there : n + (f.0 - n) ≡ f.0 = omega arith in (
        f.0 - n,
        omega (arith, f.1),
        ap test (get_or-drop n xs (f.0 - n) 0 ∙ ap (λ (k : ℕ). get_or xs k 0) there)
            ∙ and_r (leb n f.0) (test (get_or xs f.0 0)) f.2,
      ))
      (λ e i h.
      let none = none_elim p (length xs) (n + i) e (omega arith) in
      ap test (get_or-drop n xs i 0) ∙ (rw (le-leb n (n + i) (omega arith)) at none)))

-- a search of the first n numbers
pub any_of_first : (test : ℕ → Bool) (n : ℕ) (xs : List ℕ) → n ≤ length xs
    → any_below (λ i. test (get_or (take n xs) i 0)) (length (take n xs)) ≡ any_below (λ i. test (get_or xs i 0)) n
any_of_first test n xs h =
    let long : length (take n xs) ≡ n = omega (arith, length-take n xs) in
    ap (any_below (λ i. test (get_or (take n xs) i 0))) long
    ∙ any_ext (λ i. test (get_or (take n xs) i 0)) (λ i. test (get_or xs i 0)) n (λ k l. ap test (get_or-take n xs k 0 l))
