-- What does a product of arrays hold, where a matrix is its list of columns? Assumes nothing.
use mathlib.Core.Path.{◌∙◌, ◌≡◌, ap}
use mathlib.Core.List.{List, ◌++◌}
use Prim.Native.Nat.{ℕ}
use lib.ListN.{length, take}
use lib.Seq.{take_at}
use Rattle.algebra.specs.Matrix.{after}
use Rattle.planning.specs.Making.{swaps}
use Rattle.planning.proofs.Round.{swaps-length}
use Rattle.algebra.proofs.Linear.{after-length}

pub take_front : (n : ℕ) (array list r : List ℕ) → length list ≡ n → array ≡ list ++ r → take n array ≡ list
take_front n array list r l e = ap (take n) e ∙ take_at list r n l

-- ---- one round, array by array: S, then the columns swapped
module _ (n b m : ℕ) (cols s swapped : List ℕ) where
  abbrev S : List ℕ
  S = swaps n b m cols

  pub swaps_front : (r : List ℕ) → s ≡ S ++ r → take n s ≡ S
  swaps_front r = take_front n s S r (swaps-length n b m cols)

  pub swapped_front : (r : List ℕ) → take n s ≡ S → swapped ≡ after cols (take n s) ++ r → take n swapped ≡ after cols S
  swapped_front r es e = take_front n swapped (after cols S) r (after-length cols S ∙ swaps-length n b m cols) (e ∙ ap (λ (q : List ℕ). after cols q ++ r) es)
