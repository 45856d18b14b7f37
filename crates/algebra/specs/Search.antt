-- Which numbers below a bound pass a test? Every question of the later pages is put as such a search. Assumes nothing.
use Rattle.std.specs.Prelude.{Bool, true, cond, ◌&&◌, List, [], ◌∷◌, ℕ, zero, suc, ltb}

-- counting up from i, d numbers to go: the first that passes p, or the number after the last
unfoldable pub least_from : (ℕ → Bool) → ℕ → ℕ → ℕ
least_from p zero i = i
least_from p (suc d) i = cond (p i) i (least_from p d (suc i))

-- the least k below n for which p k holds, or n where there is none
unfoldable pub least : (ℕ → Bool) → ℕ → ℕ
least p n = least_from p n 0

-- some k below n passes p
unfoldable pub any_below : (ℕ → Bool) → ℕ → Bool
any_below p n = ltb (least p n) n

-- the least k below n that passes p, or 0 where there is none
unfoldable pub first_passing : (ℕ → Bool) → ℕ → ℕ
first_passing p n = cond (any_below p n) (least p n) 0

-- those of the k numbers from j on that pass p, ascending
unfoldable pub which : (ℕ → Bool) → ℕ → ℕ → List ℕ
which p zero j = []
which p (suc k) j = cond (p j) (j ∷ which p k (suc j)) (which p k (suc j))

module _ {A : Type 0} where
  -- f at each of the k numbers from j on
  unfoldable pub listed : (ℕ → A) → ℕ → ℕ → List A
  listed f zero j = []
  listed f (suc k) j = f j ∷ listed f k (suc j)

  -- every element of a list passes p
  abbrev pub all_pass : (A → Bool) → List A → Bool
  all_pass p [] = true
  all_pass p (x ∷ xs) = p x && all_pass p xs
