-- What does a buffer hold after a move, byte by byte and record by record? Record x is the r bytes from byte x·r on. Assumes nothing.
use Rattle.std.specs.Prelude.{◌≡◌, Bool, cond, List, [], ◌∷◌, ℕ, zero, suc, ◌+◌, ◌*◌, ◌/◌, ◌%◌, ◌<◌, length, get_or, take, drop}

-- the list with f k x, f (k + 1) y, .. in the place of its elements x, y, ..
unfoldable pub each_from : (ℕ → ℕ → ℕ) → ℕ → List ℕ → List ℕ
each_from f k [] = []
each_from f k (x ∷ xs) = f k x ∷ each_from f (suc k) xs

-- as long as l, with f i x at index i, where l has x
unfoldable pub each : (ℕ → ℕ → ℕ) → List ℕ → List ℕ
each f l = each_from f zero l

-- dst after a move from src: record y, where it is chosen, becomes record `from y` of src; every other byte stays
unfoldable pub copied : (ℕ → Bool) → (ℕ → ℕ) → ℕ → List ℕ → List ℕ → List ℕ
copied chosen from r src dst = each (λ i x. cond (chosen (i / r)) (get_or src (from (i / r) * r + i % r) 0) x) dst

-- dst after zeroing: every byte of a record that is chosen becomes 0; every other byte stays
unfoldable pub zeroed : (ℕ → Bool) → ℕ → List ℕ → List ℕ
zeroed chosen r dst = each (λ i x. cond (chosen (i / r)) 0 x) dst

-- a buffer that is zero in every byte
abbrev pub AllZero : List ℕ → Type 0
AllZero l = (i : ℕ) → i < length l → get_or l i 0 ≡ 0

-- record x of a buffer
abbrev pub record_of : ℕ → List ℕ → ℕ → List ℕ
record_of r l x = take r (drop (x * r) l)
