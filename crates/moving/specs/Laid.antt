-- What does a buffer hold when a part of it, or a block on each drive, is written? What proofs and inner contracts go by; the rules
-- need none of it. Assumes nothing.
use Rattle.std.specs.Prelude.{cond, List, ℕ, ◌+◌, ◌-◌, ◌/◌, ◌%◌, eqb, ltb, get_or}
use Rattle.moving.specs.Bytes.{each}

-- v where i is one of the k indices from a on, and x elsewhere
unfoldable pub within : ℕ → ℕ → ℕ → ℕ → ℕ → ℕ
within a k i v x = cond (ltb i a) x (cond (ltb i (a + k)) v x)

-- dst with its k bytes from index a on taken from src, from src's index s on
unfoldable pub laid : List ℕ → ℕ → ℕ → List ℕ → ℕ → List ℕ
laid dst a k src s = each (λ i x. within a k i (get_or src (s + (i - a)) 0) x) dst

-- dst with its k bytes from index a on zero
unfoldable pub cleared : List ℕ → ℕ → ℕ → List ℕ
cleared dst a k = each (λ i x. within a k i 0 x) dst

-- the bytes of block Y q become W, on each of D drives; a block is of `size` records of r bytes, and block y lies on drive y % D
unfoldable pub landed : (ℕ → ℕ) → (ℕ → ℕ) → ℕ → ℕ → ℕ → List ℕ → List ℕ
landed Y W r size D area = each (λ i x. cond (eqb (i / r / size) (Y (i / r / size % D))) (W i) x) area
