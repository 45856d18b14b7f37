-- What number is a set of columns, and which columns are in it? Bit j is 1 where column j is in. Assumes nothing.
-- What proofs and inner contracts go by; the rules need none of it.
use Rattle.std.specs.Prelude.{Bool, ◌&&◌, List, ℕ, zero, suc, ◌-◌, ◌^◌, eqb, leb, ltb}
use Rattle.std.specs.Int.Bits.{bit_xor}
use Rattle.std.specs.Int.Count.{count_trailing_zeros}
use Rattle.algebra.specs.Matrix.{one_if}
use Rattle.algebra.specs.Search.{which}
use Rattle.algebra.specs.Vector.{WORD, bit, unless_zero}

-- those of the first k that pass p
unfoldable pub mask_of : (ℕ → Bool) → ℕ → ℕ
mask_of p zero = 0
mask_of p (suc k) = bit_xor (mask_of p k) (unless_zero (one_if (p k)) (2 ^ k))

-- the columns below k that are in the set, ascending
unfoldable pub places_of : ℕ → ℕ → List ℕ
places_of k set = which (λ i. eqb (bit set i) 1) k 0

-- the lowest alone; nothing, where there is none
unfoldable pub lowest_of : ℕ → ℕ
lowest_of set = unless_zero set (2 ^ count_trailing_zeros WORD set)

-- j is one of the columns from..to, and not in the set, in which they are numbered from 0 on
unfoldable pub bare : ℕ → ℕ → ℕ → ℕ → Bool
bare set from to j = leb from j && (ltb j to && eqb (bit set (j - from)) 0)
