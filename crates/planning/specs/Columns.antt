-- How are whole columns added, moved and taken apart? A matrix is the list of its columns here; a column is a number, bit i its
-- entry in row i. Assumes nothing.
use Rattle.std.specs.Prelude.{Bool, not, ◌&&◌, List, map, ℕ, ◌/◌, ◌^◌, eqb, get_or, take, drop}
use Rattle.std.specs.Int.Bits.{bit_xor}
use Rattle.algebra.specs.Search.{any_below, listed}
use Rattle.algebra.specs.Vector.{bit}
use Rattle.algebra.specs.Matrix.{marked}

-- the n by n matrix that adds into each column j the set of columns that g j picks
unfoldable pub adding : (ℕ → ℕ) → ℕ → List ℕ
adding g n = listed (λ j. bit_xor (2 ^ j) (g j)) n 0

-- the n by n matrix that puts column σ j in the place of column j
unfoldable pub placing : (ℕ → ℕ) → ℕ → List ℕ
placing σ n = listed (λ j. 2 ^ σ j) n 0

-- φ: of the lower part, which is rows m and up, the columns below m
unfoldable pub phi : ℕ → List ℕ → List ℕ
phi m cols = map (λ v. v / 2 ^ m) (take m cols)

-- δ: of the lower part, the columns from m on
unfoldable pub delta : ℕ → List ℕ → List ℕ
delta m cols = map (λ v. v / 2 ^ m) (drop m cols)

-- column j of a part is zero
unfoldable pub zero_column : List ℕ → ℕ → Bool
zero_column part j = eqb (get_or part j 0) 0

-- of the k columns of a part, s picks marked ones only
unfoldable pub only_marked : List ℕ → ℕ → ℕ → Bool
only_marked part k s = not (any_below (λ i. eqb (bit s i) 1 && not (marked part i)) k)
