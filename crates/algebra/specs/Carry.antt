-- How does a sum of columns change from the one that k picks to the one that k + 1 picks? The carry walks up the columns. Assumes nothing.
-- What proofs and inner contracts go by; the rules need none of it.
use Rattle.std.specs.Prelude.{cond, List, [], ◌∷◌, ℕ, ◌/◌, ◌%◌, eqb}
use Rattle.std.specs.Int.Bits.{bit_xor}
use Rattle.algebra.specs.Vector.{comb}

-- place k: the base, and the columns that k picks
abbrev pub place_by : ℕ → List ℕ → ℕ → ℕ
place_by base columns k = bit_xor base (comb columns k)

-- what the place changes by from k to k + 1: the columns up to the first zero bit of k, that column too
unfoldable pub flips : List ℕ → ℕ → ℕ
flips [] k = 0
flips (c ∷ cs) k = bit_xor c (cond (eqb (k % 2) 0) 0 (flips cs (k / 2)))
