-- How are numbers and rows written as lines of bytes? Assumes nothing.
use Rattle.std.specs.Prelude.{cond, List, [], ◌∷◌, ◌++◌, ℕ, zero, suc, ◌+◌, ◌/◌, ◌%◌, ltb}

-- a line ends in LF
abbrev pub line : List ℕ → List ℕ
line t = t ++ (10 ∷ [])

-- the digits of v, at most k of them, with no leading zero unless v is 0
unfoldable pub digits_in : ℕ → ℕ → List ℕ
digits_in zero v = []
digits_in (suc k) v = cond (ltb v 10) ((48 + v) ∷ []) (digits_in k (v / 10) ++ ((48 + v % 10) ∷ []))

-- a number of up to 64 bits in decimal: it has at most 20 digits
unfoldable pub decimal : ℕ → List ℕ
decimal v = digits_in 20 v

-- n bits of v as characters 0 or 1, bit 0 first
unfoldable pub bits : ℕ → ℕ → List ℕ
bits zero v = []
bits (suc n) v = (48 + v % 2) ∷ bits n (v / 2)

-- rows of n bits, a line for each
unfoldable pub row_lines : ℕ → List ℕ → List ℕ
row_lines n [] = []
row_lines n (v ∷ vs) = line (bits n v) ++ row_lines n vs
