-- What is a vector over GF(2)? A number: bit 0 is its lowest entry, and the sum of two vectors is their xor. Assumes nothing.
use Rattle.std.specs.Prelude.{List, [], ◌∷◌, ℕ, zero, suc, ◌/◌, ◌%◌, ◌^◌}
use Rattle.std.specs.Int.Bits.{bit_xor}
use Rattle.std.specs.Int.Count.{ones}

-- the bits of a word, in which code keeps a vector
abbrev pub WORD : ℕ
WORD = 32

-- bit i of x
unfoldable pub bit : ℕ → ℕ → ℕ
bit x i = x / 2 ^ i % 2

-- the parity of x: how many of its bits are set, modulo 2
unfoldable pub parity : ℕ → ℕ
parity x = ones x % 2

-- v unless d is zero, and then nothing: d times v over GF(2), where d is a bit
unfoldable pub unless_zero : ℕ → ℕ → ℕ
unless_zero zero v = 0
unless_zero (suc d) v = v

-- the sum of those of the listed vectors that s picks: the one at place j where bit j of s is 1
unfoldable pub comb : List ℕ → ℕ → ℕ
comb [] s = 0
comb (v ∷ vs) s = bit_xor (unless_zero (s % 2) v) (comb vs (s / 2))

-- the n unit vectors 2 ^ j, 2 ^ (j + 1) and so on
unfoldable pub unit_vectors : ℕ → ℕ → List ℕ
unit_vectors zero j = []
unit_vectors (suc n) j = 2 ^ j ∷ unit_vectors n (suc j)
