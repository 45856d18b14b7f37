-- What does a matrix over GF(2) do to an address? A matrix is the list of its rows: bit j of row i is entry (i, j). Assumes nothing.
use Rattle.std.specs.Prelude.{Bool, true, false, not, ◌&&◌, List, [], ◌∷◌, map, ℕ, zero, suc, ◌+◌, ◌-◌, ◌*◌, ◌^◌, eqb, ltb, get_or, take, drop}
use Rattle.std.specs.Int.Bits.{bit_and, bit_xor}
use Rattle.algebra.specs.Search.{least, any_below, first_passing}
use Rattle.algebra.specs.Vector.{parity, comb, unit_vectors}

-- Ax: bit i is the parity of row i AND x
unfoldable pub applied : List ℕ → ℕ → ℕ
applied [] x = 0
applied (r ∷ rs) x = applied rs x * 2 + parity (bit_and r x)

-- where A and c send address x: Ax xor c
unfoldable pub target : List ℕ → ℕ → ℕ → ℕ
target rows c x = bit_xor (applied rows x) c

-- the sums of the vectors of a that each set in q picks. Of lists of columns it is the product AQ: column j is the sum of
-- the columns of A that column j of Q picks. Of lists of rows it is QA: row i is the sum of the rows of A that row i of Q picks
unfoldable pub after : List ℕ → List ℕ → List ℕ
after a q = map (comb a) q

-- the identity of n rows
unfoldable pub identity : ℕ → List ℕ
identity n = unit_vectors n 0

-- A, of n rows, is the identity: none of its rows is another than the identity's
unfoldable pub is_identity : ℕ → List ℕ → Bool
is_identity n rows = not (any_below (λ i. not (eqb (get_or rows i 0) (get_or (identity n) i 0))) n)

-- the n columns of A: column j is A applied to 2 ^ j, and so the sum of the columns in a set s is A applied to s.
-- The columns of a list of columns are the rows
unfoldable pub columns : ℕ → List ℕ → List ℕ
columns n rows = map (applied rows) (unit_vectors n 0)

-- column j is no sum of the columns to its left
unfoldable pub marked : List ℕ → ℕ → Bool
marked cols j = not (any_below (λ s. eqb (comb cols s) (get_or cols j 0)) (2 ^ j))

-- A sends z, which isn't zero, to zero
unfoldable pub kills : List ℕ → ℕ → Bool
kills rows z = ltb 0 z && eqb (applied rows z) 0

-- the least nonzero vector below 2 ^ n that A sends to zero, or 0 where there is none
unfoldable pub kernel : ℕ → List ℕ → ℕ
kernel n rows = first_passing (kills rows) (2 ^ n)

-- A, of n columns, sends some nonzero vector to zero
unfoldable pub singular : ℕ → List ℕ → Bool
singular n rows = any_below (kills rows) (2 ^ n)

-- 1 where a test holds, and 0 where it fails
abbrev pub one_if : Bool → ℕ
one_if true = 1
one_if false = 0

-- how many of the first n columns are marked
unfoldable pub rank : List ℕ → ℕ → ℕ
rank cols zero = 0
rank cols (suc n) = rank cols n + one_if (marked cols n)

-- the address below 2 ^ n that A and c send to y, or 2 ^ n where there is none
unfoldable pub source : ℕ → List ℕ → ℕ → ℕ → ℕ
source n rows c y = least (λ x. eqb (target rows c x) y) (2 ^ n)

-- the inverse of A: its column j is the address that A sends to 2 ^ j
unfoldable pub inverse : ℕ → List ℕ → List ℕ
inverse n rows = columns n (map (source n rows 0) (unit_vectors n 0))

-- some number below 2 ^ m has zero parity against each of rows b..m-1 and odd parity against some row from m on
unfoldable pub spills : ℕ → ℕ → List ℕ → Bool
spills b m rows = any_below (λ z. eqb (applied (take (m - b) (drop b rows)) z) 0 && not (eqb (applied (drop m rows) z) 0)) (2 ^ m)
