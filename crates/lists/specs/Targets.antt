-- Which matrix and complement give a list of targets? Entry x of the list is the target of address x. Assumes nothing.
use Rattle.std.specs.Prelude.{Bool, not, ◌&&◌, List, [], ◌∷◌, ℕ, zero, suc, ◌/◌, ◌%◌, ◌^◌, eqb, leb, get_or, length}
use Rattle.bank.specs.Limits.{ROWS}
use Rattle.algebra.specs.Search.{least, any_below}
use Rattle.algebra.specs.Matrix.{target}

-- so many entries are 2 ^ n, and n is 2 or more
abbrev pub is_power : ℕ → ℕ → Bool
is_power size n = leb 2 n && eqb size (2 ^ n)

-- the n in 2..ROWS for which so many entries are 2 ^ n, or ROWS + 1 where there is none
unfoldable pub bits_for : ℕ → ℕ
bits_for size = least (is_power size) (suc ROWS)

-- the length of the list isn't 2 ^ n for any n in 2..ROWS
unfoldable pub wrong_length : List ℕ → Bool
wrong_length list = not (any_below (is_power (length list)) (suc ROWS))

-- an entry is N or more, where N is the length of the list
unfoldable pub stray_entry : List ℕ → Bool
stray_entry list = any_below (λ x. leb (length list) (get_or list x 0)) (length list)

-- A and c give the list: entry x is Ax xor c, for every x
unfoldable pub gives : List ℕ → ℕ → List ℕ → Bool
gives rows c list = not (any_below (λ x. not (eqb (get_or list x 0) (target rows c x))) (length list))

-- ---- every matrix and complement of n bits. They are numbered: n + 1 numbers below 2 ^ n, which are c and the n rows, are the digits of one
-- number in base 2 ^ n, c the lowest. So there are (2 ^ n) ^ (n + 1) of them

-- the k lowest digits of v in base s, the lowest first
unfoldable pub digits_of : ℕ → ℕ → ℕ → List ℕ
digits_of s zero v = []
digits_of s (suc k) v = v % s ∷ digits_of s k (v / s)

-- the complement and the rows of number v
abbrev pub complement_in : ℕ → ℕ → ℕ
complement_in n v = v % 2 ^ n

abbrev pub rows_in : ℕ → ℕ → List ℕ
rows_in n v = digits_of (2 ^ n) n (v / 2 ^ n)

-- those of number v give the list
abbrev pub given_by : ℕ → List ℕ → ℕ → Bool
given_by n list v = gives (rows_in n v) (complement_in n v) list

-- some matrix and complement of n bits give the list
unfoldable pub is_given : ℕ → List ℕ → Bool
is_given n list = any_below (given_by n list) ((2 ^ n) ^ suc n)

-- the number of those that do
unfoldable pub giver : ℕ → List ℕ → ℕ
giver n list = least (given_by n list) ((2 ^ n) ^ suc n)
