-- How far is a list from the one that its entry 0 and its entries 2 ^ j ask for? Assumes nothing.
-- What proofs and inner contracts go by; the rules need none of it.
use Rattle.std.specs.Prelude.{List, ℕ, zero, suc, ◌%◌, ◌^◌, get_or}
use Rattle.std.specs.Int.Bits.{bit_or, bit_xor}
use Rattle.algebra.specs.Search.{listed}
use Rattle.algebra.specs.Carry.{place_by}

-- the most low bits of an address whose targets are worked out once, and how many those are
abbrev pub LOW-BITS : ℕ
LOW-BITS = 8

abbrev pub LOW : ℕ
LOW = 2 ^ LOW-BITS

-- every bit that one of f 0, f 1, .. f (k - 1) has
unfoldable pub all_bits : (ℕ → ℕ) → ℕ → ℕ
all_bits f zero = 0
all_bits f (suc k) = bit_or (all_bits f k) (f k)

-- column j of the only matrix that can give the list, as n bits: entry 2 ^ j, with entry 0 taken out
unfoldable pub column_of : List ℕ → ℕ → ℕ → ℕ
column_of list n j = bit_xor (get_or list (2 ^ j) 0) (get_or list 0 0) % 2 ^ n

-- its n columns
abbrev pub columns_of : List ℕ → ℕ → List ℕ
columns_of list n = listed (column_of list n) n 0

-- the only complement that can, as n bits: entry 0
abbrev pub base_of : List ℕ → ℕ → ℕ
base_of list n = get_or list 0 0 % 2 ^ n

-- what entry x differs by from the base and the columns that x picks
abbrev pub apart_at : List ℕ → ℕ → List ℕ → ℕ → ℕ
apart_at list base columns x = bit_xor (get_or list x 0) (place_by base columns x)
