-- When is a list of targets an order's? In words, where Targets searches. Assumes nothing.
use Rattle.std.specs.Prelude.{◌≡◌, false, List, ◌⊎◌, ℕ, ◌^◌, ◌<◌, ◌≤◌, length, get_or}
use Rattle.bank.specs.Limits.{ROWS}
use Rattle.algebra.specs.Matrix.{singular, target}

-- the list has 2 ^ n entries, for an n in 2..ROWS
pub record Sized (list : List ℕ) (n : ℕ) : Type 0 where
  pub from : 2 ≤ n
  pub upto : n ≤ ROWS
  pub length_is : length list ≡ 2 ^ n

-- x is an address of the list, and its entry is as large as the list is long
pub record Large (list : List ℕ) (x : ℕ) : Type 0 where
  pub there : x < length list
  pub large : length list ≤ get_or list x 0

-- the length isn't 2 ^ n for any n in 2..ROWS, or an entry is N or more
abbrev pub Misshapen : List ℕ → Type 0
Misshapen list = ((n : ℕ) → Sized list n → ⊥) ⊎ ((x : ℕ) × Large list x)

-- a matrix and a complement of n bits: n rows, and no bit at n or above in a row or in c
pub record OfBits (n : ℕ) (rows : List ℕ) (c : ℕ) : Type 0 where
  pub long : length rows ≡ n
  pub below : (i : ℕ) → i < n → get_or rows i 0 < 2 ^ n
  pub complement : c < 2 ^ n

-- A and c, of n bits, give the list: it has 2 ^ n entries, and entry x is Ax xor c for every x
pub record GivenBy (list : List ℕ) (n : ℕ) (rows : List ℕ) (c : ℕ) : Type 0 where
  pub sized : Sized list n
  pub of_bits : OfBits n rows c
  pub entry : (x : ℕ) → x < length list → get_or list x 0 ≡ target rows c x

-- some matrix and complement do
pub record Given (list : List ℕ) : Type 0 where
  pub n : ℕ
  pub rows : List ℕ
  pub c : ℕ
  pub by : GivenBy list n rows c

-- some regular matrix and some complement do
pub record RegularlyGiven (list : List ℕ) : Type 0 where
  pub given : Given list
  pub regular : singular given.n given.rows ≡ false

-- two entries of the list are equal
pub record Twice (list : List ℕ) : Type 0 where
  pub x : ℕ
  pub y : ℕ
  pub x_there : x < length list
  pub y_there : y < length list
  pub different : x ≡ y → ⊥
  pub equal : get_or list x 0 ≡ get_or list y 0

-- z is the first address after 0 whose entry is that of 0: the least nonzero address that A sends to zero
pub record FirstAgain (list : List ℕ) (z : ℕ) : Type 0 where
  pub nonzero : 0 < z
  pub there : z < length list
  pub again : get_or list z 0 ≡ get_or list 0 0
  pub first : (y : ℕ) → 0 < y → y < z → get_or list y 0 ≡ get_or list 0 0 → ⊥
