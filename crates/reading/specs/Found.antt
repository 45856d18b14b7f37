-- What does a reader promise of rows, and of all that follows the first line? Assumes nothing.
-- What proofs and inner contracts go by; the rules need none of it.
use Rattle.std.specs.Prelude.{◌≡◌, false, List, ◌++◌, ℕ, ◌^◌, ◌<◌, ◌≤◌, length, get_or, take, drop, Option, Some, None}
use Rattle.bank.specs.Limits.{ROWS}
use Rattle.bank.specs.declared.Geometry.{Geometry}
use Rattle.order.specs.declared.Order.{Order}
use Rattle.order.specs.Order.{matrix_of, bad_form}
use Rattle.text.specs.Lines.{line, bits, row_lines}

-- a row of n bits: v, whose line ends before place k; or none stands there
abbrev pub RowAt : List ℕ → ℕ → ℕ → Option (ℕ × ℕ) → Type 0
RowAt s at n (Some (v, k)) = (v < 2 ^ n) × (drop at s ≡ line (bits n v) ++ drop k s)
RowAt s at n None = (v : ℕ) (rest : List ℕ) → drop at s ≡ line (bits n v) ++ rest → ⊥

-- the first i of the rows are rows of n bits, the places beyond them zero, and their lines end before place k
pub record RowsFound (s : List ℕ) (at n i : ℕ) (rows : List ℕ) (k : ℕ) : Type 0 where
  pub room : length rows ≡ ROWS
  pub below : (j : ℕ) → j < i → get_or rows j 0 < 2 ^ n
  pub spare : (j : ℕ) → i ≤ j → get_or rows j 0 ≡ 0
  pub is : drop at s ≡ row_lines n (take i rows) ++ drop k s

-- no n rows of n bits stand at the place
abbrev pub NoRows : List ℕ → ℕ → ℕ → Type 0
NoRows s at n = (vs rest : List ℕ) → length vs ≡ n → drop at s ≡ row_lines n vs ++ rest → ⊥

abbrev pub RowsAt : List ℕ → ℕ → ℕ → Option (List ℕ × ℕ) → Type 0
RowsAt s at n (Some (rows, k)) = RowsFound s at n n rows k
RowsAt s at n None = NoRows s at n

-- what follows the first line of g is that of an order, and nothing more
pub record RestFound (s : List ℕ) (at : ℕ) (g : Geometry) (order : Order) : Type 0 where
  pub geometry : order.geometry ≡ g
  pub room : length order.rows ≡ ROWS
  pub form : bad_form order ≡ false
  pub is : drop at s ≡ row_lines g.n (matrix_of order) ++ line (bits g.n order.complement)

-- it is that of none
abbrev pub NoRest : List ℕ → ℕ → Geometry → Type 0
NoRest s at g = (other : Order) → other.geometry ≡ g → length other.rows ≡ ROWS
    → drop at s ≡ row_lines g.n (matrix_of other) ++ line (bits g.n other.complement) → ⊥

abbrev pub RestAt : List ℕ → ℕ → Geometry → Option Order → Type 0
RestAt s at g (Some order) = RestFound s at g order
RestAt s at g None = NoRest s at g
