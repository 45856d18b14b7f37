-- What does one elimination answer about a matrix and an address? Assumes nothing.
-- What proofs and inner contracts go by; the rules need none of it.
use Rattle.std.specs.Prelude.{◌≡◌, true, false, cond, List, ℕ, Result, Ok, Err}
use Rattle.bank.specs.Limits.{ROWS}
use Rattle.algebra.specs.Elimination.{built}
use Rattle.algebra.specs.Matrix.{columns, kernel, singular, source}
use Rattle.elimination.specs.Echelon.{echelon_of}
use Rattle.elimination.specs.declared.echelon.Echelon.{Echelon}

-- where the matrix of n rows is regular, the entries of all its columns; and else the least nonzero vector that it sends to zero
abbrev pub Swept : ℕ → List ℕ → Result Echelon ℕ → Type 0
Swept n rows (Ok e) = (singular n rows ≡ false) × (echelon_of e ≡ built ROWS (columns n rows) n)
Swept n rows (Err z) = (singular n rows ≡ true) × (z ≡ kernel n rows)

-- the source of y, or the least nonzero vector that the matrix sends to zero where there is one
unfoldable pub solved_for : ℕ → List ℕ → ℕ → ℕ → Result ℕ ℕ
solved_for n rows c y = cond (singular n rows) (Err (kernel n rows)) (Ok (source n rows c y))
