-- Which orders are tried by name? Assumes nothing.
use Rattle.std.specs.Prelude.{◌∷◌, ℕ, ◌-◌, replicate}
use Rattle.algebra.specs.Matrix.{identity}
use Rattle.bank.specs.Limits.{ROWS}
use Rattle.bank.specs.declared.Geometry.{Geometry}
use Rattle.order.specs.declared.Order.{Order}

-- four rows and a complement; every other row place is zero
abbrev pub four_rows : Geometry → ℕ → ℕ → ℕ → ℕ → ℕ → Order
four_rows g r0 r1 r2 r3 c = record { geometry = g; rows = r0 ∷ (r1 ∷ (r2 ∷ (r3 ∷ replicate (ROWS - 4) 0))); complement = c }

-- G of the trials
abbrev pub G : Geometry
G = record { n = 4; b = 1; d = 1; m = 2; r = 8 }

abbrev pub reversal_order : Order
reversal_order = four_rows G 8 4 2 1 0

abbrev pub identity_order : ℕ → Order
identity_order c = four_rows G 1 2 4 8 c

abbrev pub gray_order : Order
gray_order = four_rows G 3 6 12 8 0

abbrev pub exchange_order : Order
exchange_order = four_rows G 4 8 1 2 0

-- two rows, on the smallest bank
abbrev pub two_rows : ℕ → ℕ → Order
two_rows r0 r1 = four_rows (record { n = 2; b = 0; d = 0; m = 1; r = 8 }) r0 r1 0 0 0

abbrev pub small_order : Order
small_order = two_rows 2 1

-- as many rows as there is room for, which leave every record where it is
abbrev pub largest_order : ℕ → ℕ → Order
largest_order n r = record { geometry = record { n = n; b = 6; d = 2; m = 14; r = r }; rows = identity ROWS; complement = 0 }
