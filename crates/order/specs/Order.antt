-- Which orders are taken, and by which number is another refused? Assumes nothing.
use Rattle.std.specs.Prelude.{Bool, cond, not, ◌&&◌, ◌||◌, List, ℕ, ◌<◌, ◌^◌, eqb, leb, get_or, take}
use Rattle.bank.specs.Limits.{ROWS}
use Rattle.bank.specs.Geometry.{in_limits, records}
use Rattle.bank.specs.Checks.{refuse, or_later}
use Rattle.algebra.specs.Vector.{WORD}
use Rattle.algebra.specs.Search.{any_below}
use Rattle.algebra.specs.Matrix.{kernel, singular}
use Rattle.order.specs.declared.Order.{Order}
use Rattle.order.specs.declared.Verdict.{Verdict}

-- A: the first n rows
abbrev pub matrix_of : Order → List ℕ
matrix_of order = take order.geometry.n order.rows

-- the rows and the complement are words, as every order's are in code
pub record Words (order : Order) : Type 0 where
  pub row : (i : ℕ) → get_or order.rows i 0 < 2 ^ WORD
  pub complement : order.complement < 2 ^ WORD

-- a row of A has a bit at n or above
unfoldable pub stray_row : Order → Bool
stray_row order = any_below (λ i. leb (records order.geometry) (get_or order.rows i 0)) order.geometry.n

-- the complement has a bit at n or above
unfoldable pub stray_complement : Order → Bool
stray_complement order = leb (records order.geometry) order.complement

-- a row place beyond n isn't zero
unfoldable pub spare_row : Order → Bool
spare_row order = any_below (λ i. leb order.geometry.n i && not (eqb (get_or order.rows i 0) 0)) ROWS

-- the order isn't in good form
unfoldable pub bad_form : Order → Bool
bad_form order = stray_row order || stray_complement order || spare_row order

-- the number for the form alone: 1, the geometry is outside the limits; 2, the order isn't in good form; 0, neither
unfoldable pub form_number : Order → ℕ
form_number order = refuse (not (in_limits order.geometry)) 1 (refuse (bad_form order) 2 0)

-- the judgement of an order: the number for its form; then 3, A is singular; 0, it is taken
unfoldable pub judgement : Order → ℕ
judgement order = or_later (form_number order) (refuse (singular order.geometry.n (matrix_of order)) 3 0)

-- ---- why an order is singular

-- what goes with a number that is given for an order: with 3, z, the least nonzero address that A sends to zero; with every other number, 0
unfoldable pub z_with : ℕ → Order → ℕ
z_with number order = cond (eqb number 3) (kernel order.geometry.n (matrix_of order)) 0

-- a number and its z
abbrev pub with_z : ℕ → Order → Verdict
with_z number order = record { number = number; z = record { 0 = z_with number order } }

-- the judgement and its z
abbrev pub verdict : Order → Verdict
verdict order = with_z (judgement order) order
