-- What is the text of an order? Assumes nothing.
use Rattle.std.specs.Prelude.{List, ◌∷◌, ◌++◌, ℕ, ◌+◌, ◌*◌}
use Rattle.bank.specs.Limits.{ROWS}
use Rattle.bank.specs.declared.Geometry.{Geometry}
use Rattle.order.specs.declared.Order.{Order}
use Rattle.order.specs.Order.{matrix_of}
use Rattle.text.specs.Lines.{line, decimal, bits, row_lines}

-- the first line: n b d m R, one space between
unfoldable pub first_line : Geometry → List ℕ
first_line g = line (decimal g.n ++ (32 ∷ decimal g.b ++ (32 ∷ decimal g.d ++ (32 ∷ decimal g.m ++ (32 ∷ decimal g.r)))))

-- then n rows of n characters, column 0 first, then c the same way, bit 0 first
unfoldable pub order_text : Order → List ℕ
order_text order = first_line order.geometry ++ (row_lines order.geometry.n (matrix_of order) ++ line (bits order.geometry.n order.complement))

-- more bytes than the text of an order inside the limits has: its first line has at most 20, five numbers of at most three digits
-- and the byte after each, and then come at most ROWS + 1 lines of at most ROWS + 1 bytes
abbrev pub TEXT : ℕ
TEXT = 20 + (ROWS + 1) * (ROWS + 1) + 1
