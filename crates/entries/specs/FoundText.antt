-- What is written for a list that is an order's? Assumes nothing.
use Rattle.std.specs.Prelude.{cond, List, [], ◌++◌, ℕ, leb, take}
use Rattle.bank.specs.Limits.{ROWS}
use Rattle.text.specs.Lines.{line, decimal, bits, row_lines}
use Rattle.lists.specs.declared.Recognised.{Recognised}

-- n rows and c, as an order text has them after its first line
abbrev pub matrix_lines : ℕ → List ℕ → ℕ → List ℕ
matrix_lines n rows c = row_lines n rows ++ line (bits n c)

-- n on a line of its own, and then the n rows and c; nothing where n is more than any matrix has
unfoldable pub found_text : Recognised → List ℕ
found_text found =
    cond (leb found.n ROWS) (line (decimal found.n) ++ matrix_lines found.n (take found.n found.rows) found.complement) []
