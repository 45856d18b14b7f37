-- What is written for an order that is refused, in place of a listing? Assumes nothing.
use Rattle.std.specs.Prelude.{cond, List, [], ◌∷◌, ◌++◌, ℕ, eqb}
use Rattle.text.specs.Lines.{line, decimal}

abbrev pub refused_word : List ℕ
refused_word = 114 ∷ 101 ∷ 102 ∷ 117 ∷ 115 ∷ 101 ∷ 100 ∷ 32 ∷ []

-- one line: `refused K`, and with 3 a space and z
unfoldable pub refusal : ℕ → ℕ → List ℕ
refusal number z = line (refused_word ++ (decimal number ++ cond (eqb number 3) (32 ∷ decimal z) []))
