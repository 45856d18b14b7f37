-- Which number does a word say? Assumes nothing.
use Rattle.std.specs.Prelude.{◌≡◌, List, ℕ, ◌^◌, ◌<◌, Option, Some, None}
use Rattle.text.specs.Lines.{decimal}

-- the most digits that a number has here: enough for 32 bits
abbrev pub DIGITS : ℕ
DIGITS = 10

-- a word says the number whose decimal it is, and any other word says none
pub data Says (word : List ℕ) : Option ℕ → Type 0 where
  number : (v : ℕ) → v < 10 ^ DIGITS → word ≡ decimal v → Says word (Some v)
  none : ((v : ℕ) → v < 10 ^ DIGITS → word ≡ decimal v → ⊥) → Says word None

-- and it says one thing only
abbrev pub OneSaid : Type 0
OneSaid = (word : List ℕ) (a b : Option ℕ) → Says word a → Says word b → a ≡ b
