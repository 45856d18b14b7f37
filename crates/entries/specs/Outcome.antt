-- What is true of a text that is read, and of what is written? Assumes nothing.
use Rattle.std.specs.Prelude.{◌≡◌, List, ◌++◌, ℕ, ◌≤◌, length, drop}
use Rattle.bank.specs.Limits.{ROWS}
use Rattle.bank.specs.declared.Geometry.{Geometry}
use Rattle.text.specs.Lines.{line, decimal}
use Rattle.reading.specs.OrderText.{first_line, order_text}
use Rattle.lists.specs.declared.Recognised.{Recognised}
use Rattle.entries.specs.ListText.{IsText, ReadsList}
use Rattle.entries.specs.FoundText.{found_text}

pub record Outcome : Type 0 where
  -- a text and a room have an outcome, and one only
  pub some : (text room : List ℕ) → (k : ℕ) × (count : ℕ) × (after : List ℕ) × ReadsList text room k count after
  pub one : (text room : List ℕ) (k j count other : ℕ) (a b : List ℕ) → ReadsList text room k count a → ReadsList text room j other b
      → (k ≡ j) × (count ≡ other) × (a ≡ b)
  -- a text is that of one list at most
  pub only : (text u v : List ℕ) → IsText text u → IsText text v → u ≡ v
  -- what is written for a list becomes the text of its order when the first line is exchanged
  pub order_as_text : (g : Geometry) (found : Recognised) → g.n ≡ found.n → found.n ≤ ROWS
      → order_text (record { geometry = g; rows = found.rows; complement = found.complement })
      ≡ first_line g ++ drop (length (line (decimal found.n))) (found_text found)
