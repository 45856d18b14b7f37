-- What is the text of a list of targets, and which list does a text give? Assumes nothing.
use Rattle.std.specs.Prelude.{◌≡◌, List, [], ◌∷◌, ◌++◌, ℕ, ◌^◌, ◌<◌, ◌≤◌, length, get_or, drop}
use Rattle.text.specs.Lines.{line, decimal}
use Rattle.words.specs.Says.{DIGITS}

-- each entry in decimal, a line for each
unfoldable pub list_text : List ℕ → List ℕ
list_text [] = []
list_text (v ∷ vs) = line (decimal v) ++ list_text vs

-- the text is, whole, that of a list whose entries have 1 to DIGITS digits
pub record IsText (text list : List ℕ) : Type 0 where
  pub short : (i : ℕ) → i < length list → get_or list i 0 < 10 ^ DIGITS
  pub is : text ≡ list_text list

-- reading a text into a room gives this number and so many entries, and leaves this in the room: 8, it is no list's; then 4, its list has no room;
-- 0, its entries, and then what was there
pub data ReadsList (text room : List ℕ) : ℕ → ℕ → List ℕ → Type 0 where
  unread : ((list : List ℕ) → IsText text list → ⊥) → ReadsList text room 8 0 room
  no_room : (list : List ℕ) → IsText text list → length room < length list → ReadsList text room 4 0 room
  taken : (list : List ℕ) → IsText text list → length list ≤ length room → ReadsList text room 0 (length list) (list ++ drop (length list) room)
