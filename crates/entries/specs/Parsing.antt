-- What does a reader find at a place of a text? Assumes nothing.
-- What proofs and inner contracts go by; the rules need none of it.
use Rattle.std.specs.Prelude.{◌≡◌, List, ◌++◌, ℕ, ◌^◌, ◌<◌, length, drop, Option, Some, None}
use Rattle.text.specs.Lines.{line, decimal}
use Rattle.words.specs.Says.{DIGITS}
use Rattle.entries.specs.ListText.{IsText}

-- an entry: v, whose line ends before place k; or none stands there
abbrev pub EntryAt : List ℕ → ℕ → Option (ℕ × ℕ) → Type 0
EntryAt s at (Some (v, k)) = (v < 10 ^ DIGITS) × (drop at s ≡ line (decimal v) ++ drop k s)
EntryAt s at None = (v : ℕ) (rest : List ℕ) → v < 10 ^ DIGITS → drop at s ≡ line (decimal v) ++ rest → ⊥

-- the text is that of a list with so many entries
abbrev pub HasLength : List ℕ → ℕ → Type 0
HasLength text count = (list : List ℕ) × IsText text list × (count ≡ length list)

-- so many, or that it is that of none
abbrev pub CountedAs : List ℕ → Option ℕ → Type 0
CountedAs text (Some count) = HasLength text count
CountedAs text None = (list : List ℕ) → IsText text list → ⊥
