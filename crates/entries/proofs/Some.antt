-- Which list does a text give, if any? Assumes nothing.
use Rattle.std.specs.Prelude.{Option, Some, None}
use mathlib.Core.Path.{◌≡◌, sym, ap, ◌∙◌}
use mathlib.Core.Logic.{◌⊎◌, inl, inr, ⊎_elim}
use mathlib.Core.List.{List, [], ◌∷◌, ◌++◌, List-discrete}
use Prim.Native.Nat.{ℕ, zero, suc, ◌+◌, ◌-◌, ◌^◌, ◌<◌, ◌≤◌}
use native.Mathlib.Decide.{ℕ_discrete}
use native.Mathlib.Omega.{arith}
use lib.ListN.{length, drop}
use lib.Seq.{drop-append_seam, drop-drop}
use Rattle.algebra.proofs.Search.{le_or_lt, below_suc}
use Rattle.text.specs.Lines.{line, decimal}
use Rattle.words.specs.Says.{DIGITS}
use Rattle.entries.specs.ListText.{IsText, ReadsList, unread, no_room, taken}
use Rattle.entries.specs.Parsing.{EntryAt}
use Rattle.entries.proofs.Found.{entry_past}
use Rattle.entries.proofs.Passed.{Passed, passed_none, passed_more, passed_all, passed_bad}

-- ---- a number below n of which a fact holds, or that it holds of none
abbrev Below : (ℕ → Type 0) → ℕ → Type 0
Below P n = ((v : ℕ) × (v < n) × P v) ⊎ ((v : ℕ) → v < n → P v → ⊥)

module _ (P : ℕ → Type 0) (decide : (v : ℕ) → Dec (P v)) where
  one_more : (n : ℕ) → Below P n → Dec (P n) → Below P (suc n)
  one_more n (inl (v, h, p)) d = inl (v, omega arith, p)
  one_more n (inr f) (yes p) = inl (n, omega arith, p)
  one_more n (inr f) (no q) = inr (below_suc (λ v. P v → ⊥) n f q)

  some_below : (n : ℕ) → Below P n
  some_below zero = inr (λ v h. absurd (omega arith))
  some_below (suc n) = one_more n (some_below n) (decide n)

-- ---- an entry: of the numbers that are short enough each is tried
module _ (s : List ℕ) (at : ℕ) where
  abbrev past : ℕ → ℕ
  past v = at + length (line (decimal v))

  abbrev Stands : ℕ → Type 0
  Stands v = drop at s ≡ line (decimal v) ++ drop (past v) s

  -- what follows its line is what the text has past it
  stands : (v : ℕ) (rest : List ℕ) → drop at s ≡ line (decimal v) ++ rest → Stands v
  stands v rest e =
      let t = line (decimal v) in
      e ∙ ap (λ (l : List ℕ). t ++ l) (sym (drop-append_seam t rest) ∙ ap (drop (length t)) (sym e) ∙ drop-drop (length t) at s)

  -- an entry, or that none stands there
  abbrev SomeEntry : Type 0
  SomeEntry = (r : Option (ℕ × ℕ)) × EntryAt s at r

  by_number : Below Stands (10 ^ DIGITS) → SomeEntry
  by_number (inl (v, h, e)) = (Some (v, past v), (h, e))
  by_number (inr f) = (None, λ v rest h e. f v h (stands v rest e))

  some_entry : SomeEntry
  some_entry = by_number (some_below Stands (λ v. List-discrete ℕ_discrete _ _) (10 ^ DIGITS))

-- ---- the whole text
module _ (text : List ℕ) where
  -- a list whose text it is, or that it is none's
  abbrev SomeList : Type 0
  SomeList = ((list : List ℕ) × IsText text list) ⊎ ((list : List ℕ) → IsText text list → ⊥)

  -- from a place with k bytes left, or fewer: each entry takes some
  abbrev From : ℕ → Type 0
  From k = (at : ℕ) (done : List ℕ) → Passed text at done → length text - at ≤ k → SomeList

  by_entry : (k : ℕ) → From k → (at : ℕ) (done : List ℕ) → Passed text at done → length text - at ≤ suc k → at < length text → SomeEntry text at
      → SomeList
  by_entry k rest at done p few h (None, none) = inr (λ list t. passed_bad text at done p list t h none)
  by_entry k rest at done p few h (Some (v, e), entry) =
      rest e (done ++ (v ∷ [])) (passed_more text at done p v e entry) (omega (arith, entry_past text at v e entry))

  list_from : (k : ℕ) → From k
  list_from zero at done p few = inl (done, passed_all text at done p (omega arith))
  list_from (suc k) at done p few =
      ⊎_elim
      (λ (h : length text ≤ at). inl (done, passed_all text at done p h))
      (λ (h : at < length text). by_entry k (list_from k) at done p few h (some_entry text at))
      (le_or_lt (length text) at)

  pub some_list : SomeList
  some_list = list_from (length text) 0 [] (passed_none text) (omega arith)

  pub by_list : (room : List ℕ) → SomeList → (k : ℕ) × (count : ℕ) × (after : List ℕ) × ReadsList text room k count after
  by_list room (inl (list, t)) =
      ⊎_elim
      (λ (h : length list ≤ length room). (0, length list, list ++ drop (length list) room, taken list t h))
      (λ (h : length room < length list). (4, 0, room, no_room list t h))
      (le_or_lt (length list) (length room))
  by_list room (inr f) = (8, 0, room, unread f)
