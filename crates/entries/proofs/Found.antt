-- Which entry does a reader find at a place? Assumes nothing.
use Rattle.std.specs.Prelude.{Option, Some, None, ◌==◌}
use Rattle.std.specs.List.{position, position_or_len, slice_range}
use Rattle.std.proofs.lemmas.List.Quantifiers.{position-Some}
use Rattle.std.proofs.lemmas.List.Sums.{fails_before_first}
use Rattle.std.proofs.lemmas.Grind.{common_steps}
use mathlib.Core.Path.{◌≡◌, sym, ap, ◌∙◌}
use mathlib.Core.List.{List, ◌∷◌, ◌++◌}
use mathlib.Core.Bool.{true, false}
use Prim.Native.Nat.{ℕ, suc, ◌+◌, ◌-◌, ◌<◌}
use native.Mathlib.Omega.{arith}
use borrow.Author.Tests.{eqb-true, eqb-false}
use lib.ListN.{length, get_or, drop, take, length-append, length-drop}
use lib.Seq.{append_snoc, drop-drop, get_or-append_seam, get_or-drop, get_or-take, length-take-le, split_at, take_all}
use Rattle.text.specs.Lines.{line, decimal}
use Rattle.text.proofs.LineEnds.{Unended, decimal_unended, same_lines}
use Rattle.words.specs.Says.{Says}
use Rattle.words.proofs.Numbers.{says_number, says_none}
use Rattle.entries.specs.Parsing.{EntryAt}

-- ---- an entry's line
module _ (s : List ℕ) (at v : ℕ) (rest : List ℕ) (is : drop at s ≡ line (decimal v) ++ rest) where
  flat : drop at s ≡ decimal v ++ (10 ∷ rest)
  flat = is ∙ append_snoc (decimal v) 10 rest

  -- its end stands in the text
  end_in : at + length (decimal v) < length s
  end_in = omega (arith, sym (length-drop at s) ∙ ap length flat ∙ length-append (decimal v) (10 ∷ rest))

  ends : get_or s (at + length (decimal v)) 0 ≡ 10
  ends =
      sym (get_or-drop at s (length (decimal v)) 0) ∙ ap (λ (l : List ℕ). get_or l (length (decimal v)) 0) flat
      ∙ get_or-append_seam (decimal v) 10 rest 0

-- past it less of the text is left
pub entry_past : (s : List ℕ) (at v k : ℕ) → EntryAt s at (Some (v, k)) → length s - k < length s - at
entry_past s at v k entry =
    let long = ap length (flat s at v (drop k s) entry.1) ∙ length-append (decimal v) (10 ∷ drop k s) in
    omega (arith, length-drop at s, length-drop k s, long)

-- what is left from a place on
pub left_is : (s : List ℕ) (at : ℕ) → slice_range s at (length s) ≡ drop at s
left_is s at = take_all (length s - at) (drop at s) (omega (arith, length-drop at s))

-- ---- what is found
-- the place of the first LF
abbrev pub LineEnds : List ℕ → Option ℕ → Type 0
LineEnds rest r = position (λ x. x == 10) rest ≡ r

-- where there is none, no byte is LF
no_end : (rest : List ℕ) → LineEnds rest None → (k : ℕ) → k < length rest → get_or rest k 0 ≡ 10 → ⊥
no_end rest none k h e =
    let all : k < position_or_len (λ x. x == 10) rest = grind (arith, common_steps) in
    eqb-false _ _ (fails_before_first (λ x. x == 10) rest k 0 all) e

module _ (s : List ℕ) (at : ℕ) where
  pub none_open : LineEnds (drop at s) None → EntryAt s at None
  none_open none v rest short is =
      let k = length (decimal v) in
      no_end (drop at s) none k (omega (arith, end_in s at v rest is, length-drop at s)) (get_or-drop at s k 0 ∙ ends s at v rest is)

  -- a line that has its LF
  module _ (r : ℕ) (l : LineEnds (drop at s) (Some r)) where
    found : (r < length (drop at s)) × ((get_or (drop at s) r 0 == 10) ≡ true) × ((k : ℕ) → k < r → (get_or (drop at s) k 0 == 10) ≡ false)
    found = position-Some (λ x. x == 10) (drop at s) r 0 l

    line_is : drop at s ≡ take r (drop at s) ++ (10 ∷ drop (at + r + 1) s)
    line_is =
        let ten : get_or (drop at s) r 0 ≡ 10 = eqb-true _ _ found.1 in
        let past : at + suc r ≡ at + r + 1 = omega arith in
        split_at (drop at s) r 0 found.0 ∙ rw (ten, drop-drop (suc r) at s, past)

    word_unended : Unended (take r (drop at s))
    word_unended j b e =
        let low : j < r = omega (arith, length-take-le r (drop at s) (omega (arith, found.0))) in
        eqb-false _ _ (found.2 j low) (sym (get_or-take r (drop at s) j 0 low) ∙ e)

    pub none_said : Says (take r (drop at s)) None → EntryAt s at None
    none_said w v rest short is =
        says_none _ w v short
        (same_lines _ (decimal v) _ rest word_unended (decimal_unended v (omega arith)) (sym line_is ∙ flat s at v rest is)).0

    pub value_said : (v : ℕ) → Says (take r (drop at s)) (Some v) → EntryAt s at (Some (v, at + r + 1))
    value_said v w =
        let said = says_number _ v w in
        (said.0, line_is ∙ rw said.1 (sym (append_snoc (decimal v) 10 _)))
