-- Which entries do the lines passed say? Assumes nothing.
use Rattle.std.specs.Prelude.{Some, None}
use mathlib.Core.Path.{◌≡◌, refl, sym, ap, ◌∙◌}
use mathlib.Core.List.{List, [], ◌∷◌, ◌++◌, append_assoc, append-nil}
use Prim.Native.Nat.{ℕ, suc, ◌^◌, ◌<◌, ◌≤◌}
use native.Mathlib.Omega.{arith}
use borrow.Author.Count.{below_more}
use lib.ListN.{length, get_or, drop, length-append, length-drop, drop_of_length-le, get_or-append}
use lib.Seq.{drop-length, get_or-append_seam}
use Rattle.text.specs.Lines.{line, decimal}
use Rattle.text.proofs.LineEnds.{same_decimals}
use Rattle.words.specs.Says.{DIGITS}
use Rattle.entries.specs.ListText.{list_text, IsText}
use Rattle.entries.specs.Parsing.{EntryAt}

-- ---- texts of lists
abbrev Short : List ℕ → Type 0
Short list = (i : ℕ) → i < length list → get_or list i 0 < 10 ^ DIGITS

short_more : (list : List ℕ) (v : ℕ) → Short list → v < 10 ^ DIGITS → Short (list ++ (v ∷ []))
short_more list v f h i l =
    below_more (λ i. get_or (list ++ (v ∷ [])) i 0 < 10 ^ DIGITS) (length list)
    (λ i b. rw (get_or-append list (v ∷ []) 0 i b) (f i b)) (rw (get_or-append_seam list v [] 0) h) i
    (omega (arith, length-append list (v ∷ [])))

-- an entry at the end
text_more : (list : List ℕ) (v : ℕ) → list_text (list ++ (v ∷ [])) ≡ list_text list ++ line (decimal v)
unfolding list_text
text_more [] v = append-nil (line (decimal v))
text_more (u ∷ us) v = rw (text_more us v) (sym (append_assoc (line (decimal u)) (list_text us) (line (decimal v))))

-- what follows a list in one that begins with it
record Rest (done list after : List ℕ) : Type 0 where
  pub rest : List ℕ
  pub list_is : list ≡ done ++ rest
  pub text_is : after ≡ list_text rest
  pub short : Short rest

-- a list whose text begins with another's begins with that list
begins : (done list after : List ℕ) → Short done → Short list → list_text list ≡ list_text done ++ after → Rest done list after
unfolding list_text
begins [] list after f g e = record { rest = list; list_is = refl; text_is = sym e; short = g }
begins (u ∷ us) [] after f g e = absurd (omega (arith, simp length-append at (ap length e)))
begins (u ∷ us) (v ∷ vs) after f g e =
    let first = same_decimals v u (list_text vs) (list_text us ++ after) (omega (arith, g 0 (omega arith))) (omega (arith, f 0 (omega arith)))
    (e ∙ append_assoc (line (decimal u)) (list_text us) after) in
    let r = begins us vs after (λ i h. f (suc i) (omega arith)) (λ i h. g (suc i) (omega arith)) first.1 in
    record { rest = r.rest; list_is = cc (r.list_is, first.0); text_is = r.text_is; short = r.short }

-- ---- the lines before place at are those of a list
pub record Passed (text : List ℕ) (at : ℕ) (done : List ℕ) : Type 0 where
  pub short : Short done
  pub is : text ≡ list_text done ++ drop at text

pub passed_none : (text : List ℕ) → Passed text 0 []
unfolding list_text
passed_none text = record { short = λ i h. absurd (omega arith); is = refl }

-- the whole text of a list
pub passed_text : (text list : List ℕ) → IsText text list → Passed text (length text) list
passed_text text list t = record { short = t.short; is = t.is ∙ rw (drop-length text) (sym (append-nil (list_text list))) }

-- a text with nothing in it is that of the list with no entries
text_empty : (list : List ℕ) → list_text list ≡ [] → list ≡ []
unfolding list_text
text_empty [] e = refl
text_empty (v ∷ vs) e = absurd (omega (arith, simp length-append at (ap length e)))

-- what is left of a list whose text goes on: an entry, and what is left after it
record Next (done list after : List ℕ) : Type 0 where
  pub entry : ℕ
  pub others : List ℕ
  pub short : entry < 10 ^ DIGITS
  pub list_is : list ≡ done ++ (entry ∷ others)
  pub text_is : after ≡ line (decimal entry) ++ list_text others

next : (done list after : List ℕ) → 0 < length after → (rest : List ℕ) → list ≡ done ++ rest → after ≡ list_text rest → Short rest
    → Next done list after
unfolding list_text
next done list after h [] e f g = absurd (omega (arith, ap length f))
next done list after h (v ∷ vs) e f g = record { entry = v; others = vs; short = g 0 (omega arith); list_is = e; text_is = f }

module _ (text : List ℕ) (at : ℕ) (done : List ℕ) (p : Passed text at done) where
  pub passed_more : (v k : ℕ) → EntryAt text at (Some (v, k)) → Passed text k (done ++ (v ∷ []))
  passed_more v k entry =
      record {
        short = short_more done v p.short entry.0;
        is = p.is ∙ rw (entry.1, text_more done v) (sym (append_assoc (list_text done) (line (decimal v)) (drop k text)));
      }

  pub passed_all : length text ≤ at → IsText text done
  passed_all h =
      record { short = p.short; is = p.is ∙ rw (drop_of_length-le text h) (append-nil (list_text done)) }

  module _ (list : List ℕ) (t : IsText text list) where
    left : Rest done list (drop at text)
    left = begins done list (drop at text) p.short t.short (sym t.is ∙ p.is)

    -- where nothing is left to read, the list is whole
    pub passed_whole : length text ≤ at → list ≡ done
    passed_whole h =
        left.list_is
        ∙ rw (text_empty left.rest (sym left.text_is ∙ drop_of_length-le text h)) (append-nil done)

    following : at < length text → Next done list (drop at text)
    following h = next done list (drop at text) (omega (arith, length-drop at text)) left.rest left.list_is left.text_is left.short

    -- and where something is, it has another entry, which stands there
    pub passed_fewer : at < length text → length done < length list
    passed_fewer h = let n = following h in omega (arith, ap length n.list_is ∙ length-append done (n.entry ∷ n.others))

    pub passed_bad : at < length text → EntryAt text at None → ⊥
    passed_bad h none = let n = following h in none n.entry (list_text n.others) n.short n.text_is
