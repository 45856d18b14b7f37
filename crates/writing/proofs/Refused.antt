-- Which line does a refusal have, and what does its room hold? Assumes nothing.
use mathlib.Core.Path.{◌≡◌, sym, ap, ap₂, ◌∙◌}
use mathlib.Core.Bool.{Bool, cond}
use mathlib.Core.List.{List, [], ◌∷◌, ◌++◌, append-nil}
use Prim.Native.Nat.{ℕ, ◌+◌, ◌≤◌}
use native.Mathlib.Omega.{arith}
use borrow.Author.Tests.{ne_eqb}
use lib.ListN.{length, take, drop}
use lib.Seq.{length-take-le}
use Rattle.text.specs.Lines.{line, decimal}
use Rattle.text.proofs.Decimals.{decimal_one}
use Rattle.writing.specs.Refusal.{refusal, refused_word}
use Rattle.writing.specs.Written.{Wrote, put}
use Rattle.writing.proofs.Put.{wrote_length}

-- with 3: the word, the number and a space, and z
pub three_line : (number z : ℕ) → number ≡ 3 → line ((refused_word ++ (51 ∷ 32 ∷ [])) ++ decimal z) ≡ refusal number z
unfolding refusal
three_line number z e = rw (e, decimal_one 3 (omega arith))

pub other_line : (number z : ℕ) → (number ≡ 3 → ⊥) → line (refused_word ++ decimal number) ≡ refusal number z
unfolding refusal
other_line number z f =
    ap (λ (l : List ℕ). line (refused_word ++ l)) (sym (append-nil (decimal number)))
    ∙ ap (λ (t : Bool). line (refused_word ++ (decimal number ++ cond t (32 ∷ decimal z) []))) (sym (ne_eqb number 3 f))

-- a line that is written at the start of its room
pub line-written : (t u room after : List ℕ) (past : ℕ) → t ≡ u → length t ≤ length room → Wrote room 0 t after past
    → (past ≡ length u) × (past ≤ length after) × (past ≡ length (take past after)) × (after ≡ u ++ drop (length u) room)
unfolding put
line-written t u room after past e h w =
    let z : 0 + length t ≡ length t = omega arith in
    let few : past ≤ length after = omega (arith, w.place, wrote_length w (omega arith)) in
    (w.place ∙ z ∙ ap length e, few, sym (length-take-le past after few), w.is ∙ ap₂ (λ (k : ℕ) (l : List ℕ). l ++ drop k room) (z ∙ ap length e) e)
