-- What is proved of texts of lists and of what is written, over the definitions that the calls' promises cite? Assumes nothing.
use mathlib.Core.Path.{◌≡◌, refl, sym, ap}
use mathlib.Core.List.{List, ◌++◌}
use Prim.Native.Nat.{ℕ, ◌≤◌}
use native.Mathlib.Omega.{arith}
use lib.ListN.{length, drop}
use lib.Seq.{drop-append_seam}
use Rattle.bank.specs.Limits.{ROWS}
use Rattle.bank.specs.declared.Geometry.{Geometry}
use Rattle.text.specs.Lines.{line, decimal}
use Rattle.reading.specs.OrderText.{first_line, order_text}
use Rattle.lists.specs.declared.Recognised.{Recognised}
use Rattle.entries.specs.ListText.{IsText, ReadsList, unread, no_room, taken}
use Rattle.entries.specs.FoundText.{found_text}
use Rattle.entries.specs.Outcome.{Outcome}
use Rattle.entries.proofs.Some.{some_list, by_list}
use Rattle.entries.proofs.Written.{found_parts}
use Rattle.entries.proofs.Passed.{passed_text, passed_whole}

-- a text is that of one list at most
text_of_one : {text u v : List ℕ} → IsText text u → IsText text v → u ≡ v
text_of_one {text} {u} {v} s t = sym (passed_whole text (length text) u (passed_text text u s) v t (omega arith))

-- ---- one outcome: what a text and a room give
one_outcome : (text room : List ℕ) (k j count other : ℕ) (a b : List ℕ) → ReadsList text room k count a → ReadsList text room j other b
    → (k ≡ j) × (count ≡ other) × (a ≡ b)
one_outcome text room k j count other a b (unread f) (unread g) = (refl, refl, refl)
one_outcome text room k j count other a b (unread f) (no_room v t h) = absurd (f v t)
one_outcome text room k j count other a b (unread f) (taken v t h) = absurd (f v t)
one_outcome text room k j count other a b (no_room u s l) (unread g) = absurd (g u s)
one_outcome text room k j count other a b (no_room u s l) (no_room v t h) = (refl, refl, refl)
one_outcome text room k j count other a b (no_room u s l) (taken v t h) = absurd (omega (arith, ap length (text_of_one s t)))
one_outcome text room k j count other a b (taken u s l) (unread g) = absurd (g u s)
one_outcome text room k j count other a b (taken u s l) (no_room v t h) = absurd (omega (arith, ap length (text_of_one s t)))
one_outcome text room k j count other a b (taken u s l) (taken v t h) =
    let e = text_of_one s t in
    (refl, ap length e, ap (λ (w : List ℕ). w ++ drop (length w) room) e)

-- ---- some outcome: a text and a room, whichever they are, give a number, a count and a room afterwards
some_outcome : (text room : List ℕ) → (k : ℕ) × (count : ℕ) × (after : List ℕ) × ReadsList text room k count after
some_outcome text room = by_list text room (some_list text)

-- ---- what is written is an order text but for its first line, which has n alone
order_as_text : (g : Geometry) (found : Recognised) → g.n ≡ found.n → found.n ≤ ROWS
    → order_text (record { geometry = g; rows = found.rows; complement = found.complement })
    ≡ first_line g ++ drop (length (line (decimal found.n))) (found_text found)
unfolding order_text
order_as_text g found e few = rw (e, found_parts found few, drop-append_seam (line (decimal found.n)))

pub outcome : Outcome
outcome = record { some = some_outcome; one = one_outcome; only = λ text u v. text_of_one; order_as_text = order_as_text }
