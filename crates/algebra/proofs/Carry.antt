-- How does a place come from the one before it? Assumes nothing.
use mathlib.Core.Path.{◌≡◌, refl, sym, ap, ap₂, ◌∙◌}
use mathlib.Core.Logic.{⊎_elim}
use mathlib.Core.Bool.{Bool, cond}
use mathlib.Core.List.{List, [], ◌∷◌}
use Prim.Native.Nat.{ℕ, suc, ◌+◌, ◌/◌, ◌%◌, ◌≤◌, ◌<◌}
use native.Mathlib.Nat.{eq-zero-or-pos}
use native.Mathlib.Numerals.{add-one}
use native.Mathlib.Omega.{arith}
use borrow.Author.Tests.{eq-eqb, ne_eqb}
use lib.Bits.{bit_xor, xor_comm, xor_self, xor_zero_r}
use lib.ListN.{length, get_or, drop, drop_of_length-le}
use lib.Seq.{drop-cons}
use Rattle.algebra.proofs.Digits.{unless_no, xor_assoc}
use Rattle.algebra.proofs.Linear.{comb-zero}
use Rattle.algebra.proofs.Loops.{unless_not}
use Rattle.algebra.specs.Carry.{flips, place_by}
use Rattle.algebra.specs.Vector.{comb}

flips_even : (c : ℕ) (cs : List ℕ) (x : ℕ) → x % 2 ≡ 0 → flips (c ∷ cs) x ≡ c
unfolding flips
flips_even c cs x h = ap (λ (b : Bool). bit_xor c (cond b 0 (flips cs (x / 2)))) (eq-eqb (x % 2) 0 h) ∙ xor_zero_r c

flips_odd : (c : ℕ) (cs : List ℕ) (x : ℕ) → (x % 2 ≡ 0 → ⊥) → flips (c ∷ cs) x ≡ bit_xor c (flips cs (x / 2))
unfolding flips
flips_odd c cs x h = ap (λ (b : Bool). bit_xor c (cond b 0 (flips cs (x / 2)))) (ne_eqb (x % 2) 0 h)

-- c twice is nothing
twice : (c a f : ℕ) → bit_xor (bit_xor c a) (bit_xor c f) ≡ bit_xor a f
twice c a f =
    ap (λ (n : ℕ). bit_xor n (bit_xor c f)) (xor_comm c a) ∙ xor_assoc a c (bit_xor c f)
    ∙ ap (bit_xor a) (sym (xor_assoc c c f) ∙ ap (λ (n : ℕ). bit_xor n f) (xor_self c))

-- the columns of k, changed by the flips, are those of k + 1
comb_next : (cols : List ℕ) (k : ℕ) → bit_xor (comb cols k) (flips cols k) ≡ comb cols (k + 1)
unfolding comb flips
comb_next [] k = refl
comb_next (c ∷ cs) k =
    ⊎_elim
    (λ (e : k % 2 ≡ 0). ap₂ bit_xor (ap (λ (n : ℕ). bit_xor n (comb cs (k / 2))) (unless_no (k % 2) c e)) (flips_even c cs k e)
    ∙ xor_comm (comb cs (k / 2)) c
    ∙ ap₂ bit_xor (unless_not ((k + 1) % 2) c (λ z. omega arith)) (ap (comb cs) (omega arith)))
    (λ (h : 0 < k % 2).
    ap₂ bit_xor (ap (λ (n : ℕ). bit_xor n (comb cs (k / 2))) (sym (unless_not (k % 2) c (λ z. omega arith)))) (flips_odd c cs k (λ z. omega arith))
    ∙ twice c (comb cs (k / 2)) (flips cs (k / 2))
    ∙ comb_next cs (k / 2)
    ∙ ap (comb cs) (omega arith)
    ∙ ap (λ (n : ℕ). bit_xor n (comb cs ((k + 1) / 2))) (sym (unless_no ((k + 1) % 2) c (omega arith))))
    (eq-zero-or-pos (k % 2))

-- place k + 1 from place k
pub place_next : (base : ℕ) (cols : List ℕ) (k : ℕ) → bit_xor (place_by base cols k) (flips cols k) ≡ place_by base cols (k + 1)
place_next base cols k = xor_assoc base (comb cols k) (flips cols k) ∙ ap (bit_xor base) (comb_next cols k)

pub place_zero : (base : ℕ) (cols : List ℕ) → base ≡ place_by base cols 0
place_zero base cols = sym (ap (bit_xor base) (comb-zero cols) ∙ xor_zero_r base)

-- ---- an iteration of the walk, and its ways out

at_drop : (cols : List ℕ) (j x : ℕ) → j < length cols → flips (drop j cols) x ≡ flips (get_or cols j 0 ∷ drop (suc j) cols) x
at_drop cols j x h = ap (λ (l : List ℕ). flips l x) (drop-cons cols j 0 h)

pub walk_stop : (cols : List ℕ) (s x j : ℕ) → j < length cols → x % 2 ≡ 0 → bit_xor s (get_or cols j 0) ≡ bit_xor s (flips (drop j cols) x)
walk_stop cols s x j h e = ap (bit_xor s) (sym (at_drop cols j x h ∙ flips_even (get_or cols j 0) (drop (suc j) cols) x e))

pub walk_on : (cols : List ℕ) (s x j : ℕ) → j < length cols → (x % 2 ≡ 0 → ⊥)
    → bit_xor (bit_xor s (get_or cols j 0)) (flips (drop (j + 1) cols) (x / 2)) ≡ bit_xor s (flips (drop j cols) x)
walk_on cols s x j h e =
    xor_assoc s (get_or cols j 0) (flips (drop (j + 1) cols) (x / 2))
    ∙ ap (bit_xor s)
    (ap (λ (n : ℕ). bit_xor (get_or cols j 0) (flips (drop n cols) (x / 2))) (add-one j)
    ∙ sym (at_drop cols j x h ∙ flips_odd (get_or cols j 0) (drop (suc j) cols) x e))

pub walk_end : (cols : List ℕ) (s x j : ℕ) → length cols ≤ j → bit_xor s (flips (drop j cols) x) ≡ s
unfolding flips
walk_end cols s x j h = ap (λ (l : List ℕ). bit_xor s (flips l x)) (drop_of_length-le cols h) ∙ xor_zero_r s
