-- What does each column get, when the lowest place that is left goes to each, one after the other? Assumes nothing.
use mathlib.Core.Path.{◌∙◌, ◌≡◌, ap, ap₂, refl, sym}
use mathlib.Core.Bool.{Bool, false, true, cond}
use mathlib.Core.Logic.{⊎_elim}
use mathlib.Core.List.{List, [], ◌∷◌}
use Prim.Native.Nat.{◌+◌, ◌-◌, ◌<◌, ◌^◌, ◌≤◌, suc, ℕ}
use native.Mathlib.Nat.{eq-zero-or-pos, le_refl}
use native.Mathlib.Numerals.{add-one}
use native.Mathlib.Omega.{arith}
use lib.Bits.{bit_xor, xor_lt, xor_zero_r}
use lib.Count.{count_trailing_zeros}
use lib.Pow.{pow-lt, pow_pos}
use borrow.Author.Tests.{eq-eqb, ne_eqb}
use Rattle.algebra.proofs.Digits.{unless_lt, unless_no}
use Rattle.algebra.proofs.Listed.{which_from, which_no, which_yes}
use Rattle.algebra.proofs.Loops.{unless_not}
use Rattle.algebra.specs.Matrix.{one_if}
use Rattle.algebra.specs.Search.{which}
use Rattle.algebra.specs.Vector.{WORD, unless_zero}
use Rattle.planning.proofs.Step1.{partner_low}
use Rattle.planning.specs.Making.{partner}
use Rattle.planner.specs.Marks.{lowest_of, places_of}
use Rattle.planner.proofs.Masks.{lowest_nil, lowest_one, lowest_place, places_first, places_none}
use Rattle.algebra.proofs.Search.{by_test}

partner_none : (us : List ℕ) (j : ℕ) → partner us [] j ≡ 0
unfolding partner
partner_none [] j = refl
partner_none (u ∷ us) j = refl

partner_here : (us ws : List ℕ) (u w : ℕ) → partner (u ∷ us) (w ∷ ws) u ≡ 2 ^ w
unfolding partner
partner_here us ws u w = ap (λ (x : Bool). cond x (2 ^ w) (partner us ws u)) (eq-eqb u u refl)

partner_later : (us ws : List ℕ) (u w i : ℕ) → (i ≡ u → ⊥) → partner (u ∷ us) (w ∷ ws) i ≡ partner us ws i
unfolding partner
partner_later us ws u w i f = ap (λ (x : Bool). cond x (2 ^ w) (partner us ws i)) (ne_eqb i u f)

-- what column j gets of the set
abbrev pub gets : Bool → ℕ → ℕ
gets b left = unless_zero (one_if b) (lowest_of left)

gets_on : (b : Bool) (left : ℕ) → b ≡ true → gets b left ≡ lowest_of left
gets_on b left e = ap (λ (x : Bool). gets x left) e ∙ sym (unless_not 1 (lowest_of left) (λ z. omega (arith, z)))

gets_off : (b : Bool) (left : ℕ) → b ≡ false → gets b left ≡ 0
gets_off b left e = ap (λ (x : Bool). gets x left) e ∙ unless_no 0 (lowest_of left) refl

module _ (p : ℕ → Bool) (m k j left : ℕ) (small : left < 2 ^ m) (fits : m ≤ WORD) where
  abbrev us : List ℕ
  us = which p k (suc j)

  abbrev t : ℕ
  t = count_trailing_zeros WORD left

  gone : left ≡ 0 → places_of m left ≡ []
  gone e = ap (places_of m) e ∙ places_none m

  nonzero : 0 < left → left ≡ 0 → ⊥
  nonzero h e = omega (arith, e)

  gets_lt : gets (p j) left < 2 ^ m
  gets_lt =
      unless_lt m (one_if (p j)) (lowest_of left)
      (⊎_elim (λ (e : left ≡ 0). rw (← lowest_nil left e) (pow_pos m))
      (λ (h : 0 < left). rw (← lowest_one left (nonzero h)) (pow-lt (lowest_place m left h small fits))) (eq-zero-or-pos left))

  gets_now : partner (which p (suc k) j) (places_of m left) j ≡ gets (p j) left
  gets_now =
      by_test (p j)
      (λ e. ap (λ (l : List ℕ). partner l (places_of m left) j) (which_yes p k j e)
      ∙ ⊎_elim (λ (z : left ≡ 0). ap (λ (l : List ℕ). partner (j ∷ us) l j) (gone z) ∙ partner_none (j ∷ us) j ∙ lowest_nil left z)
      (λ (h : 0 < left).
      ap (λ (l : List ℕ). partner (j ∷ us) l j) (places_first m left h small fits) ∙ partner_here us (places_of m (bit_xor left (2 ^ t))) j t
      ∙ lowest_one left (nonzero h))
      (eq-zero-or-pos left) ∙ sym (gets_on (p j) left e))
      (λ e. ap (λ (l : List ℕ). partner l (places_of m left) j) (which_no p k j e)
      ∙ partner_low us (places_of m left) (suc j) j (which_from p k (suc j)) (le_refl (suc j)) ∙ sym (gets_off (p j) left e))

  gets_later : (i : ℕ) → j < i → partner (which p (suc k) j) (places_of m left) i ≡ partner us (places_of m (bit_xor left (gets (p j) left))) i
  gets_later i l =
      by_test (p j)
      (λ e. ap (λ (l : List ℕ). partner l (places_of m left) i) (which_yes p k j e)
      ∙ ⊎_elim
      (λ (z : left ≡ 0).
      ap (λ (l : List ℕ). partner (j ∷ us) l i) (gone z) ∙ partner_none (j ∷ us) i
      ∙ sym (ap (λ (x : ℕ). partner us (places_of m x) i) (ap₂ bit_xor z (gets_on (p j) left e ∙ sym (lowest_nil left z)))
      ∙ ap (λ (l : List ℕ). partner us l i) (places_none m) ∙ partner_none us i))
      (λ (h : 0 < left).
      ap (λ (l : List ℕ). partner (j ∷ us) l i) (places_first m left h small fits)
      ∙ partner_later us (places_of m (bit_xor left (2 ^ t))) j t i (λ q. omega (arith, q))
      ∙ ap (λ (x : ℕ). partner us (places_of m (bit_xor left x)) i) (lowest_one left (nonzero h) ∙ sym (gets_on (p j) left e)))
      (eq-zero-or-pos left))
      (λ e. ap (λ (l : List ℕ). partner l (places_of m left) i) (which_no p k j e)
      ∙ ap (λ (x : ℕ). partner us (places_of m x) i) (sym (xor_zero_r left) ∙ ap (bit_xor left) (sym (gets_off (p j) left e))))

-- ---- an iteration: f is what each column gets, and the columns from j on still get theirs of what is left
module _ (p : ℕ → Bool) (n m : ℕ) (f : ℕ → ℕ) (j left w : ℕ) (below : j < n) (small : left < 2 ^ m) (fits : m ≤ WORD)
    (state : (i : ℕ) → j ≤ i → f i ≡ partner (which p (n - j) j) (places_of m left) i) (got : w ≡ gets (p j) left) where
  one_more : n - j ≡ suc (n - suc j)
  one_more = omega arith

  pub once_now : w ≡ f j
  once_now = got ∙ sym (state j (le_refl j) ∙ ap (λ (k : ℕ). partner (which p k j) (places_of m left) j) one_more ∙ gets_now p m (n - suc j) j left small fits)

  pub once_small : bit_xor left w < 2 ^ m
  once_small = xor_lt m left w small (rw got (gets_lt p m (n - suc j) j left small fits))

  pub once_later : (i : ℕ) → j + 1 ≤ i → f i ≡ partner (which p (n - (j + 1)) (j + 1)) (places_of m (bit_xor left w)) i
  once_later i h =
      state i (omega arith) ∙ ap (λ (k : ℕ). partner (which p k j) (places_of m left) i) one_more ∙ gets_later p m (n - suc j) j left small fits i (omega arith)
      ∙ ap₂ (λ (k x : ℕ). partner (which p (n - k) k) (places_of m (bit_xor left x)) i) (sym (add-one j)) (sym got)
