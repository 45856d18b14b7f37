-- What do loops over rows and entries ask of the definitions? Assumes nothing.
use mathlib.Core.Path.{◌∙◌, ◌≡◌, ap, ap₂, refl, sym}
use mathlib.Core.List.{List, [], ◌∷◌}
use Prim.Native.Nat.{◌%◌, ◌*◌, ◌+◌, ◌-◌, ◌/◌, ◌<◌, ◌^◌, ◌≤◌, suc, zero, ℕ}
use native.Mathlib.Nat.{le_of_suc-le-suc, lt_of_lt_of_le, not-suc-le-zero}
use native.Mathlib.Numerals.{add-one, sub-one}
use native.Mathlib.Omega.{arith}
use lib.Pow.{pow_mono}
use lib.Seq.{get_or-drop, get_or-take}
use lib.Bits.{bit_and, bit_xor, xor_zero_r}
use lib.Count.{ones}
use lib.ListN.{drop, drop_of_length-le, get_or, length-drop, length-take, take}
use borrow.Author.Tests.{eq-eqb, ne_eqb}
use Rattle.algebra.proofs.Basis.{rest_of, used_of}
use Rattle.algebra.proofs.Digits.{unless_zero_lem, xor_assoc}
use Rattle.algebra.proofs.Linear.{apply_lt}
use Rattle.algebra.specs.Elimination.{Echelon, grown, rest, used, with_entry}
use Rattle.algebra.specs.Matrix.{applied}
use Rattle.algebra.specs.Vector.{bit, comb, parity, unless_zero}

-- ---- reducing: one entry more
module _ (ws qs : List ℕ) (i v u d r : ℕ) (hu : u ≡ rest ws qs i v) (hd : d ≡ bit u (get_or qs i 0)) where
  pub rest_once : r ≡ unless_zero d (get_or ws i 0) → bit_xor u r ≡ rest ws qs (i + 1) v
  unfolding rest
  rest_once hr =
      let e : bit_xor (rest ws qs i v) (unless_zero (bit (rest ws qs i v) (get_or qs i 0)) (get_or ws i 0)) ≡ rest ws qs (i + 1) v = rw (add-one i) in
      cc

  pub used_once : (ts : List ℕ) (s t : ℕ) → s ≡ bit_xor t (used ws qs ts i v) → r ≡ unless_zero d (get_or ts i 0)
      → bit_xor s r ≡ bit_xor t (used ws qs ts (i + 1) v)
  unfolding used
  used_once ts s t hs hr =
      let a = unless_zero (bit (rest ws qs i v) (get_or qs i 0)) (get_or ts i 0) in
      let e : bit_xor (bit_xor t (used ws qs ts i v)) a ≡ bit_xor t (used ws qs ts (i + 1) v) =
      rw (add-one i) (xor_assoc t (used ws qs ts i v) a) in
      cc

pub unless_not : (d w : ℕ) → (d ≡ 0 → ⊥) → w ≡ unless_zero d w
unfolding unless_zero
unless_not zero w f = absurd (f refl)
unless_not (suc d) w f = refl

-- ---- one column more
pub grown_skip : (b : Echelon) (j col l : ℕ) → l ≡ rest_of b col → l ≡ 0 → b ≡ grown b j col
unfolding grown
grown_skip b j col l p z = rw (eq-eqb (rest_of b col) 0 (sym p ∙ z))

pub grown_entry : (b r : Echelon) (j col l t : ℕ) → r ≡ with_entry b l t → l ≡ rest_of b col → (l ≡ 0 → ⊥) → t ≡ bit_xor (2 ^ j) (used_of b col)
    → r ≡ grown b j col
unfolding grown
grown_entry b r j col l t e p f q = e ∙ rw (ne_eqb (rest_of b col) 0 (λ z. f (p ∙ z)), p, q)

-- ---- summing: one vector more. Past the end of the list there is nothing to add
comb_at : (vs : List ℕ) (j s : ℕ) → comb (drop j vs) s ≡ bit_xor (unless_zero (s % 2) (get_or vs j 0)) (comb (drop (suc j) vs) (s / 2))
unfolding comb
comb_at [] zero s = sym (ap (λ (k : ℕ). bit_xor k 0) (unless_zero_lem (s % 2)))
comb_at [] (suc j) s = sym (ap (λ (k : ℕ). bit_xor k 0) (unless_zero_lem (s % 2)))
comb_at (v ∷ vs) zero s = refl
comb_at (v ∷ vs) (suc j) s = comb_at vs j s

pub comb_once : (vs : List ℕ) (n j p s r : ℕ) → j < n → r ≡ unless_zero (s % 2) (get_or vs j 0)
    → bit_xor (bit_xor p r) (comb (drop (j + 1) (take n vs)) (s / 2)) ≡ bit_xor p (comb (drop j (take n vs)) s)
comb_once vs n j p s r h e =
    xor_assoc p r (comb (drop (j + 1) (take n vs)) (s / 2))
    ∙ ap (bit_xor p)
    (ap₂ (λ (x k : ℕ). bit_xor x (comb (drop k (take n vs)) (s / 2))) (e ∙ ap (unless_zero (s % 2)) (sym (get_or-take n vs j 0 h))) (add-one j)
    ∙ sym (comb_at (take n vs) j s))

pub comb_end : (vs : List ℕ) (n j p s : ℕ) → n ≤ j → bit_xor p (comb (drop j (take n vs)) s) ≡ p
unfolding comb
comb_end vs n j p s h =
    ap (λ (l : List ℕ). bit_xor p (comb l s)) (drop_of_length-le (take n vs) {i = j} (simp length-take (omega arith))) ∙ xor_zero_r p
