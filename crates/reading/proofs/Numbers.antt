-- Which numbers does a reader find, and where? Assumes nothing.
use Rattle.std.specs.Prelude.{Option, Some, None, IfSome}
use mathlib.Core.Path.{◌≡◌, refl, sym, ap, ◌∙◌}
use mathlib.Core.Bool.{Bool, true, false, cond}
use mathlib.Core.Logic.{⊎_elim}
use mathlib.Core.List.{List, ◌∷◌, ◌++◌}
use Prim.Native.Nat.{ℕ, zero, suc, ◌+◌, ◌-◌, ◌*◌, ◌/◌, ◌%◌, ◌<◌, ◌≤◌}
use native.Mathlib.Omega.{arith}
use native.Mathlib.Numerals.{add-one}
use borrow.Author.Tests.{lt-ltb, le-ltb, ltb-false}
use lib.Dec.{ltb}
use lib.ListN.{length, get_or, drop, get_or-eq_default}
use lib.Seq.{drop-cons, get_or-drop}
use Rattle.algebra.proofs.Search.{le_or_lt}
use Rattle.text.specs.Lines.{decimal}
use Rattle.text.proofs.Decimals.{decimal_one, decimal_two, decimal_three}
use Rattle.reading.specs.Parsing.{digit_of, digit_at, number_from, number_at}

-- ---- a digit
pub digit_of_lem : (d : ℕ) → d < 10 → digit_of (48 + d) ≡ Some d
unfolding digit_of
digit_of_lem d h = rw (le-ltb (48 + d) 48 (omega arith), le-ltb 57 (48 + d) (omega arith)) (ap Some (omega arith))

no_digit : (x : ℕ) → x < 48 → digit_of x ≡ None
unfolding digit_of
no_digit x h = rw (lt-ltb x 48 h)

digit_byte : (x d : ℕ) → digit_of x ≡ Some d → (d < 10) × (x ≡ 48 + d)
unfolding digit_of
digit_byte x d = go (ltb x 48) (ltb 57 x) refl refl
  where
    go : (s t : Bool) → ltb x 48 ≡ s → ltb 57 x ≡ t → cond s None (cond t None (Some (x - 48))) ≡ Some d → (d < 10) × (x ≡ 48 + d)
    go true t p q e = absurd (cc)
    go false true p q e = absurd (cc)
    go false false p q e =
        let f : x - 48 ≡ d = cc in
        (omega (arith, ltb-false 57 x q), omega (arith, ltb-false x 48 p))

module _ (s : List ℕ) (i : ℕ) where
  pub digit_past : length s ≤ i → digit_at s i ≡ None
  unfolding digit_at digit_of
  digit_past h = ap digit_of (get_or-eq_default s 0 h)

  module _ (d : ℕ) (e : digit_at s i ≡ Some d) where
    -- where there is a digit, there is a byte
    pub digit_in : i < length s
    digit_in = ⊎_elim (λ (h : length s ≤ i). absurd (cc (digit_past h, e))) (λ (h : i < length s). h) (le_or_lt (length s) i)

    pub digit_low : d < 10
    unfolding digit_at
    digit_low = (digit_byte (get_or s i 0) d e).0

    pub digit_cons : drop i s ≡ (48 + d) ∷ drop (i + 1) s
    unfolding digit_at
    digit_cons = drop-cons s i 0 digit_in ∙ rw (add-one i, (digit_byte (get_or s i 0) d e).1)

-- a digit is below 10, and stands in the text
pub digit_within : (s : List ℕ) (i : ℕ) (r : Option ℕ) → r ≡ digit_at s i → IfSome r (λ d. (d < 10) × (i < length s))
digit_within s i None e = tt
digit_within s i (Some d) e = (digit_low s i d (sym e), digit_in s i d (sym e))

-- ---- a number
-- a number below 1000 is read at a place, whose digits stand there up to place k
pub record NumberAt (s : List ℕ) (at v k : ℕ) : Type 0 where
  pub short : v < 1000
  pub is : drop at s ≡ decimal v ++ drop k s

abbrev pub NumberIf : List ℕ → ℕ → Option (ℕ × ℕ) → Type 0
NumberIf s at (Some (v, k)) = NumberAt s at v k
NumberIf s at None = Unit {0}

-- the value is a number of one, two or three digits, as far as there are some
module _ (s : List ℕ) (at : ℕ) where
  one : (a : ℕ) → digit_at s at ≡ Some a → NumberAt s at a (at + 1)
  one a p =
      let h = digit_low s at a p in
      record { short = omega arith; is = digit_cons s at a p ∙ rw (decimal_one a h) }

  two : (a b : ℕ) → 1 ≤ a → digit_at s at ≡ Some a → digit_at s (at + 1) ≡ Some b → NumberAt s at (a * 10 + b) (at + 2)
  two a b n p q =
      let h = digit_low s at a p in
      let i = digit_low s (at + 1) b q in
      let e : at + 1 + 1 ≡ at + 2 = omega arith in
      let t = decimal_two (a * 10 + b) a b n h i refl in
      record { short = omega arith; is = digit_cons s at a p ∙ rw (digit_cons s (at + 1) b q, e, t) }

  three : (a b c : ℕ) → 1 ≤ a → digit_at s at ≡ Some a → digit_at s (at + 1) ≡ Some b → digit_at s (at + 2) ≡ Some c
      → NumberAt s at (a * 100 + b * 10 + c) (at + 3)
  three a b c n p q r =
      let h = digit_low s at a p in
      let i = digit_low s (at + 1) b q in
      let j = digit_low s (at + 2) c r in
      let e : at + 1 + 1 ≡ at + 2 = omega arith in
      let f : at + 2 + 1 ≡ at + 3 = omega arith in
      let t = decimal_three (a * 100 + b * 10 + c) a b c n h i j refl in
      record { short = omega arith; is = digit_cons s at a p ∙ rw (digit_cons s (at + 1) b q, e, digit_cons s (at + 2) c r, f, t) }

  by_digits : (a b c : Option ℕ) → digit_at s at ≡ a → digit_at s (at + 1) ≡ b → digit_at s (at + 2) ≡ c → NumberIf s at (number_from at a b c)
  by_digits None b c p q r = tt
  by_digits (Some zero) b c p q r = one zero p
  by_digits (Some (suc a)) None c p q r = one (suc a) p
  by_digits (Some (suc a)) (Some b) None p q r = two (suc a) b (omega arith) p q
  by_digits (Some (suc a)) (Some b) (Some c) p q r = three (suc a) b c (omega arith) p q r

  pub number_if : NumberIf s at (number_at s at)
  unfolding number_at
  number_if = by_digits (digit_at s at) (digit_at s (at + 1)) (digit_at s (at + 2)) refl refl refl

-- ---- and back: a number below 1000, ended by what is no digit, is read
module _ (s : List ℕ) (at : ℕ) where
  pub read_one : (a : ℕ) → digit_at s at ≡ Some a → digit_at s (at + 1) ≡ None → number_at s at ≡ Some (a, at + 1)
  unfolding number_at
  read_one zero p q = rw p
  read_one (suc a) p q = rw (p, q)

  pub read_two : (a b : ℕ) → 1 ≤ a → digit_at s at ≡ Some a → digit_at s (at + 1) ≡ Some b → digit_at s (at + 2) ≡ None
      → number_at s at ≡ Some (a * 10 + b, at + 2)
  unfolding number_at
  read_two zero b n p q r = absurd (omega arith)
  read_two (suc a) b n p q r = rw (p, q, r)

  pub read_three : (a b c : ℕ) → 1 ≤ a → digit_at s at ≡ Some a → digit_at s (at + 1) ≡ Some b → digit_at s (at + 2) ≡ Some c
      → number_at s at ≡ Some (a * 100 + b * 10 + c, at + 3)
  unfolding number_at
  read_three zero b c n p q r = absurd (omega arith)
  read_three (suc a) b c n p q r = rw (p, q, r)

-- the digit at a place is that of the byte there
digit_there : (s : List ℕ) (at i : ℕ) (t : List ℕ) → drop at s ≡ t → digit_at s (at + i) ≡ digit_of (get_or t i 0)
unfolding digit_at
digit_there s at i t e = ap digit_of (sym (get_or-drop at s i 0) ∙ ap (λ (l : List ℕ). get_or l i 0) e)

module _ (s : List ℕ) (at v end : ℕ) (rest : List ℕ) (low : end < 48) (is : drop at s ≡ decimal v ++ (end ∷ rest)) where
  there : (i : ℕ) (t : List ℕ) → decimal v ≡ t → digit_at s (at + i) ≡ digit_of (get_or (t ++ (end ∷ rest)) i 0)
  there i t e = digit_there s at i (t ++ (end ∷ rest)) (is ∙ rw e)

  first : (x : ℕ) (t : List ℕ) → decimal v ≡ x ∷ t → digit_at s at ≡ digit_of x
  first x t e = let z : at + 0 ≡ at = omega arith in rw z at (there 0 (x ∷ t) e)

  forth_one : v < 10 → number_at s at ≡ Some (v, at + length (decimal v))
  forth_one h =
      let e = decimal_one v h in
      rw e (read_one s at v (first _ _ e ∙ digit_of_lem v h) (there 1 _ e ∙ no_digit end low))

  forth_two : 10 ≤ v → v < 100 → number_at s at ≡ Some (v, at + length (decimal v))
  forth_two g h =
      let a = v / 10 in
      let b = v % 10 in
      let k : v ≡ a * 10 + b = omega arith in
      let i : a < 10 = omega arith in
      let j : b < 10 = omega arith in
      let e = decimal_two v a b (omega arith) i j k in
      rw e
      (read_two s at a b (omega arith) (first _ _ e ∙ digit_of_lem a i) (there 1 _ e ∙ digit_of_lem b j) (there 2 _ e ∙ no_digit end low)
      ∙ rw (← k))

  forth_three : 100 ≤ v → v < 1000 → number_at s at ≡ Some (v, at + length (decimal v))
  forth_three g h =
      let a = v / 100 in
      let b = v / 10 % 10 in
      let d = v % 10 in
      let k : v ≡ a * 100 + b * 10 + d = omega arith in
      let i : a < 10 = omega arith in
      let j : b < 10 = omega arith in
      let l : d < 10 = omega arith in
      let e = decimal_three v a b d (omega arith) i j l k in
      rw e
      (read_three s at a b d (omega arith) (first _ _ e ∙ digit_of_lem a i) (there 1 _ e ∙ digit_of_lem b j) (there 2 _ e ∙ digit_of_lem d l)
      ∙ rw (← k))

  pub number_forth : v < 1000 → number_at s at ≡ Some (v, at + length (decimal v))
  number_forth short =
      ⊎_elim
      (λ (h : 10 ≤ v). ⊎_elim (λ (i : 100 ≤ v). forth_three i short) (λ (i : v < 100). forth_two h i) (le_or_lt 100 v))
      (λ (h : v < 10). forth_one h)
      (le_or_lt 10 v)
