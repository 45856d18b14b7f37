-- When is a list given, and by which matrix and complement? Assumes nothing.
use mathlib.Core.Path.{◌∙◌, ◌≡◌, ap, ap₂, refl, sym}
use mathlib.Core.Bool.{Bool, false, not, true, true≢false, ◌&&◌}
use mathlib.Core.List.{List}
use Prim.Native.Nat.{◌≤◌, ◌^◌, suc, ℕ}
use native.Mathlib.Omega.{arith}
use borrow.Author.Tests.{eq-eqb, eqb-true, le-leb, leb-true, ne_eqb, not-false, not-true}
use lib.Dec.{eqb, leb}
use lib.ListN.{length}
use lib.Pow.{pow-lt}
use Rattle.bank.specs.Limits.{ROWS}
use Rattle.algebra.specs.Matrix.{columns}
use Rattle.algebra.specs.Search.{any_below}
use Rattle.algebra.proofs.Search.{and_both, and_l, and_r, any_elim, any_intro, by_test, found_lt, least_holds, least_is, least_none, none_elim}
use Rattle.lists.specs.Targets.{bits_for, complement_in, given_by, giver, gives, is_given, is_power, rows_in, wrong_length}
use Rattle.lists.specs.Given.{OfBits}
use Rattle.lists.specs.Apart.{base_of, columns_of}
use Rattle.lists.specs.Recognised.{bits_of}
use Rattle.lists.proofs.Numbered.{number_fits, numbered}
use Rattle.lists.proofs.Only.{columns_fit, only_complement, only_rows}

-- ---- the length of a list
module _ (list : List ℕ) (n : ℕ) (low : 2 ≤ n) (high : n ≤ ROWS) (full : length list ≡ 2 ^ n) where
  power : is_power (length list) n ≡ true
  power = and_both (leb 2 n) (eqb (length list) (2 ^ n)) (le-leb 2 n low) (eq-eqb (length list) (2 ^ n) full)

  pub bits_is : bits_of list ≡ n
  unfolding bits_for
  bits_is =
      least_is (is_power (length list)) (suc ROWS) n (omega arith) power
      (λ j h. ap (λ (b : Bool). leb 2 j && b) (ne_eqb (length list) (2 ^ j) (λ e. omega (arith, pow-lt h))) ∙ never (leb 2 j))
    where
      never : (b : Bool) → b && false ≡ false
      never true = refl
      never false = refl

  pub right-length : wrong_length list ≡ false
  unfolding wrong_length
  right-length = ap not (any_intro (is_power (length list)) (suc ROWS) n (omega arith) power)

pub length-right : (list : List ℕ) → wrong_length list ≡ false → (2 ≤ bits_of list) × (bits_of list ≤ ROWS) × (length list ≡ 2 ^ bits_of list)
unfolding wrong_length
length-right list e =
    let t = any_elim (is_power (length list)) (suc ROWS) (not-false (any_below (is_power (length list)) (suc ROWS)) e) in
    let n = t.0 in
    let low : 2 ≤ n = leb-true 2 n (and_l (leb 2 n) (eqb (length list) (2 ^ n)) t.2) in
    let full : length list ≡ 2 ^ n = eqb-true (length list) (2 ^ n) (and_r (leb 2 n) (eqb (length list) (2 ^ n)) t.2) in
    let high : n ≤ ROWS = omega (arith, t.1) in
    let is : bits_of list ≡ n = bits_is list n low high full in
    (omega arith, omega arith, full ∙ ap (λ (k : ℕ). 2 ^ k) (sym is))

pub bits_wrong : (list : List ℕ) → wrong_length list ≡ true → bits_of list ≡ suc ROWS
unfolding wrong_length bits_for
bits_wrong list e =
    least_none (is_power (length list)) (suc ROWS)
    (λ k h. none_elim (is_power (length list)) (suc ROWS) k (not-true (any_below (is_power (length list)) (suc ROWS)) e) h)

pub bits_low : (list : List ℕ) → bits_of list ≤ ROWS → wrong_length list ≡ false
bits_low list h = by_test (wrong_length list) (λ e. absurd (omega (arith, bits_wrong list e))) (λ e. e)

-- ---- a list is given where some matrix and complement that fit give it
module _ (list : List ℕ) (n : ℕ) where
  pub given_by_lem : (rows : List ℕ) (c : ℕ) → OfBits n rows c → gives rows c list ≡ true → is_given n list ≡ true
  unfolding is_given
  given_by_lem rows c f g =
      let v = numbered n rows c f in
      any_intro (given_by n list) ((2 ^ n) ^ suc n) v.0 v.1 (ap₂ (λ (r : List ℕ) (k : ℕ). gives r k list) v.2 v.3 ∙ g)

  -- what gives it
  giver-gives : is_given n list ≡ true → given_by n list (giver n list) ≡ true
  unfolding is_given giver
  giver-gives e = least_holds (given_by n list) ((2 ^ n) ^ suc n) (found_lt (given_by n list) ((2 ^ n) ^ suc n) e)

  pub given_elim : is_given n list ≡ true → (rows : List ℕ) × (c : ℕ) × OfBits n rows c × (gives rows c list ≡ true)
  given_elim e = (rows_in n (giver n list), complement_in n (giver n list), number_fits n (giver n list), giver-gives e)

-- ---- of 2 ^ n entries it is given exactly when its entries 0 and 2 ^ j give it
module _ (list : List ℕ) (n : ℕ) (full : length list ≡ 2 ^ n) where
  pub given_rows : is_given n list ≡ true → rows_in n (giver n list) ≡ columns n (columns_of list n)
  given_rows e =
      only_rows list n full (rows_in n (giver n list)) (complement_in n (giver n list)) (number_fits n (giver n list)) (giver-gives list n e)

  pub given_complement : is_given n list ≡ true → complement_in n (giver n list) ≡ base_of list n
  given_complement e =
      only_complement list n full (rows_in n (giver n list)) (complement_in n (giver n list)) (number_fits n (giver n list)) (giver-gives list n e)

  pub given_is : is_given n list ≡ gives (columns n (columns_of list n)) (base_of list n) list
  given_is =
      by_test (is_given n list)
      (λ e. e ∙ sym (sym (ap₂ (λ (r : List ℕ) (k : ℕ). gives r k list) (given_rows e) (given_complement e)) ∙ giver-gives list n e))
      (λ e. by_test (gives (columns n (columns_of list n)) (base_of list n) list)
      (λ g. absurd (true≢false (sym (given_by_lem list n (columns n (columns_of list n)) (base_of list n) (columns_fit list n) g) ∙ e)))
      (λ g. e ∙ sym g))
