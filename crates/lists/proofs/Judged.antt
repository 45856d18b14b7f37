-- Which answer is that of a list, by how far it is from the only one that a matrix and complement can give? Assumes nothing.
use mathlib.Core.Path.{◌≡◌, refl, sym, ap, ap₂, subst, ◌∙◌}
use mathlib.Core.Bool.{Bool, true, false, not, ◌||◌}
use mathlib.Core.List.{List, ◌++◌}
use Prim.Native.Nat.{ℕ, suc, ◌-◌, ◌≤◌, ◌<◌, ◌^◌}
use native.Mathlib.Omega.{arith}
use borrow.Author.Tests.{leb-false, lt-leb, ne_eqb}
use lib.Bits.{bit_xor, xor_lt, xor_self}
use lib.Dec.{leb}
use lib.Pow.{pow_pos}
use lib.ListN.{get_or, length, replicate}
use Rattle.bank.specs.Limits.{ROWS}
use Rattle.bank.specs.Checks.{refuse}
use Rattle.algebra.specs.Matrix.{applied, columns, kernel, singular, target}
use Rattle.algebra.proofs.Linear.{apply_lt}
use Rattle.algebra.proofs.Digits.{xor-eq, xor-move}
use Rattle.algebra.proofs.Search.{by_test, none_elim, none_intro}
use Rattle.lists.specs.Targets.{complement_in, giver, is_given, rows_in, stray_entry, wrong_length}
use Rattle.lists.specs.Apart.{all_bits, apart_at, base_of, columns_of}
use Rattle.lists.specs.Recognised.{bits_of, complement_of, list_number, recognised, rows_of}
use Rattle.lists.specs.declared.Recognised.{Recognised}
use Rattle.lists.proofs.AllBits.{all-bits_above, all-bits_below, all-bits_none}
use Rattle.lists.proofs.Given.{bits_is, given_complement, given_is, given_rows, length-right, right-length}
use Rattle.lists.proofs.Only.{columns_fit, gives_at, gives_intro, target_carried}

-- what a refusal hands back
abbrev pub refused_with : ℕ → ℕ → Recognised
refused_with number z = record { number = number; n = 0; rows = replicate ROWS 0; complement = 0; z = record { 0 = z } }

-- what is handed back for an order
abbrev pub found_as : ℕ → List ℕ → ℕ → Recognised
found_as n rows c = record { number = 0; n = n; rows = rows ++ replicate (ROWS - n) 0; complement = c; z = record { 0 = 0 } }

-- ---- the answer by its number
pub by_number : (list : List ℕ) (k : ℕ) → list_number list ≡ suc k → (suc k ≡ 3 → ⊥) → recognised list ≡ refused_with (suc k) 0
unfolding recognised
by_number list k e f = rw (e, ne_eqb (suc k) 3 f)

pub by_three : (list : List ℕ) → list_number list ≡ 3 → recognised list ≡ refused_with 3 (kernel (bits_of list) (rows_of list))
unfolding recognised
by_three list e = rw e

pub by_none : (list : List ℕ) → list_number list ≡ 0 → recognised list ≡ found_as (bits_of list) (rows_of list) (complement_of list)
unfolding recognised
by_none list e = rw e

-- ---- the number by its checks
pub length_wrong : (list : List ℕ) → ROWS < bits_of list → list_number list ≡ 11
unfolding list_number
length_wrong list h = rw (by_test {P = wrong_length list ≡ true} (wrong_length list) (λ e. e) (λ e. absurd (omega (arith, h, (length-right list e).1))))

pub entry_wrong : (list : List ℕ) → stray_entry list ≡ true → list_number list ≡ 11
unfolding list_number
entry_wrong list s =
    let wrong : wrong_length list || stray_entry list ≡ true = ap (λ (b : Bool). wrong_length list || b) s ∙ or_true (wrong_length list) in
    ap (λ (b : Bool). refuse b 11 (refuse (not (is_given (bits_of list) list)) 12 (refuse (singular (bits_of list) (rows_of list)) 3 0))) wrong
  where
    or_true : (b : Bool) → b || true ≡ true
    or_true true = refl
    or_true false = refl

module _ (list : List ℕ) (length-right : wrong_length list ≡ false) (entries-right : stray_entry list ≡ false) where
  pub none_gives : is_given (bits_of list) list ≡ false → list_number list ≡ 12
  unfolding list_number
  none_gives g = rw (length-right, entries-right, g)

  pub some_give : is_given (bits_of list) list ≡ true → list_number list ≡ refuse (singular (bits_of list) (rows_of list)) 3 0
  unfolding list_number
  some_give g = rw (length-right, entries-right, g)

-- ---- the checks by the difference, where the length is right
module _ (list : List ℕ) (n : ℕ) (two : 2 ≤ n) (upto : n ≤ ROWS) (long : length list ≡ 2 ^ n) where
  abbrev A : List ℕ
  A = columns n (columns_of list n)

  abbrev c : ℕ
  c = base_of list n

  abbrev apart : ℕ → ℕ
  apart = apart_at list c (columns_of list n)

  -- what entry x differs by from Ax xor c
  from_target : (x : ℕ) → apart x ≡ bit_xor (get_or list x 0) (target A c x)
  from_target x = ap (bit_xor (get_or list x 0)) (sym (target_carried list n x))

  below : (x : ℕ) → target A c x < 2 ^ n
  unfolding target
  below x = xor_lt n (applied A x) c (subst (λ (k : ℕ). applied A x < 2 ^ k) (columns_fit list n).long (apply_lt A x)) (columns_fit list n).complement

  entry_below : stray_entry list ≡ false → (x : ℕ) → x < length list → get_or list x 0 < 2 ^ n
  unfolding stray_entry
  entry_below e x l =
      subst (λ (k : ℕ). get_or list x 0 < k) long
      (leb-false (length list) (get_or list x 0) (none_elim (λ x. leb (length list) (get_or list x 0)) (length list) x e l))

  module _ (off : ℕ) (is : off ≡ all_bits apart (length list)) where
    -- an entry is N or more exactly where the difference is
    stray : 2 ^ n ≤ off → stray_entry list ≡ true
    stray h =
        by_test {P = stray_entry list ≡ true} (stray_entry list) (λ e. e)
        (λ e. absurd (omega (arith, h, is, all-bits_below apart n (length list) (λ x l. rw (from_target x) (xor_lt n (get_or list x 0) (target A c x) (entry_below e x l) (below x))))))

    not_stray : off < 2 ^ n → stray_entry list ≡ false
    unfolding stray_entry
    not_stray h =
        none_intro (λ x. leb (length list) (get_or list x 0)) (length list)
        (λ x l. lt-leb (length list) (get_or list x 0) (subst (λ (k : ℕ). get_or list x 0 < k) (sym long)
        (rw (xor-move (get_or list x 0) (target A c x) (apart x) (sym (from_target x)))
        (xor_lt n (apart x) (target A c x) (omega (arith, is, h, all-bits_above apart (length list) x l)) (below x)))))

    given : off ≡ 0 → is_given n list ≡ true
    given e =
        given_is list n long ∙ gives_intro A c list
        (λ x l. xor-eq (get_or list x 0) (target A c x) (sym (from_target x) ∙ zero_of (apart x) (omega (arith, is, e, all-bits_above apart (length list) x l))))
      where
        zero_of : (k : ℕ) → k ≤ 0 → k ≡ 0
        zero_of k h = omega arith

    not_given : (off ≡ 0 → ⊥) → is_given n list ≡ false
    not_given f =
        by_test {P = is_given n list ≡ false} (is_given n list)
        (λ e. absurd (f (is ∙ all-bits_none apart (length list)
        (λ x l. from_target x ∙ ap (λ (k : ℕ). bit_xor k (target A c x)) (gives_at A c list (sym (given_is list n long) ∙ e) x l) ∙ xor_self (target A c x)))))
        (λ e. e)

    -- ---- and so the answers
    pub eleven : 2 ^ n ≤ off → recognised list ≡ refused_with 11 0
    eleven h = by_number list 10 (entry_wrong list (stray h)) (λ e. omega (arith, e))

    n_is : bits_of list ≡ n
    n_is = bits_is list n two upto long

    at_n : (P : ℕ → Type 0) → P n → P (bits_of list)
    at_n P p = subst P (sym n_is) p

    pub twelve : off < 2 ^ n → (off ≡ 0 → ⊥) → recognised list ≡ refused_with 12 0
    twelve h f =
        by_number list 11
        (none_gives list (right-length list n two upto long) (not_stray h) (at_n (λ k. is_given k list ≡ false) (not_given f))) (λ e. omega (arith, e))

    module _ (e : off ≡ 0) where
      rows_are : rows_of list ≡ A
      rows_are = ap (λ (k : ℕ). rows_in k (giver k list)) n_is ∙ given_rows list n long (given e)

      c_is : complement_of list ≡ c
      c_is = ap (λ (k : ℕ). complement_in k (giver k list)) n_is ∙ given_complement list n long (given e)

      number : list_number list ≡ refuse (singular n A) 3 0
      number =
          some_give list (right-length list n two upto long) (not_stray (subst (λ (k : ℕ). k < 2 ^ n) (sym e) (pow_pos n)))
          (at_n (λ k. is_given k list ≡ true) (given e))
          ∙ ap₂ (λ (k : ℕ) (rows : List ℕ). refuse (singular k rows) 3 0) n_is rows_are

      pub three : singular n A ≡ true → recognised list ≡ refused_with 3 (kernel n A)
      three s =
          by_three list (number ∙ ap (λ (b : Bool). refuse b 3 0) s)
          ∙ ap₂ (λ (k : ℕ) (rows : List ℕ). refused_with 3 (kernel k rows)) n_is rows_are

      pub taken : singular n A ≡ false → recognised list ≡ found_as n A c
      taken s =
          by_none list (number ∙ ap (λ (b : Bool). refuse b 3 0) s) ∙ ap (λ (k : ℕ). found_as k (rows_of list) (complement_of list)) n_is
          ∙ ap₂ (found_as n) rows_are c_is
