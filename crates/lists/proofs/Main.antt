-- What is proved of lists of targets, for the demand on them: when each number is given, and what goes with it. Over the definitions that
-- the call's promise cites. Assumes nothing.
use mathlib.Core.Path.{◌≡◌, refl, sym, ap, ap₂, subst, ◌∙◌}
use mathlib.Core.Bool.{Bool, true, false, cond, true≢false}
use mathlib.Core.List.{List, ◌++◌}
use mathlib.Core.Logic.Iff
use mathlib.Core.Logic.{◌↔◌, ◌⊎◌, inl, inr, ⊎_elim}
use Prim.Native.Nat.{ℕ, zero, suc, ◌-◌, ◌<◌, ◌≤◌, ◌^◌}
use native.Mathlib.Omega.{arith}
use borrow.Author.Tests.{le-leb, leb-true, ne_eqb}
use lib.Bits.{bit_xor, xor_zero_r}
use lib.Dec.{eqb, leb}
use lib.ListN.{get_or-eq_default, get_or, length, length-append, length-replicate, length-take, replicate, take}
use lib.Pow.{pow_pos}
use lib.Seq.{ext_get_or, get_or-take, take_at}
use Rattle.bank.specs.Limits.{ROWS}
use Rattle.bank.specs.Checks.{refuse, handed}
use Rattle.algebra.specs.Matrix.{applied, columns, kernel, singular, target}
use Rattle.algebra.proofs.Linear.{apply_zero}
use Rattle.algebra.proofs.Lists.{padded_at}
use Rattle.algebra.proofs.Search.{any_elim, any_intro, by_test, le_or_lt}
use Rattle.algebra.proofs.Singular.{clash→singular, kernel_killed, kernel-least, target_inj}
use Rattle.lists.specs.Targets.{complement_in, giver, gives, is_given, rows_in, stray_entry, wrong_length}
use Rattle.lists.specs.Given.{FirstAgain, Given, GivenBy, Misshapen, RegularlyGiven, Twice}
use Rattle.lists.specs.Apart.{base_of, columns_of}
use Rattle.lists.specs.Recognised.{bits_of, complement_of, list_number, recognised, rows_of}
use Rattle.lists.specs.declared.Recognised.{Recognised}
use Rattle.lists.proofs.Given.{bits_is, bits_wrong, given_by_lem, given_complement, given_elim, given_rows, length-right, right-length}
use Rattle.lists.proofs.Judged.{by_none, by_three, entry_wrong, found_as, length_wrong, none_gives, refused_with, some_give}
use Rattle.lists.proofs.Only.{columns_fit, gives_at, gives_intro, no_stray, only_complement, only_rows}

-- ---- what the checks of the length and of the entries mean
module _ (list : List ℕ) where
  pub wrong_length_lem : (wrong_length list ≡ true) ↔ ((n : ℕ) → 2 ≤ n → n ≤ ROWS → length list ≡ 2 ^ n → ⊥)
  wrong_length_lem = (
    λ e n low high full. true≢false (sym e ∙ right-length list n low high full),
    λ f. by_test (wrong_length list) (λ e. e) (λ e. let s = length-right list e in absurd (f (bits_of list) s.0 s.1 s.2)),
  )

  pub stray_entry_lem : (stray_entry list ≡ true) ↔ ((x : ℕ) × (x < length list) × (length list ≤ get_or list x 0))
  unfolding stray_entry
  stray_entry_lem =
      let large : ℕ → Bool = λ x. leb (length list) (get_or list x 0) in (
        λ e. let s = any_elim large (length list) e in (s.0, s.1, leb-true (length list) (get_or list s.0 0) s.2),
        λ s. any_intro large (length list) s.0 s.1 (le-leb (length list) (get_or list s.0 0) s.2),
      )

-- ---- a list that is given
module _ (list : List ℕ) (n : ℕ) (rows : List ℕ) (c : ℕ) (g : GivenBy list n rows c) where
  gives_it : gives rows c list ≡ true
  gives_it = gives_intro rows c list g.entry

  pub bits_are : bits_of list ≡ n
  bits_are = bits_is list n g.sized.from g.sized.upto g.sized.length_is

  given_at_n : is_given n list ≡ true
  given_at_n = given_by_lem list n rows c g.of_bits gives_it

  is_given_lem : is_given (bits_of list) list ≡ true
  is_given_lem = subst (λ (k : ℕ). is_given k list ≡ true) (sym bits_are) given_at_n

  -- what is found is this matrix and complement
  pub rows_are : rows_of list ≡ rows
  rows_are =
      ap (λ (k : ℕ). rows_in k (giver k list)) bits_are ∙ given_rows list n g.sized.length_is given_at_n
      ∙ sym (only_rows list n g.sized.length_is rows c g.of_bits gives_it)

  c_is : complement_of list ≡ c
  c_is =
      ap (λ (k : ℕ). complement_in k (giver k list)) bits_are ∙ given_complement list n g.sized.length_is given_at_n
      ∙ sym (only_complement list n g.sized.length_is rows c g.of_bits gives_it)

  right : wrong_length list ≡ false
  right = right-length list n g.sized.from g.sized.upto g.sized.length_is

  none_stray : stray_entry list ≡ false
  none_stray = no_stray list n g.sized.length_is rows c g.of_bits gives_it

  pub given_number : list_number list ≡ refuse (singular n rows) 3 0
  given_number = some_give list right none_stray is_given_lem ∙ ap₂ (λ (k : ℕ) (l : List ℕ). refuse (singular k l) 3 0) bits_are rows_are

  given_three : singular n rows ≡ true → recognised list ≡ refused_with 3 (kernel n rows)
  given_three s =
      by_three list (given_number ∙ ap (λ (b : Bool). refuse b 3 0) s) ∙ ap₂ (λ (k : ℕ) (l : List ℕ). refused_with 3 (kernel k l)) bits_are rows_are

  pub given_order : singular n rows ≡ false → recognised list ≡ found_as n rows c
  given_order s =
      by_none list (given_number ∙ ap (λ (b : Bool). refuse b 3 0) s) ∙ ap (λ (k : ℕ). found_as k (rows_of list) (complement_of list)) bits_are
      ∙ ap₂ (found_as n) rows_are c_is

  -- ---- A is singular exactly when two entries are equal
  below : (x : ℕ) → x < length list → x < 2 ^ n
  below x h = omega (arith, g.sized.length_is)

  first_entry : get_or list 0 0 ≡ target rows c 0
  first_entry = g.entry 0 (subst (λ (k : ℕ). 0 < k) (sym g.sized.length_is) (pow_pos n))

  singular_first : singular n rows ≡ true → FirstAgain list (kernel n rows)
  unfolding target
  singular_first s =
      let k = kernel_killed n rows s in
      let there : kernel n rows < length list = omega (arith, g.sized.length_is, k.1) in
      record {
        nonzero = k.0;
        there = there;
        again = g.entry (kernel n rows) there ∙ ap (λ (u : ℕ). bit_xor u c) (k.2 ∙ sym (apply_zero rows)) ∙ sym first_entry;
        first = λ y p l e. kernel-least n rows y p l
            (ap (applied rows) (sym (xor_zero_r y)) ∙ target_inj rows c y 0 (sym (g.entry y (omega (arith, l, there))) ∙ e ∙ first_entry));
      }

  singular_twice : (singular n rows ≡ true) ↔ Twice list
  singular_twice = (
    λ s. let f = singular_first s in
        record {
          x = kernel n rows;
          y = 0;
          x_there = f.there;
          y_there = omega (arith, f.there);
          different = λ e. omega (arith, f.nonzero, e);
          equal = f.again;
        },
    λ t. clash→singular n rows c (record {
      x = t.x;
      y = t.y;
      x_lt = below t.x t.x_there;
      y_lt = below t.y t.y_there;
      apart = t.different;
      same = sym (g.entry t.x t.x_there) ∙ t.equal ∙ g.entry t.y t.y_there;
    }),
  )

-- the matrix and complement that the entries 0 and 2 ^ j ask for, where they give the list
pub giving_itself : (list : List ℕ) (n : ℕ) → 2 ≤ n → n ≤ ROWS → length list ≡ 2 ^ n
    → gives (columns n (columns_of list n)) (base_of list n) list ≡ true → GivenBy list n (columns n (columns_of list n)) (base_of list n)
giving_itself list n low high full e =
    record {
      sized = record { from = low; upto = high; length_is = full };
      of_bits = columns_fit list n;
      entry = gives_at (columns n (columns_of list n)) (base_of list n) list e;
    }

-- at most one matrix and complement give a list
pub only_giving : (list : List ℕ) (n k : ℕ) (rows others : List ℕ) (c d : ℕ) → GivenBy list n rows c → GivenBy list k others d
    → (n ≡ k) × (rows ≡ others) × (c ≡ d)
only_giving list n k rows others c d g h = (
  sym (bits_are list n rows c g) ∙ bits_are list k others d h,
  sym (rows_are list n rows c g) ∙ rows_are list k others d h,
  sym (c_is list n rows c g) ∙ c_is list k others d h,
)

-- ---- each number exactly when it is given
module _ (list : List ℕ) where
  abbrev Flagged : Type 0
  Flagged = (wrong_length list ≡ true) ⊎ (stray_entry list ≡ true)

  misshapen : Flagged ↔ Misshapen list
  misshapen = (means, meant)
    where
      means : Flagged → Misshapen list
      means (inl e) = inl (λ n s. (wrong_length_lem list).0 e n s.from s.upto s.length_is)
      means (inr e) = let s = (stray_entry_lem list).0 e in inr (s.0, record { there = s.1; large = s.2 })

      meant : Misshapen list → Flagged
      meant (inl f) = inl ((wrong_length_lem list).1 (λ n low high full. f n (record { from = low; upto = high; length_is = full })))
      meant (inr s) = inr ((stray_entry_lem list).1 (s.0, s.1.there, s.1.large))

  abbrev Singularly : Type 0
  Singularly = (g : Given list) × (singular g.n g.rows ≡ true)

  some_giving : wrong_length list ≡ false → is_given (bits_of list) list ≡ true → Given list
  some_giving w e =
      let s = length-right list w in
      let t = given_elim list (bits_of list) e in
      record {
        n = bits_of list;
        rows = t.0;
        c = t.1;
        by = record {
          sized = record { from = s.0; upto = s.1; length_is = s.2 };
          of_bits = t.2;
          entry = gives_at t.0 t.1 list t.3;
        };
      }

  eleven : Flagged → list_number list ≡ 11
  eleven (inl e) = length_wrong list (omega (arith, bits_wrong list e))
  eleven (inr e) = entry_wrong list e

  number_of : (g : Given list) (s : Bool) → singular g.n g.rows ≡ s → list_number list ≡ refuse s 3 0
  number_of g s e = given_number list g.n g.rows g.c g.by ∙ ap (λ (b : Bool). refuse b 3 0) e

  -- a table says when each number is due; the number given is
  abbrev due : ℕ → Type 0
  due j =
      cond (eqb j 11) Flagged
      (cond (eqb j 12) ((Flagged → ⊥) × (Given list → ⊥)) (cond (eqb j 3) Singularly (cond (eqb j 0) (RegularlyGiven list) ⊥)))

  number_due : due (list_number list)
  number_due =
      by_test (wrong_length list) (λ w. misshapen (inl w))
      (λ w. by_test (stray_entry list) (λ e. misshapen (inr e))
      (λ e. by_test (is_given (bits_of list) list) (λ i. given (some_giving w i))
      (λ i. subst due (sym (none_gives list w e i)) (
        ⊎_elim (λ (t : wrong_length list ≡ true). true≢false (sym t ∙ w)) (λ (t : stray_entry list ≡ true). true≢false (sym t ∙ e)),
        λ g. true≢false (sym (is_given_lem list g.n g.rows g.c g.by) ∙ i),
      ))))
    where
      misshapen : Flagged → due (list_number list)
      misshapen m = subst due (sym (eleven m)) m

      given : Given list → due (list_number list)
      given g =
          by_test (singular g.n g.rows) (λ s. subst due (sym (number_of g true s)) (g, s)) (λ s. subst due (sym (number_of g false s)) (record { given = g; regular = s }))

  pub gives_11 : (list_number list ≡ 11) ↔ Misshapen list
  gives_11 = Iff.trans (λ e. subst due e number_due, eleven) misshapen

  none_due : (list_number list ≡ 12) ↔ ((Flagged → ⊥) × (Given list → ⊥))
  none_due = (
    λ e. subst due e number_due,
    λ d.
        let w : wrong_length list ≡ false = by_test (wrong_length list) (λ e. absurd (d.0 (inl e))) (λ e. e) in
        none_gives list w (by_test (stray_entry list) (λ e. absurd (d.0 (inr e))) (λ e. e))
        (by_test (is_given (bits_of list) list) (λ e. absurd (d.1 (some_giving w e))) (λ e. e)),
  )

  pub gives_12 : (list_number list ≡ 12) ↔ ((Misshapen list → ⊥) × (Given list → ⊥))
  gives_12 = Iff.trans none_due ((λ d. (λ m. d.0 (misshapen.1 m), d.1)), (λ d. (λ f. d.0 (misshapen.0 f), d.1)))

  singularly : (list_number list ≡ 3) ↔ Singularly
  singularly = (λ e. subst due e number_due, λ d. number_of d.0 true d.1)

  pub regularly : (list_number list ≡ 0) ↔ RegularlyGiven list
  regularly = (λ e. subst due e number_due, λ d. number_of d.given false d.regular)

  repeated : (g : Given list) → (singular g.n g.rows ≡ true) ↔ Twice list
  repeated g = singular_twice list g.n g.rows g.c g.by

  pub gives_3 : (list_number list ≡ 3) ↔ (Given list × Twice list)
  gives_3 = (
    λ e. let d = singularly.0 e in (d.0, (repeated d.0).0 d.1),
    λ d. singularly.1 (d.0, (repeated d.0).1 d.1),
  )

  pub gives_0 : (list_number list ≡ 0) ↔ (Given list × (Twice list → ⊥))
  gives_0 = (
    λ e. let d = regularly.0 e in (d.given, λ r. true≢false (sym ((repeated d.given).1 r) ∙ d.regular)),
    λ d. regularly.1 (record { given = d.0; regular = by_test (singular d.0.n d.0.rows) (λ s. absurd (d.1 ((repeated d.0).0 s))) (λ s. s) }),
  )

-- ---- what goes with a refusal: nothing, and with 3 the z that shows why
module _ (list : List ℕ) where
  pub refused : (list_number list ≡ 0 → ⊥) → recognised list ≡ refused_with (list_number list) (recognised list).z.0
  unfolding recognised
  refused f = go (list_number list) (bits_of list) (rows_of list ++ replicate (ROWS - bits_of list) 0) (complement_of list) (recognised list).z.0 f
    where
      go : (k n : ℕ) (rows : List ℕ) (c z : ℕ) → (k ≡ 0 → ⊥)
          → ◌≡◌ {A = Recognised} (record { number = k; n = handed k n 0; rows = handed k rows (replicate ROWS 0); complement = handed k c 0; z = record { 0 = z } })
          (refused_with k z)
      go zero n rows c z f = absurd (f refl)
      go (suc k) n rows c z f = refl

  pub no_z : (list_number list ≡ 3 → ⊥) → (recognised list).z.0 ≡ 0
  unfolding recognised
  no_z f = rw (ne_eqb (list_number list) 3 f)

  pub shows_3 : list_number list ≡ 3 → FirstAgain list (recognised list).z.0
  shows_3 e =
      let d = (singularly list).0 e in
      let g = d.0 in
      subst (λ (r : Recognised). FirstAgain list r.z.0) (sym (given_three list g.n g.rows g.c g.by d.1))
      (singular_first list g.n g.rows g.c g.by d.1)

-- ---- what goes with 0

-- the matrix that gives the list, regular, with zeros after it up to the room of its array
pub record FoundOrder (list : List ℕ) (r : Recognised) : Type 0 where
  pub by : GivenBy list r.n (take r.n r.rows) r.complement
  pub regular : singular r.n (take r.n r.rows) ≡ false
  pub room : length r.rows ≡ ROWS
  pub spare : (i : ℕ) → r.n ≤ i → get_or r.rows i 0 ≡ 0

order_as : (list : List ℕ) (n : ℕ) (rows : List ℕ) (c : ℕ) → GivenBy list n rows c → singular n rows ≡ false → FoundOrder list (found_as n rows c)
order_as list n rows c g s =
    let zeros : List ℕ = replicate (ROWS - n) 0 in
    let front : take n (rows ++ zeros) ≡ rows = take_at rows zeros n g.of_bits.long in
    record {
      by = subst (λ (l : List ℕ). GivenBy list n l c) (sym front) g;
      regular = rw front s;
      room = omega (arith, length-append rows zeros, length-replicate {A = ℕ} (ROWS - n) 0, g.of_bits.long, g.sized.upto);
      spare = λ i h. padded_at rows (ROWS - n) i ∙ get_or-eq_default rows 0 (omega (arith, g.of_bits.long));
    }

pub found_order : (list : List ℕ) → list_number list ≡ 0 → FoundOrder list (recognised list)
found_order list e =
    let d = (regularly list).0 e in
    let g = d.given in
    subst (FoundOrder list) (sym (given_order list g.n g.rows g.c g.by d.regular)) (order_as list g.n g.rows g.c g.by d.regular)

-- rows that fill the room of their array, and are zero after the first n
module _ (n : ℕ) (rows : List ℕ) (upto : n ≤ ROWS) (room : length rows ≡ ROWS) (spare : (i : ℕ) → n ≤ i → i < ROWS → get_or rows i 0 ≡ 0) where
  front_long : length (take n rows) ≡ n
  front_long = omega (arith, length-take n rows)

  filled_at : (i : ℕ) → i < ROWS → get_or (take n rows) i 0 ≡ get_or rows i 0
  filled_at i h =
      ⊎_elim (λ (l : n ≤ i). get_or-eq_default (take n rows) 0 (omega (arith, front_long)) ∙ sym (spare i l h))
      (λ (l : i < n). get_or-take n rows i 0 l) (le_or_lt n i)

  filled_long : length (take n rows ++ replicate (ROWS - n) 0) ≡ ROWS
  filled_long = omega (arith, length-append (take n rows) (replicate (ROWS - n) 0), length-replicate {A = ℕ} (ROWS - n) 0, front_long)

  filled : take n rows ++ replicate (ROWS - n) 0 ≡ rows
  filled =
      ext_get_or 0 (take n rows ++ replicate (ROWS - n) 0) rows (filled_long ∙ sym room)
      (λ i h. padded_at (take n rows) (ROWS - n) i ∙ filled_at i (omega (arith, filled_long)))

-- an order's own list is recognised as that order
pub own_list : (list : List ℕ) (n : ℕ) (rows : List ℕ) (c : ℕ) → length rows ≡ ROWS → ((i : ℕ) → n ≤ i → i < ROWS → get_or rows i 0 ≡ 0)
    → singular n (take n rows) ≡ false → GivenBy list n (take n rows) c
    → recognised list ≡ record { number = 0; n = n; rows = rows; complement = c; z = record { 0 = 0 } }
own_list list n rows c room spare s g =
    given_order list n (take n rows) c g s
    ∙ ap {B = Recognised} (λ (l : List ℕ). record { number = 0; n = n; rows = l; complement = c; z = record { 0 = 0 } }) (filled n rows g.sized.upto room spare)
