-- `lists::find` meets its contract: the length, then the difference, then whether A is singular. Assumes nothing.
use mathlib.Core.Path.{◌≡◌, sym, ap, ap₂, subst, ◌∙◌}
use mathlib.Core.List.{List, ◌++◌}
use Prim.Native.Nat.{ℕ, suc, ◌-◌, ◌%◌, ◌≤◌, ◌<◌, ◌^◌}
use native.Mathlib.Omega.{arith}
use lib.ListN.{get_or, length, replicate, take}
use lib.Pow.{pow_pos}
use lib.Seq.{take_at}
use Rattle.std.specs.Prelude.{Option, Some, None, Result, Err, MatchOption}
use Rattle.std.proofs.lemmas.Option.{MatchOption-at_none, MatchOption-at_some}
use Rattle.std.proofs.lemmas.Result.{err_from_is_err_and}
use Rattle.std.specs.Option.{ok_or}
use Rattle.bank.specs.Limits.{ROWS}
use Rattle.bank.specs.declared.refusal.Refusal.{Refusal}
use Rattle.bank.specs.declared.refusal.Refusal.TheVariants.{Entries}
use Rattle.algebra.specs.Matrix.{columns, kernel}
use Rattle.algebra.proofs.Columns.{columns-length}
use Rattle.algebra.proofs.Singular.{kernel_regular, kernel-singular}
use Rattle.lists.specs.Apart.{all_bits, apart_at, base_of, columns_of}
use Rattle.lists.specs.Found.{answered}
use Rattle.lists.specs.Recognised.{recognised}
use Rattle.lists.specs.Targets.{bits_for}
use Rattle.lists.specs.declared.Recognised.{Recognised}
use Rattle.lists.proofs.Given.{bits_low, length-right}
use Rattle.lists.proofs.Judged.{by_number, eleven, length_wrong, refused_with, taken, three, twelve}
use Rattle.lists.proofs.Only.{columns_of_length}
use Rattle.lists.proofs.find.Goals as goal

-- where the length is right
shaped : (list : List ℕ) {o : Option ℕ} (n : ℕ) → o ≡ Some n
    → MatchOption o (bits_for (length list) ≡ suc ROWS) (λ n. (n ≤ ROWS) × (n ≡ bits_for (length list)))
    → (2 ≤ n) × (n ≤ ROWS) × (length list ≡ 2 ^ n)
shaped list n is found =
    let s = MatchOption-at_some (bits_for (length list) ≡ suc ROWS) (λ n. (n ≤ ROWS) × (n ≡ bits_for (length list))) n is found in
    subst (λ (k : ℕ). (2 ≤ k) × (k ≤ ROWS) × (length list ≡ 2 ^ k)) (sym s.1) (length-right list (bits_low list (omega (arith, s.0, s.1))))

-- where it isn't
unsized : (list : List ℕ) (o : Option ℕ) (r : Refusal) → ◌≡◌ {A = Result ℕ Refusal} (Err r) (ok_or o Entries) → o ≡ None
    → MatchOption o (bits_for (length list) ≡ suc ROWS) (λ n. (n ≤ ROWS) × (n ≡ bits_for (length list)))
    → answered (Err r) ≡ recognised list
unsized list o r given none found =
    let e : r ≡ Entries = cc in
    let beyond = MatchOption-at_none (bits_for (length list) ≡ suc ROWS) (λ n. (n ≤ ROWS) × (n ≡ bits_for (length list))) none found in
    ap (λ (r : Refusal). answered (Err r)) e
    ∙ sym (by_number list 10 (length_wrong list (omega (arith, beyond))) (λ e. omega (arith, e)))

-- ---- the only matrix and complement that can give the list, and the difference from them
module _ (list : List ℕ) (n : ℕ) where
  abbrev matrix : List ℕ
  matrix = columns n (columns_of list n)

  base_is : (size : ℕ) → size ≡ 2 ^ n → get_or list 0 0 % size ≡ base_of list n
  base_is size e = ap (λ (k : ℕ). get_or list 0 0 % k) e

  -- the columns, without the zeros after them
  module _ (cols : List ℕ) (held : cols ≡ columns_of list n ++ replicate (ROWS - n) 0) where
    cols_are : take n cols ≡ columns_of list n
    cols_are = ap (take n) held ∙ take_at (columns_of list n) (replicate (ROWS - n) 0) n (columns_of_length list n)

    width : length (take n cols) ≡ n
    width = ap length cols_are ∙ columns_of_length list n

    off_is : (size off : ℕ) → size ≡ 2 ^ n → off ≡ all_bits (apart_at list (get_or list 0 0 % size) (take n cols)) (length list)
        → off ≡ all_bits (apart_at list (base_of list n) (columns_of list n)) (length list)
    off_is size off e o = o ∙ ap₂ (λ (b : ℕ) (l : List ℕ). all_bits (apart_at list b l) (length list)) (base_is size e) cols_are

    -- the rows are those of A, with zeros after them
    module _ (rows : List ℕ) (made : rows ≡ columns n (take n cols) ++ replicate (ROWS - n) 0) where
      rows_are : rows ≡ matrix ++ replicate (ROWS - n) 0
      rows_are = made ∙ ap (λ (l : List ℕ). columns n l ++ replicate (ROWS - n) 0) cols_are

      kernel_is : (z : ℕ) → z ≡ kernel (length (take n rows)) (take n rows) → z ≡ kernel n matrix
      kernel_is z e =
          let long = columns-length n (columns_of list n) in
          e
          ∙ ap (λ (l : List ℕ). kernel (length l) l) (ap (take n) rows_are ∙ take_at matrix (replicate (ROWS - n) 0) n long)
          ∙ ap (λ (k : ℕ). kernel k matrix) long

-- ---- what the answers say of the list, by the difference
module _ (list : List ℕ) (n : ℕ) {o : Option ℕ} (some : o ≡ Some n)
    (found : MatchOption o (bits_for (length list) ≡ suc ROWS) (λ n. (n ≤ ROWS) × (n ≡ bits_for (length list)))) {cols : List ℕ} {size off : ℕ}
    (held : cols ≡ columns_of list n ++ replicate (ROWS - n) 0) (power : size ≡ 2 ^ n)
    (apart : off ≡ all_bits (apart_at list (get_or list 0 0 % size) (take n cols)) (length list)) where
  sizes : (2 ≤ n) × (n ≤ ROWS) × (length list ≡ 2 ^ n)
  sizes = shaped list n some found

  difference : off ≡ all_bits (apart_at list (base_of list n) (columns_of list n)) (length list)
  difference = off_is list n cols held size off power apart

  beyond : size ≤ off → recognised list ≡ refused_with 11 0
  beyond h = eleven list n sizes.0 sizes.1 sizes.2 off difference (subst (λ (k : ℕ). k ≤ off) power h)

  given_by_none : off < size → (off ≡ 0 → ⊥) → recognised list ≡ refused_with 12 0
  given_by_none h = twelve list n sizes.0 sizes.1 sizes.2 off difference (subst (λ (k : ℕ). off < k) power h)

  -- the kernel of the matrix decides
  module _ (e : off ≡ 0) {rows : List ℕ} (made : rows ≡ columns n (take n cols) ++ replicate (ROWS - n) 0) (z : ℕ)
      (is : z ≡ kernel (length (take n rows)) (take n rows)) where
    least : z ≡ kernel n (matrix list n)
    least = kernel_is list n cols held rows made z is

    singular_one : (z ≡ 0 → ⊥) → refused_with 3 z ≡ recognised list
    singular_one f =
        ap (refused_with 3) least
        ∙ sym (three list n sizes.0 sizes.1 sizes.2 off difference e (kernel-singular n (matrix list n) (λ k. f (least ∙ k))))

    regular_one : z ≡ 0
        → ◌≡◌ {A = Recognised} (record { number = 0; n = n; rows = rows; complement = get_or list 0 0 % size; z = record { 0 = 0 } }) (recognised list)
    regular_one k =
        ap₂ {C = Recognised} (λ (rows : List ℕ) (b : ℕ). record { number = 0; n = n; rows = rows; complement = b; z = record { 0 = 0 } })
        (rows_are list n cols held rows made) (base_is list n size power)
        ∙ sym (taken list n sizes.0 sizes.1 sizes.2 off difference e (kernel_regular n (matrix list n) (sym least ∙ k)))

pub returns-in_err-n : goal.returns-in_err-n
returns-in_err-n c =
    let p = err_from_is_err_and c.from_residual.result c.from_residual.ensures.1 in
    rw (p.1, p.2) (unsized c.args.list.now _ _ c.in_err-n.ensures.value c.in_err-n.ensures.ok_part c.bits_for.ensures)

pub bounds-list-0 : goal.bounds-list-0
bounds-list-0 c =
    let s = shaped c.args.list.now _ c.in_ok-n.ensures.ok_part c.bits_for.ensures in
    subst (λ (k : ℕ). 0 < k) (sym s.2) (pow_pos c.in_ok-n.n)

pub columns_of-cols-requires : goal.columns_of-cols-requires
columns_of-cols-requires c = let s = shaped c.args.list.now _ c.in_ok-n.ensures.ok_part c.bits_for.ensures in (s.1, s.2)

pub apart_from-off-requires : goal.apart_from-off-requires
apart_from-off-requires c =
    let list = c.args.list.now in
    let s = shaped list _ c.in_ok-n.ensures.ok_part c.bits_for.ensures in
    let w = width list c.in_ok-n.n _ c.columns_of-cols.ensures in
    (omega (arith, w, s.1), s.2 ∙ ap (λ (k : ℕ). 2 ^ k) (sym w))

pub returns-then-size-off : goal.returns-then-size-off
returns-then-size-off c =
    sym (beyond c.args.list.now c.in_ok-n.n c.in_ok-n.ensures.ok_part c.bits_for.ensures c.columns_of-cols.ensures c.power-size.ensures
    c.apart_from-off.ensures c.if-size-off.true)

pub returns-then-off-ne0 : goal.returns-then-off-ne0
returns-then-off-ne0 c =
    sym (given_by_none c.args.list.now c.in_ok-n.n c.in_ok-n.ensures.ok_part c.bits_for.ensures c.columns_of-cols.ensures c.power-size.ensures
    c.apart_from-off.ensures c.if-size-off.false c.if-off-ne0.true)

pub returns-in_default : goal.returns-in_default
returns-in_default c =
    let some : c.kernel.result ≡ 0 → ⊥ = (λ e. omega arith) in
    ap (refused_with 3) c.from.ensures
    ∙ singular_one c.args.list.now c.in_ok-n.n c.in_ok-n.ensures.ok_part c.bits_for.ensures c.columns_of-cols.ensures c.power-size.ensures
    c.apart_from-off.ensures c.if-off-ne0.false c.columns-matrix.ensures _ c.kernel.ensures some

pub returns-in-0 : goal.returns-in-0
returns-in-0 c =
    regular_one c.args.list.now c.in_ok-n.n c.in_ok-n.ensures.ok_part c.bits_for.ensures c.columns_of-cols.ensures c.power-size.ensures
    c.apart_from-off.ensures c.if-off-ne0.false c.columns-matrix.ensures _ c.kernel.ensures c.in-0.is
