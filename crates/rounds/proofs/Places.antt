-- How does code find the zero columns of φ? Assumes nothing.
use mathlib.Core.Path.{◌∙◌, ◌≡◌, ap, sym}
use mathlib.Core.Bool.{Bool, ◌||◌, cond, false, not, true, true≢false}
use mathlib.Core.Logic.{⊎_elim}
use mathlib.Core.List.{List}
use Prim.Native.Nat.{◌+◌, ◌-◌, ◌/◌, ◌<◌, ◌^◌, ◌≤◌, suc, zero, ℕ}
use native.Mathlib.Nat.{le_antisymm, zero-add}
use native.Mathlib.Numerals.{add-one}
use native.Mathlib.Omega.{arith}
use borrow.Author.Tests.{le-ltb, lt-ltb}
use Rattle.std.specs.Prelude.{Option, None, Some}
use Rattle.std.specs.Option.{MatchOption, unwrap_or}
use Rattle.std.specs.List.{list_any, range_with_len}
use lib.Dec.{eqb, ltb}
use lib.ListN.{get_or}
use Rattle.algebra.specs.Search.{any_below, least, least_from}
use Rattle.algebra.proofs.Linear.{comb_one}
use Rattle.algebra.proofs.Search.{from, le_or_lt}
use Rattle.planning.specs.Columns.{phi, zero_column}
use Rattle.planning.specs.Making.{busy}
use Rattle.planning.proofs.Parts.{phi_at}

pub phi_column : (m : ℕ) (cols : List ℕ) (j : ℕ) → j < m → get_or cols j 0 / 2 ^ m ≡ get_or (phi m cols) j 0
phi_column m cols j h = sym (phi_at m cols j h ∙ ap (λ (k : ℕ). k / 2 ^ m) (comb_one cols j))

pub zero_column_lem : (m : ℕ) (cols : List ℕ) (j v : ℕ) → j < m → v ≡ get_or cols j 0 / 2 ^ m → eqb v 0 ≡ zero_column (phi m cols) j
unfolding zero_column
zero_column_lem m cols j v h e = ap (λ (k : ℕ). eqb k 0) (e ∙ phi_column m cols j h)

-- ---- a walk over the numbers from i on asks what a search asks
any_ranged : (p : ℕ → Bool) (d i : ℕ) → list_any p (range_with_len i d) ≡ ltb (least_from p d i) (i + d)
unfolding least_from
any_ranged p zero i = sym (le-ltb i (i + zero) (omega arith))
any_ranged p (suc d) i = go (any_ranged p d (suc i)) (p i)
  where
    go : list_any p (range_with_len (suc i) d) ≡ ltb (least_from p d (suc i)) (suc i + d)
        → (b : Bool) → b || list_any p (range_with_len (i + 1) d) ≡ ltb (cond b i (least_from p d (suc i))) (i + suc d)
    go later true = sym (lt-ltb i (i + suc d) (omega arith))
    go later false =
        ap (λ (k : ℕ). list_any p (range_with_len k d)) (add-one i) ∙ later ∙ ap (ltb (least_from p d (suc i))) (omega arith)

pub busy_ranged : (m : ℕ) (cols : List ℕ) → list_any (λ j. not (zero_column (phi m cols) j)) (range_with_len 0 m) ≡ busy m cols
unfolding busy any_below least
busy_ranged m cols =
    any_ranged (λ j. not (zero_column (phi m cols) j)) m 0
    ∙ ap (ltb (least_from (λ j. not (zero_column (phi m cols) j)) m 0)) (zero-add m)

module _ (p : ℕ → Bool) (m i : ℕ) (h : i ≤ m) where
  abbrev found : ℕ
  found = least_from p (m - i) i

  found_end : ((k : ℕ) → i ≤ k → k < m → p k ≡ false) → m ≡ found
  found_end none =
      let f = from p (m - i) i in
      ⊎_elim (λ (l : m ≤ found). omega (arith, f.high))
      (λ (l : found < m). absurd (true≢false (sym (f.holds (omega arith)) ∙ none found f.low l))) (le_or_lt m found)

  found_first : (y : ℕ) → i ≤ y → y < m → p y ≡ true → ((k : ℕ) → i ≤ k → k < y → p k ≡ false) → y ≡ found
  found_first y low high passes before =
      let f = from p (m - i) i in
      ⊎_elim
      (λ (l : y ≤ found).
      ⊎_elim (le_antisymm l) (λ (l : y < found). absurd (true≢false (sym passes ∙ f.before y low l))) (le_or_lt found y))
      (λ (l : found < y). absurd (true≢false (sym (f.holds (omega arith)) ∙ before found f.low l))) (le_or_lt y found)

  pub found_ranged : (r : Option ℕ)
      → MatchOption r ((k : ℕ) → i ≤ k → k < m → p k ≡ false) (λ y. (i ≤ y) × (y < m) × (p y ≡ true) × ((k : ℕ) → i ≤ k → k < y → p k ≡ false))
      → unwrap_or r m ≡ found
  found_ranged None none = found_end none
  found_ranged (Some y) some = found_first y some.0 some.1 some.2 some.3
