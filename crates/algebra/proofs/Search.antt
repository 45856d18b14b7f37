-- What does a bounded search find? Assumes nothing.
use mathlib.Core.Path.{◌∙◌, ◌≡◌, ap, refl, subst, sym}
use mathlib.Core.Bool.{Bool, ◌&&◌, ◌||◌, false, false≢true, true, true≢false, cond}
use mathlib.Core.Logic.{◌⊎◌, inl, inr, ⊎_elim}
use Prim.Native.Nat.{◌+◌, ◌-◌, ◌<◌, ◌≤◌, suc, zero, ℕ}
use native.Mathlib.Nat.{add-suc, eq-or-lt_of_le, eq-zero-or-pos, le_antisymm, le_refl}
use native.Mathlib.Omega.{arith}
use borrow.Author.Tests.{le-ltb, lt-ltb, ltb-false, ltb-true}
use native.Mathlib.Numerals.{add-one}
use borrow.Author.Count.{below_more}
use Rattle.algebra.specs.Search.{first_passing, least, least_from, any_below}

pub le_or_lt : (m n : ℕ) → (m ≤ n) ⊎ (n < m)
le_or_lt m n = ⊎_elim (λ (e : m - n ≡ 0). inl (omega arith)) (λ (l : 0 < m - n). inr (omega arith)) (eq-zero-or-pos (m - n))

pub same_or : (j x : ℕ) → (j ≡ x) ⊎ (j ≡ x → ⊥)
same_or j x =
    let apart = j - x + (x - j) in
    ⊎_elim (λ (e : apart ≡ 0). inl (omega arith)) (λ (l : 0 < apart). inr (λ e. omega arith)) (eq-zero-or-pos apart)

module _ (p : ℕ → Bool) where
  -- what the search from i over d numbers gives: every number passed over fails, and what is found holds
  pub record Found (d i r : ℕ) : Type 0 where
    pub low : i ≤ r
    pub high : r ≤ i + d
    pub before : (k : ℕ) → i ≤ k → k < r → p k ≡ false
    pub holds : r < i + d → p r ≡ true

  pub from : (d i : ℕ) → Found d i (least_from p d i)
  unfolding least_from
  from zero i =
      record { low = le_refl i; high = omega arith; before = λ k a b. absurd (omega arith); holds = λ h. absurd (omega arith) }
  from (suc d) i = go (p i) refl (from d (suc i))
    where
      go : (b : Bool) → p i ≡ b → Found d (suc i) (least_from p d (suc i))
          → Found (suc d) i (cond b i (least_from p d (suc i)))
      go true e f =
          record { low = le_refl i; high = omega arith; before = λ k a b. absurd (omega arith); holds = λ h. e }
      go false e f = record {
        low = omega (arith, f.low);
        high = omega (arith, f.high, add-suc i d);
        before = λ k a b. ⊎_elim (λ (q : i ≡ k). subst (λ (m : ℕ). p m ≡ false) q e) (λ (q : i < k). f.before k q b) (eq-or-lt_of_le a);
        holds = λ h. f.holds (omega (arith, add-suc i d));
      }

  least-le : (n : ℕ) → least p n ≤ n
  unfolding least
  least-le n = omega (arith, (from n 0).high)

  -- everything below the least fails
  least_before : (n k : ℕ) → k < least p n → p k ≡ false
  unfolding least
  least_before n k h = (from n 0).before k (omega arith) h

  -- what is found holds
  pub least_holds : (n : ℕ) → least p n < n → p (least p n) ≡ true
  unfolding least
  least_holds n h = (from n 0).holds (omega arith)

  -- what holds is found, there or before
  pub least_upto : (n k : ℕ) → p k ≡ true → least p n ≤ k
  least_upto n k e =
      ⊎_elim (λ h. h) (λ (h : k < least p n). absurd (true≢false (sym e ∙ least_before n k h))) (le_or_lt (least p n) k)

  -- the least is the one number that holds with nothing below it
  pub least_is : (n k : ℕ) → k < n → p k ≡ true → ((j : ℕ) → j < k → p j ≡ false) → least p n ≡ k
  least_is n k h e f =
      ⊎_elim (le_antisymm (least_upto n k e)) (λ (l : least p n < k). absurd (true≢false (sym (least_holds n (omega arith)) ∙ f (least p n) l)))
      (le_or_lt k (least p n))

  pub least_none : (n : ℕ) → ((k : ℕ) → k < n → p k ≡ false) → least p n ≡ n
  least_none n f =
      ⊎_elim (le_antisymm (least-le n)) (λ (l : least p n < n). absurd (true≢false (sym (least_holds n l) ∙ f (least p n) l))) (le_or_lt n (least p n))

  pub any_intro : (n k : ℕ) → k < n → p k ≡ true → any_below p n ≡ true
  unfolding any_below
  any_intro n k h e = lt-ltb (least p n) n (omega (arith, least_upto n k e))

  pub any_elim : (n : ℕ) → any_below p n ≡ true → (k : ℕ) × (k < n) × (p k ≡ true)
  unfolding any_below
  any_elim n e = let h = ltb-true (least p n) n e in (least p n, h, least_holds n h)

  pub none_elim : (n k : ℕ) → any_below p n ≡ false → k < n → p k ≡ false
  unfolding any_below
  none_elim n k e h = least_before n k (omega (arith, ltb-false (least p n) n e))

  pub none_intro : (n : ℕ) → ((k : ℕ) → k < n → p k ≡ false) → any_below p n ≡ false
  unfolding any_below
  none_intro n f = le-ltb (least p n) n (omega (arith, least_none n f))

  pub found_lt : (n : ℕ) → any_below p n ≡ true → least p n < n
  unfolding any_below
  found_lt n e = ltb-true (least p n) n e

-- tests that agree find the same
pub any_ext : (p q : ℕ → Bool) (n : ℕ) → ((k : ℕ) → k < n → p k ≡ q k) → any_below p n ≡ any_below q n
any_ext p q n h = go (any_below p n) refl
  where
    go : (b : Bool) → any_below p n ≡ b → b ≡ any_below q n
    go true e = let t = any_elim p n e in sym (any_intro q n t.0 t.1 (sym (h t.0 t.1) ∙ t.2))
    go false e = sym (none_intro q n (λ k l. sym (h k l) ∙ none_elim p n k e l))

pub first_found : (p : ℕ → Bool) (n k : ℕ) → k < n → p k ≡ true → p (first_passing p n) ≡ true
unfolding first_passing
first_found p n k h e = go (any_below p n) refl
  where
    go : (b : Bool) → any_below p n ≡ b → p (cond b (least p n) 0) ≡ true
    go true q = least_holds p n (found_lt p n q)
    go false q = absurd (true≢false (sym e ∙ none_elim p n k q h))

-- nothing before what is found holds
pub first_before : (p : ℕ → Bool) (n k : ℕ) → k < first_passing p n → p k ≡ false
unfolding first_passing
first_before p n k h = go (any_below p n) h
  where
    go : (b : Bool) → k < cond b (least p n) 0 → p k ≡ false
    go true l = least_before p n k l
    go false l = absurd (omega arith)

-- what is found is the one number that holds with nothing below it
pub first_is : (p : ℕ → Bool) (n k : ℕ) → k < n → p k ≡ true → ((j : ℕ) → j < k → p j ≡ false) → first_passing p n ≡ k
unfolding first_passing
first_is p n k h e f = ap (λ (b : Bool). cond b (least p n) 0) (any_intro p n k h e) ∙ least_is p n k h e f

-- where none holds, 0 is given
pub first_none : (p : ℕ → Bool) (n : ℕ) → any_below p n ≡ false → first_passing p n ≡ 0
unfolding first_passing
first_none p n e = ap (λ (b : Bool). cond b (least p n) 0) e

pub first_lt : (p : ℕ → Bool) (n : ℕ) → 0 < n → first_passing p n < n
unfolding first_passing
first_lt p n h = go (any_below p n) refl
  where
    go : (b : Bool) → any_below p n ≡ b → cond b (least p n) 0 < n
    go true e = found_lt p n e
    go false e = h

-- ---- truth values and numbers
pub and_l : (a b : Bool) → a && b ≡ true → a ≡ true
and_l true b e = refl
and_l false b e = e

pub and_r : (a b : Bool) → a && b ≡ true → b ≡ true
and_r true b e = e
and_r false b e = absurd (false≢true e)

pub and_both : (a b : Bool) → a ≡ true → b ≡ true → a && b ≡ true
and_both a b p q = rw (p, q)

-- a disjunction that fails, part by part
pub or_none : (a b : Bool) → a || b ≡ false → (a ≡ false) × (b ≡ false)
or_none true b e = absurd (true≢false e)
or_none false b e = (refl, e)

-- below suc k: below k, or k itself
pub below_suc : (P : ℕ → Type 0) (k : ℕ) → ((i : ℕ) → i < k → P i) → P k → (i : ℕ) → i < suc k → P i
below_suc P k f p i h = below_more P k f p i (omega arith)

-- ---- a search from i up to m
module _ (p : ℕ → Bool) (m i : ℕ) where
  pub found_here : i < m → p i ≡ true → i ≡ least_from p (m - i) i
  unfolding least_from
  found_here h e =
      let more : m - i ≡ suc (m - suc i) = omega arith in
      sym (ap (λ (d : ℕ). least_from p d i) more ∙ ap (λ (b : Bool). cond b i (least_from p (m - suc i) (suc i))) e)

  pub found_later : i < m → p i ≡ false → least_from p (m - i) i ≡ least_from p (m - (i + 1)) (i + 1)
  unfolding least_from
  found_later h e =
      let more : m - i ≡ suc (m - suc i) = omega arith in
      ap (λ (d : ℕ). least_from p d i) more ∙ ap (λ (b : Bool). cond b i (least_from p (m - suc i) (suc i))) e
      ∙ ap (λ (k : ℕ). least_from p (m - k) k) (sym (add-one i))

  pub found_none : m ≤ i → i ≡ least_from p (m - i) i
  unfolding least_from
  found_none h = let none : m - i ≡ 0 = omega arith in sym (ap (λ (d : ℕ). least_from p d i) none)

-- a test passes or it fails
pub by_test : {P : Type 0} (b : Bool) → (b ≡ true → P) → (b ≡ false → P) → P
by_test true f g = f refl
by_test false f g = g refl
