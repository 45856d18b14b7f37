-- Why are n different numbers below n all of them? Assumes nothing.
use mathlib.Core.Path.{◌∙◌, ◌≡◌, ap, refl, subst, sym}
use mathlib.Core.Bool.{Bool, false, true, cond}
use mathlib.Core.Logic.{⊎_elim}
use Prim.Native.Nat.{◌<◌, ◌^◌, ◌≤◌, suc, zero, ℕ}
use native.Mathlib.Nat.{le_of_suc-le-suc, le_refl, not-suc-le-zero}
use native.Mathlib.Omega.{arith}
use lib.Arith.{lt_of_le-ne}
use lib.Dec.{eqb, ltb}
use borrow.Author.Tests.{eq-eqb, eqb-false, eqb-true, le-ltb, lt-ltb, ne_eqb}
use lib.Pow.{pow-lt}
use Rattle.algebra.proofs.Search.{any_elim, below_suc, le_or_lt, least_holds, least_upto, none_elim, same_or}
use Rattle.algebra.specs.Search.{any_below, least}

pub pigeon : (n : ℕ) (f : ℕ → ℕ) → ((i : ℕ) → i < suc n → f i < n) → ((i j : ℕ) → i < j → j < suc n → f i ≡ f j → ⊥) → ⊥
pigeon zero f r a = not-suc-le-zero (r 0 (le_refl 1))
pigeon (suc n) f r a = pigeon n g gr ga
  where
    g : ℕ → ℕ
    g i = cond (eqb (f i) n) (f (suc n)) (f i)

    hit : (i : ℕ) → f i ≡ n → g i ≡ f (suc n)
    hit i e = ap (λ (b : Bool). cond b (f (suc n)) (f i)) (eq-eqb (f i) n e)

    miss : (i : ℕ) → (f i ≡ n → ⊥) → g i ≡ f i
    miss i e = ap (λ (b : Bool). cond b (f (suc n)) (f i)) (ne_eqb (f i) n e)

    gr : (i : ℕ) → i < suc n → g i < n
    gr i h =
        ⊎_elim
        (λ (t : f i ≡ n). subst (λ (k : ℕ). k < n) (sym (hit i t))
        (lt_of_le-ne (le_of_suc-le-suc (r (suc n) (omega arith))) (λ e. a i (suc n) h (omega arith) (t ∙ sym e))))
        (λ (t : f i ≡ n → ⊥). subst (λ (k : ℕ). k < n) (sym (miss i t)) (lt_of_le-ne (le_of_suc-le-suc (r i (omega arith))) t))
        (same_or (f i) n)

    ga : (i j : ℕ) → i < j → j < suc n → g i ≡ g j → ⊥
    ga i j l h e =
        ⊎_elim
        (λ (t : f i ≡ n).
        ⊎_elim (λ (u : f j ≡ n). a i j l (omega arith) (t ∙ sym u))
        (λ (u : f j ≡ n → ⊥). a j (suc n) h (omega arith) (sym (miss j u) ∙ sym e ∙ hit i t)) (same_or (f j) n))
        (λ (t : f i ≡ n → ⊥).
        ⊎_elim (λ (u : f j ≡ n). a i (suc n) (omega arith) (omega arith) (sym (miss i t) ∙ e ∙ hit j u))
        (λ (u : f j ≡ n → ⊥). a i j l (omega arith) (sym (miss i t) ∙ e ∙ miss j u)) (same_or (f j) n))
        (same_or (f i) n)

-- n different numbers below n: each number below n is among them
pub covers : (n : ℕ) (f : ℕ → ℕ) → ((i : ℕ) → i < n → f i < n) → ((i j : ℕ) → i < j → j < n → f i ≡ f j → ⊥)
    → (y : ℕ) → y < n → (i : ℕ) × (i < n) × (f i ≡ y)
covers n f r a y h = go (any_below (λ i. eqb (f i) y) n) refl
  where
    missing : any_below (λ i. eqb (f i) y) n ≡ false → ⊥
    missing e = pigeon n g gr ga
      where
        g : ℕ → ℕ
        g i = cond (ltb i n) (f i) y

        inside : (i : ℕ) → i < n → g i ≡ f i
        inside i l = ap (λ (b : Bool). cond b (f i) y) (lt-ltb i n l)

        outside : g n ≡ y
        outside = ap (λ (b : Bool). cond b (f n) y) (le-ltb n n (le_refl n))

        gr : (i : ℕ) → i < suc n → g i < n
        gr = below_suc (λ (i : ℕ). g i < n) n (λ i l. subst (λ (k : ℕ). k < n) (sym (inside i l)) (r i l)) (subst (λ (k : ℕ). k < n) (sym outside) h)

        ga : (i j : ℕ) → i < j → j < suc n → g i ≡ g j → ⊥
        ga i j l p = below_suc (λ (j : ℕ). (i : ℕ) → i < j → g i ≡ g j → ⊥) n
            (λ j q i l e. a i j l q (sym (inside i (omega arith)) ∙ e ∙ inside j q))
            (λ i l d. eqb-false (f i) y (none_elim (λ i. eqb (f i) y) n i e l) (sym (inside i l) ∙ d ∙ outside)) j p i l

    go : (b : Bool) → any_below (λ i. eqb (f i) y) n ≡ b → (i : ℕ) × (i < n) × (f i ≡ y)
    go true e = let t = any_elim (λ i. eqb (f i) y) n e in (t.0, t.1, eqb-true (f t.0) y t.2)
    go false e = absurd (missing e)

-- ---- numbers told apart in so many bits
inject_le : (k l : ℕ) (f : ℕ → ℕ) → ((i : ℕ) → i < 2 ^ k → f i < 2 ^ l) → ((i j : ℕ) → i < 2 ^ k → j < 2 ^ k → f i ≡ f j → i ≡ j) → k ≤ l
inject_le k l f r a =
    ⊎_elim (λ (h : k ≤ l). h)
    (λ (h : l < k).
    let p : 2 ^ l < 2 ^ k = pow-lt h in
    absurd (pigeon (2 ^ l) f (λ i q. r i (omega arith)) (λ i j q s e. omega (arith, a i j (omega arith) (omega arith) e))))
    (le_or_lt k l)

-- what is injective on 2 ^ k numbers, with values among those of h on 2 ^ l numbers
pub span_le : (k l : ℕ) (g h : ℕ → ℕ) → ((z : ℕ) → z < 2 ^ k → (s : ℕ) × (s < 2 ^ l) × (h s ≡ g z)) → ((x y : ℕ) → x < 2 ^ k → y < 2 ^ k → g x ≡ g y → x ≡ y) → k ≤ l
span_le k l g h w a = inject_le k l f (λ z q. f_lt z q) (λ x y p q e. a x y p q (sym (f_is x p) ∙ ap h e ∙ f_is y q))
  where
    f : ℕ → ℕ
    f z = least (λ s. eqb (h s) (g z)) (2 ^ l)

    f_lt : (z : ℕ) → z < 2 ^ k → f z < 2 ^ l
    f_lt z q = let t = w z q in omega (arith, t.1, least_upto (λ s. eqb (h s) (g z)) (2 ^ l) t.0 (eq-eqb (h t.0) (g z) t.2))

    f_is : (z : ℕ) → z < 2 ^ k → h (f z) ≡ g z
    f_is z q = eqb-true (h (f z)) (g z) (least_holds (λ s. eqb (h s) (g z)) (2 ^ l) (f_lt z q))
