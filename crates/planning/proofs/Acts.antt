-- What do adding, placing and products of columns do? Assumes nothing.
use mathlib.Core.Path.{◌∙◌, ◌≡◌, ap, refl, sym}
use mathlib.Core.Bool.{Bool, false, true, cond}
use mathlib.Core.Logic.{⊎_elim}
use mathlib.Core.List.{List, [], ◌++◌, ◌∷◌}
use Prim.Native.Nat.{◌<◌, ◌^◌, ◌≤◌, suc, ℕ}
use native.Mathlib.Nat.{div-one, zero-add}
use native.Mathlib.Omega.{arith}
use lib.Pow.{pow-lt}
use lib.Dec.{eqb}
use lib.ListN.{length}
use lib.Bits.{bit_xor, xor_lt, xor_zero_r}
use borrow.Author.Tests.{eq-eqb, eqb-true, ne_eqb}
use Rattle.algebra.proofs.Digits.{xor_cancel_r}
use Rattle.algebra.proofs.Linear.{comb-identity, comb_linear, comb_one, comb-xor, linear_after, linear_comb}
use Rattle.algebra.proofs.Linear.{linear_ext, linear_self, listed_lt, listed_units, listed_xor, map-zero, terms_zero}
use Rattle.algebra.proofs.Listed.{listed_at, listed_length}
use Rattle.algebra.proofs.Lists.{All, Asc, off_above, off_below}
use Rattle.algebra.proofs.Search.{same_or}
use Rattle.algebra.specs.Matrix.{identity}
use Rattle.algebra.specs.Search.{listed}
use Rattle.algebra.specs.Vector.{bit, comb, unless_zero}
use Rattle.planning.specs.Columns.{adding, placing}
use Rattle.planning.specs.Making.{came_from}

-- ---- a matrix that adds columns which it does not change undoes itself
module _ (g : ℕ → ℕ) (n : ℕ) (small : (j : ℕ) → j < n → g j < 2 ^ n) (nil : (j i : ℕ) → unless_zero (bit (g j) i) (g i) ≡ 0) where
  abbrev G : ℕ → ℕ
  G x = comb (listed g n 0) x

  pub adding_is : (x : ℕ) → x < 2 ^ n → comb (adding g n) x ≡ bit_xor x (G x)
  unfolding adding identity
  adding_is x h = listed_xor (λ j. 2 ^ j) g n 0 x ∙ rw (listed_units, comb-identity n x h) refl

  pub twice_zero : (x : ℕ) → G (G x) ≡ 0
  twice_zero x =
      linear_comb G (comb_linear (listed g n 0)) (listed g n 0) x
      ∙ map-zero G g n 0 x (λ j. ap (comb (listed g n 0)) (sym (div-one (g j))) ∙ terms_zero g n 0 (g j) (nil j))

  pub adding-lt : (x : ℕ) → x < 2 ^ n → comb (adding g n) x < 2 ^ n
  adding-lt x h = rw (adding_is x h) (xor_lt n x (G x) h (listed_lt g n n 0 x (λ j l. small j (omega arith))))

  pub adding_twice : (x : ℕ) → x < 2 ^ n → comb (adding g n) (comb (adding g n) x) ≡ x
  adding_twice x h =
      adding_is (comb (adding g n) x) (adding-lt x h)
      ∙ ap (λ (u : ℕ). bit_xor u (G u)) (adding_is x h)
      ∙ ap (bit_xor (bit_xor x (G x))) (comb-xor (listed g n 0) x (G x) ∙ ap (bit_xor (G x)) (twice_zero x) ∙ xor_zero_r (G x))
      ∙ xor_cancel_r x (G x)

-- ---- a swap of columns undoes itself
pub placing_at : (σ : ℕ → ℕ) (n j : ℕ) → j < n → comb (placing σ n) (2 ^ j) ≡ 2 ^ σ j
unfolding placing
placing_at σ n j h =
    comb_one (listed (λ j. 2 ^ σ j) n 0) j ∙ listed_at 0 (λ j. 2 ^ σ j) n 0 j h ∙ ap (λ (k : ℕ). 2 ^ σ k) (zero-add j)

pub placing-length : (σ : ℕ → ℕ) (n : ℕ) → length (placing σ n) ≡ n
unfolding placing
placing-length σ n = listed_length (λ j. 2 ^ σ j) n 0

module _ (σ : ℕ → ℕ) (n : ℕ) (stays : (j : ℕ) → j < n → σ j < n) (back : (j : ℕ) → σ (σ j) ≡ j) where
  pub swap_lt : (x : ℕ) → comb (placing σ n) x < 2 ^ n
  unfolding placing
  swap_lt x = listed_lt (λ j. 2 ^ σ j) n n 0 x (λ j l. pow-lt (stays j (omega arith)))

  pub swap_twice : (x : ℕ) → x < 2 ^ n → comb (placing σ n) (comb (placing σ n) x) ≡ x
  swap_twice =
      let S = comb (placing σ n) in
      let linear = comb_linear (placing σ n) in
      linear_ext (λ x. S (S x)) (λ x. x) (linear_after S S linear linear) linear_self n
      (λ j h. ap S (placing_at σ n j h) ∙ placing_at σ n (σ j) (stays j h) ∙ ap (λ (k : ℕ). 2 ^ k) (back j))

-- ---- partners
module _ (x y : ℕ) (xs ys : List ℕ) where
  pub hit_x : (j : ℕ) → j ≡ x → came_from (x ∷ xs) (y ∷ ys) j ≡ y
  unfolding came_from
  hit_x j e = rw (came_from, eq-eqb j x e) refl

  hit_y : (j : ℕ) → (j ≡ x → ⊥) → j ≡ y → came_from (x ∷ xs) (y ∷ ys) j ≡ x
  unfolding came_from
  hit_y j f e = rw (came_from, ne_eqb j x f, eq-eqb j y e) refl

  pub miss : (j : ℕ) → (j ≡ x → ⊥) → (j ≡ y → ⊥) → came_from (x ∷ xs) (y ∷ ys) j ≡ came_from xs ys j
  unfolding came_from
  miss j f e = rw (came_from, ne_eqb j x f, ne_eqb j y e) refl

pub came_from_out : (xs ys : List ℕ) (z : ℕ) → All (λ x. z ≡ x → ⊥) xs → All (λ y. z ≡ y → ⊥) ys → came_from xs ys z ≡ z
unfolding came_from
came_from_out [] ys z hx hy = refl
came_from_out (x ∷ xs) [] z hx hy = refl
came_from_out (x ∷ xs) (y ∷ ys) z hx hy = miss x y xs ys z hx.0 hy.0 ∙ came_from_out xs ys z hx.1 hy.1

pub came_from-lt : (xs ys : List ℕ) (n j : ℕ) → All (λ x. x < n) xs → All (λ y. y < n) ys → j < n → came_from xs ys j < n
unfolding came_from
came_from-lt [] ys n j hx hy h = h
came_from-lt (x ∷ xs) [] n j hx hy h = h
came_from-lt (x ∷ xs) (y ∷ ys) n j hx hy h = go (eqb j x) (eqb j y) (came_from-lt xs ys n j hx.1 hy.1 h)
  where
    go : (b c : Bool) → came_from xs ys j < n → cond b y (cond c x (came_from xs ys j)) < n
    go true true l = hy.0
    go true false l = hy.0
    go false true l = hx.0
    go false false l = l

pub came_from_back : (xs ys : List ℕ) (b : ℕ) → Asc xs → Asc ys → All (λ x. x < b) xs → All (λ y. b ≤ y) ys → (j : ℕ)
    → came_from xs ys (came_from xs ys j) ≡ j
unfolding came_from
came_from_back [] ys b ax ay hx hy j = refl
came_from_back (x ∷ xs) [] b ax ay hx hy j = refl
came_from_back (x ∷ xs) (y ∷ ys) b ax ay hx hy j = step (came_from_back xs ys b ax.1 ay.1 hx.1 hy.1 j)
  where
    out_x : came_from xs ys x ≡ x
    out_x = came_from_out xs ys x (off_above x (suc x) xs (omega arith) ax.0) (off_above x b ys hx.0 hy.1)

    out_y : came_from xs ys y ≡ y
    out_y = came_from_out xs ys y (off_below y b xs hy.0 hx.1) (off_above y (suc y) ys (omega arith) ay.0)

    step : came_from xs ys (came_from xs ys j) ≡ j → came_from (x ∷ xs) (y ∷ ys) (came_from (x ∷ xs) (y ∷ ys) j) ≡ j
    step ih =
        ⊎_elim (λ (e : j ≡ x). ap (came_from (x ∷ xs) (y ∷ ys)) (hit_x x y xs ys j e) ∙ hit_y x y xs ys y (λ q. omega (arith, q, hx.0, hy.0)) refl ∙ sym e)
        (λ (f : j ≡ x → ⊥). ⊎_elim (λ (e : j ≡ y). ap (came_from (x ∷ xs) (y ∷ ys)) (hit_y x y xs ys j f e) ∙ hit_x x y xs ys x refl ∙ sym e)
        (λ (g : j ≡ y → ⊥). ap (came_from (x ∷ xs) (y ∷ ys)) (miss x y xs ys j f g)
        ∙ miss x y xs ys (came_from xs ys j)
        (λ q. f (sym ih ∙ ap (came_from xs ys) q ∙ out_x))
        (λ q. g (sym ih ∙ ap (came_from xs ys) q ∙ out_y))
        ∙ ih) (same_or j y)) (same_or j x)

-- one more pair that changes places
pub came_from_snoc : (xs ys : List ℕ) (x y j : ℕ) → length xs ≡ length ys
    → All (λ z. x ≡ z → ⊥) xs → All (λ z. x ≡ z → ⊥) ys → All (λ z. y ≡ z → ⊥) xs → All (λ z. y ≡ z → ⊥) ys
    → came_from (xs ++ (x ∷ [])) (ys ++ (y ∷ [])) j ≡ cond (eqb j x) y (cond (eqb j y) x (came_from xs ys j))
unfolding came_from
came_from_snoc [] [] x y j l a b c d = refl
came_from_snoc [] (v ∷ ys) x y j l a b c d = absurd (omega (arith, l))
came_from_snoc (u ∷ xs) [] x y j l a b c d = absurd (omega (arith, l))
came_from_snoc (u ∷ xs) (v ∷ ys) x y j l a b c d =
    go (eqb j u) (eqb j v) (eqb j x) (eqb j y) refl refl refl refl (came_from_snoc xs ys x y j (omega (arith, l)) a.1 b.1 c.1 d.1)
  where
    go : (p q r s : Bool) → eqb j u ≡ p → eqb j v ≡ q → eqb j x ≡ r → eqb j y ≡ s
        → came_from (xs ++ (x ∷ [])) (ys ++ (y ∷ [])) j ≡ cond r y (cond s x (came_from xs ys j))
        → ◌≡◌ {A = ℕ} (cond p v (cond q u (came_from (xs ++ (x ∷ [])) (ys ++ (y ∷ [])) j)))
        (cond r y (cond s x (cond p v (cond q u (came_from xs ys j)))))
    go false false r s e f g h ih = ih
    go true q true s e f g h ih = absurd (a.0 (sym (eqb-true j x g) ∙ eqb-true j u e))
    go true q false true e f g h ih = absurd (c.0 (sym (eqb-true j y h) ∙ eqb-true j u e))
    go true q false false e f g h ih = refl
    go false true true s e f g h ih = absurd (b.0 (sym (eqb-true j x g) ∙ eqb-true j v f))
    go false true false true e f g h ih = absurd (d.0 (sym (eqb-true j y h) ∙ eqb-true j v f))
    go false true false false e f g h ih = refl

-- ---- more on adding
module _ (g : ℕ → ℕ) (n : ℕ) where
  pub adding-length : length (adding g n) ≡ n
  unfolding adding
  adding-length = listed_length (λ j. bit_xor (2 ^ j) (g j)) n 0

  pub adding_at : (j : ℕ) → j < n → comb (adding g n) (2 ^ j) ≡ bit_xor (2 ^ j) (g j)
  unfolding adding
  adding_at j h =
      comb_one (listed (λ j. bit_xor (2 ^ j) (g j)) n 0) j ∙ listed_at 0 (λ j. bit_xor (2 ^ j) (g j)) n 0 j h
      ∙ ap (λ (k : ℕ). bit_xor (2 ^ k) (g k)) (zero-add j)
