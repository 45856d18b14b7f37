-- Why has every address a source, and what does the inverse do? Assumes nothing.
use mathlib.Core.Path.{◌∙◌, ◌≡◌, ap, sym}
use mathlib.Core.Bool.{false}
use mathlib.Core.List.{List, map}
use Prim.Native.Nat.{◌<◌, ◌^◌, ◌≤◌, ℕ}
use native.Mathlib.Nat.{lt_of_lt_of_le}
use native.Mathlib.Omega.{arith}
use lib.Pow.{pow-lt, pow_mono, pow_pos}
use lib.ListN.{get_or, length, length-map}
use lib.Seq.{ext_get_or}
use lib.Dec.{eqb}
use lib.Bits.{xor_lt, xor_zero_r}
use borrow.Author.Tests.{eq-eqb}
use Rattle.algebra.proofs.Columns.{apply_transpose, columns_at, columns-length, identity-length, map_unit}
use Rattle.algebra.proofs.Linear.{apply_linear, apply_lt, comb_linear, comb-lt, comb_one, comb-zero, linear_after, linear_ext, linear_self}
use Rattle.algebra.proofs.Pigeon.{covers}
use Rattle.algebra.proofs.Search.{least_upto}
use Rattle.algebra.proofs.Singular.{regular_inj, regular_intro, source-target, target-source}
use Rattle.algebra.specs.Matrix.{applied, columns, identity, inverse, singular, source, target}
use Rattle.algebra.specs.Vector.{comb, unit_vectors}

module _ (n : ℕ) (rows : List ℕ) (s : singular n rows ≡ false) (h : length rows ≤ n) where
  pub target-lt : (c x : ℕ) → c < 2 ^ n → target rows c x < 2 ^ n
  unfolding target
  target-lt c x hc = xor_lt n (applied rows x) c (lt_of_lt_of_le (apply_lt rows x) (pow_mono h)) hc

  -- every address has a source
  pub source-lt : (c y : ℕ) → c < 2 ^ n → y < 2 ^ n → source n rows c y < 2 ^ n
  unfolding source
  source-lt c y hc hy =
      let apart : (i j : ℕ) → i < j → j < 2 ^ n → target rows c i ≡ target rows c j → ⊥ =
      λ i j l q e. omega (arith, regular_inj n rows c i j s (omega arith) q e) in
      let t = covers (2 ^ n) (target rows c) (λ i l. target-lt c i hc) apart y hy in
      omega (arith, least_upto (λ x. eqb (target rows c x) y) (2 ^ n) t.0 (eq-eqb (target rows c t.0) y t.2))

  pub target-source_is : (c y : ℕ) → c < 2 ^ n → y < 2 ^ n → target rows c (source n rows c y) ≡ y
  target-source_is c y hc hy = target-source n rows c y (source-lt c y hc hy)

  pub apply_source : (y : ℕ) → y < 2 ^ n → applied rows (source n rows 0 y) ≡ y
  unfolding target
  apply_source y hy = sym (xor_zero_r (applied rows (source n rows 0 y))) ∙ target-source_is 0 y (pow_pos n) hy

  source_apply : (x : ℕ) → x < 2 ^ n → source n rows 0 (applied rows x) ≡ x
  unfolding target
  source_apply x hx = ap (source n rows 0) (sym (xor_zero_r (applied rows x))) ∙ source-target n rows 0 x s hx

  -- the columns of the inverse are addresses, and A undoes the matrix of them
  sources : List ℕ
  sources = map (source n rows 0) (unit_vectors n 0)

  sources_lt : (y : ℕ) → comb sources y < 2 ^ n
  unfolding sources identity
  sources_lt y =
      let long : length sources ≡ n = length-map (unit_vectors n 0) (source n rows 0) ∙ identity-length n in
      comb-lt n sources y (λ j l. let h : j < n = omega arith in rw (map_unit (source n rows 0) n j h) (source-lt 0 (2 ^ j) (pow_pos n) (pow-lt h)))

  apply_sources : (y : ℕ) → y < 2 ^ n → applied rows (comb sources y) ≡ y
  unfolding sources
  apply_sources =
      linear_ext (λ y. applied rows (comb sources y)) (λ y. y)
      (linear_after (applied rows) (comb sources) (apply_linear rows) (comb_linear sources)) linear_self n
      (λ j h. ap (applied rows) (comb_one sources j ∙ map_unit (source n rows 0) n j h) ∙ apply_source (2 ^ j) (pow-lt h))

  pub inverse_apply : (y : ℕ) → y < 2 ^ n → applied (inverse n rows) y ≡ source n rows 0 y
  unfolding inverse sources
  inverse_apply y hy =
      let x = comb sources y in
      apply_transpose sources n y (sources_lt y) ∙ sym (ap (source n rows 0) (sym (apply_sources y hy)) ∙ source_apply x (sources_lt y))

-- ---- a matrix, as its list of columns, that undoes itself is its own inverse
module _ (n : ℕ) (q : List ℕ) (lt : (x : ℕ) → x < 2 ^ n → comb q x < 2 ^ n) (twice : (x : ℕ) → x < 2 ^ n → comb q (comb q x) ≡ x) where
  regular : singular n (columns n q) ≡ false
  regular = regular_intro n (columns n q) (λ z h e. sym (twice z h) ∙ ap (comb q) (sym (apply_transpose q n z (lt z h)) ∙ e) ∙ comb-zero q)

  inverse_unit : (j : ℕ) → j < n → applied (inverse n (columns n q)) (2 ^ j) ≡ get_or q j 0
  unfolding target
  inverse_unit j h =
      let y = comb q (2 ^ j) in
      let small : y < 2 ^ n = lt (2 ^ j) (pow-lt h) in
      let back : target (columns n q) 0 y ≡ 2 ^ j = xor_zero_r (applied (columns n q) y) ∙ apply_transpose q n y (lt y small) ∙ twice (2 ^ j) (pow-lt h) in
      inverse_apply n (columns n q) regular (omega (arith, columns-length n q)) (2 ^ j) (pow-lt h)
      ∙ ap (source n (columns n q) 0) (sym back) ∙ source-target n (columns n q) 0 y regular small ∙ comb_one q j

  pub own_inverse : length q ≡ n → columns n (inverse n (columns n q)) ≡ q
  own_inverse l =
      let long = columns-length n (inverse n (columns n q)) in
      ext_get_or 0 (columns n (inverse n (columns n q))) q (long ∙ sym l)
      (λ i h. let hi : i < n = omega arith in columns_at n (inverse n (columns n q)) i hi ∙ inverse_unit i hi)
