-- What do marked columns say of a matrix, and how is a source found? Assumes nothing.
use mathlib.Core.Path.{◌∙◌, ◌≡◌, ap, ap₂, sym}
use mathlib.Core.Bool.{false, true}
use mathlib.Core.List.{List}
use mathlib.Core.Logic.{⊎_elim}
use Prim.Native.Nat.{◌<◌, ◌^◌, suc, ℕ}
use native.Mathlib.Nat.{lt_trans}
use native.Mathlib.Omega.{arith}
use lib.Pow.{pow-lt, pow_pos}
use lib.ListN.{get_or}
use lib.Bits.{bit_xor, xor_lt, xor_self}
use Rattle.algebra.proofs.Basis.{Basis, solved_zero, used_below}
use Rattle.algebra.proofs.Digits.{bit_place, bits-zero, top_digit, top_xor, xor_cancel_r, xor-eq}
use Rattle.algebra.proofs.Kernel.{independent, top_sum, top_zero, unmarked_elim}
use Rattle.algebra.proofs.Linear.{apply_columns, comb-xor}
use Rattle.algebra.proofs.Pigeon.{covers}
use Rattle.algebra.proofs.Pivots.{Pivots, pivots_apart, rest_lt, rest_off}
use Rattle.algebra.proofs.Search.{any_intro, by_test, first_is, first_none}
use Rattle.algebra.proofs.Singular.{kills_elim, kills_intro, regular_intro, source-target}
use Rattle.algebra.specs.Elimination.{rest, used}
use Rattle.algebra.specs.Matrix.{applied, columns, kernel, kills, marked, singular, source, target}
use Rattle.algebra.specs.Vector.{bit, comb}

-- n pivots leave nothing of a vector of n bits
full : (n : ℕ) (ws qs : List ℕ) → Pivots ws qs n → ((i : ℕ) → i < n → get_or ws i 0 < 2 ^ n) → (y : ℕ) → y < 2 ^ n → rest ws qs n y ≡ 0
full n ws qs p hw y h =
    let below : (m : ℕ) → m < n → get_or qs m 0 < n = λ m q. bit_place n (get_or ws m 0) (get_or qs m 0) (hw m q) (p.on m q) in
    bits-zero n (rest ws qs n y) (rest_lt n ws qs n y hw h)
    (λ i l. let t = covers n (λ m. get_or qs m 0) below (λ a b q r. pivots_apart ws qs n p a b r q) i l in
    ap (bit (rest ws qs n y)) (sym t.2) ∙ rest_off ws qs n p y t.0 t.1)

module _ (n : ℕ) (rows : List ℕ) where
  pub unmarked→singular : (j : ℕ) → j < n → marked (columns n rows) j ≡ false → singular n rows ≡ true
  unfolding singular
  unmarked→singular j hj e =
      let t = unmarked_elim (columns n rows) j e in
      let z = bit_xor (2 ^ j) t.0 in
      let small : z < 2 ^ n = xor_lt n (2 ^ j) t.0 (pow-lt hj) (lt_trans t.1 (pow-lt hj)) in
      any_intro (kills rows) (2 ^ n) z small
      (kills_intro rows z (omega (arith, top_xor j t.0 t.1, pow_pos j))
      (sym (apply_columns n rows z small) ∙ top_zero (columns n rows) j t.0 t.2))

  -- nothing is singular where every column is marked
  pub marked→regular : ((j : ℕ) → j < n → marked (columns n rows) j ≡ true) → singular n rows ≡ false
  marked→regular m = regular_intro n rows (λ z h e. independent (columns n rows) n z m h (apply_columns n rows z h ∙ e))

  -- and then there is no kernel; else it is the first column that isn't marked, with those to its left of which it is the sum
  pub marked→no_kernel : ((j : ℕ) → j < n → marked (columns n rows) j ≡ true) → kernel n rows ≡ 0
  unfolding kernel singular
  marked→no_kernel m = first_none (kills rows) (2 ^ n) (marked→regular m)

  pub unmarked→kernel : (j t : ℕ) → j < n → ((i : ℕ) → i < j → marked (columns n rows) i ≡ true) → t < 2 ^ j
      → comb (columns n rows) t ≡ get_or (columns n rows) j 0 → kernel n rows ≡ bit_xor (2 ^ j) t
  unfolding kernel
  unmarked→kernel j t hj m ht e =
      first_is (kills rows) (2 ^ n) z small
      (kills_intro rows z (omega (arith, top_xor j t ht, pow_pos j)) (sym (apply_columns n rows z small) ∙ top_zero cols j t e))
      (λ y l. by_test (kills rows y) (λ k. absurd (omega (arith, only y l (kills_elim rows y k)))) (λ k. k))
    where
      cols : List ℕ
      cols = columns n rows

      z : ℕ
      z = bit_xor (2 ^ j) t

      small : z < 2 ^ n
      small = xor_lt n (2 ^ j) t (pow-lt hj) (lt_trans ht (pow-lt hj))

      -- the columns to its left have one sum of each kind
      only : (y : ℕ) → y < z → (0 < y) × (applied rows y ≡ 0) → z ≡ y
      only y l k =
          let none : comb cols y ≡ 0 = apply_columns n rows y (lt_trans l small) ∙ k.1 in
          ⊎_elim (λ (h : y < 2 ^ j). absurd (omega (arith, k.0, independent cols j y m h none)))
          (λ (s : (s : ℕ) × (s < 2 ^ j) × (y ≡ bit_xor (2 ^ j) s)).
          let both : comb cols (bit_xor t s.0) ≡ 0 = comb-xor cols t s.0
          ∙ ap₂ bit_xor e (top_sum cols j s.0 (ap (comb cols) (sym s.2) ∙ none)) ∙ xor_self (get_or cols j 0) in
          ap (bit_xor (2 ^ j)) (xor-eq t s.0 (independent cols j (bit_xor t s.0) m (xor_lt j t s.0 ht s.1) both)) ∙ sym s.2)
          (top_digit j y (lt_trans l (xor_lt (suc j) (2 ^ j) t (pow-lt (omega arith)) (lt_trans ht (pow-lt (omega arith))))))

  -- with n entries the source of an address is what its reduction uses
  pub source-used : (c : ℕ) (ws qs ts : List ℕ) → singular n rows ≡ false → Basis (columns n rows) n ws qs ts n → Pivots ws qs n
      → ((i : ℕ) → i < n → get_or ws i 0 < 2 ^ n) → c < 2 ^ n → (y : ℕ) → y < 2 ^ n → source n rows c y ≡ used ws qs ts n (bit_xor y c)
  unfolding target
  source-used c ws qs ts s b p hw hc y hy =
      let x = used ws qs ts n (bit_xor y c) in
      let hx : x < 2 ^ n = used_below (columns n rows) n ws qs ts n b (bit_xor y c) in
      let e : applied rows x ≡ bit_xor y c = sym (apply_columns n rows x hx)
      ∙ solved_zero (columns n rows) n ws qs ts n b (bit_xor y c) (full n ws qs p hw (bit_xor y c) (xor_lt n y c hy hc)) in
      let f : target rows c x ≡ y = ap (λ (k : ℕ). bit_xor k c) e ∙ xor_cancel_r y c in
      ap (source n rows c) (sym f) ∙ source-target n rows c x s hx
