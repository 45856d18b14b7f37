-- What is true of the entries after any number of columns? Assumes nothing.
use mathlib.Core.Path.{◌∙◌, ◌≡◌, ap, ap₂, refl, subst, sym}
use mathlib.Core.Bool.{Bool, false, true, cond}
use mathlib.Core.Logic.{⊎_elim}
use mathlib.Core.List.{List}
use Prim.Native.Nat.{◌%◌, ◌+◌, ◌/◌, ◌<◌, ◌^◌, ◌≤◌, suc, zero, zero-le, ℕ}
use native.Mathlib.Nat.{add-zero, eq-zero-or-pos, le-suc, le_trans, lt_irrefl, lt_of_lt_of_le, not-suc-le-zero}
use native.Mathlib.Numerals.{add-one}
use native.Mathlib.Omega.{arith}
use lib.Arith.{lt-one}
use lib.Pow.{pow_mono}
use lib.Dec.{eqb}
use lib.Count.{count_trailing_zeros, under}
use lib.ListN.{get_or, length, length-replicate, length-set, set}
use lib.Seq.{get_or-set_other, get_or-set_same}
use lib.Bits.{bit_xor}
use borrow.Author.Tests.{eqb-false, eqb-true}
use Rattle.algebra.proofs.Basis.{Basis, rest_of, rest→marked, rest→unmarked, skip, start, used_of}
use Rattle.algebra.proofs.Digits.{bit_cases, bit_here, bit-suc, digit, half_lt}
use Rattle.algebra.proofs.Pivots.{Pivots, insert, pivots_insert, rest_lt}
use Rattle.algebra.proofs.Search.{below_suc}
use Rattle.algebra.specs.Elimination.{Echelon, built, grown, no_entries, with_entry}
use Rattle.algebra.specs.Matrix.{rank}
use Rattle.algebra.specs.Vector.{WORD, bit}

-- the lowest set bit is set
pub lowest_on : (k n : ℕ) → 0 < n → n < 2 ^ k → bit n (count_trailing_zeros k n) ≡ 1
unfolding count_trailing_zeros
lowest_on zero n p h = absurd (lt_irrefl 0 (subst (λ (x : ℕ). 0 < x) (lt-one h) p))
lowest_on (suc k) n p h =
    bit_cases (λ (d : ℕ). n % 2 ≡ d → bit n (under d (count_trailing_zeros k (n / 2))) ≡ 1)
    (λ e. bit-suc n (count_trailing_zeros k (n / 2)) ∙ lowest_on k (n / 2) (omega arith) (half_lt k h))
    (λ e. bit_here n ∙ e) (n % 2) (digit n) refl

pub record Built (room : ℕ) (cols : List ℕ) (n j : ℕ) (e : Echelon) : Type 0 where
  pub basis : Basis cols j e.vectors e.pivots e.tags e.count
  pub pivots : Pivots e.vectors e.pivots e.count
  pub small : (i : ℕ) → i < e.count → get_or e.vectors i 0 < 2 ^ n
  pub count : e.count ≡ rank cols j
  pub few : e.count ≤ j
  pub long_ws : length e.vectors ≡ room
  pub long_qs : length e.pivots ≡ room
  pub long_ts : length e.tags ≡ room

built_empty : (room : ℕ) (cols : List ℕ) (n : ℕ) → Built room cols n 0 (no_entries room)
unfolding rank
built_empty room cols n = record {
  basis = start cols (no_entries room).vectors (no_entries room).pivots (no_entries room).tags;
  pivots = record { on = λ i h. absurd (not-suc-le-zero h); off = λ m i h l. absurd (not-suc-le-zero h) };
  small = λ i h. absurd (not-suc-le-zero h);
  count = refl;
  few = zero-le;
  long_ws = length-replicate {A = ℕ} room 0;
  long_qs = length-replicate {A = ℕ} room 0;
  long_ts = length-replicate {A = ℕ} room 0;
}

module _ (room : ℕ) (cols : List ℕ) (n : ℕ) (hn : n ≤ WORD) (hc : (i : ℕ) → get_or cols i 0 < 2 ^ n)
    (j : ℕ) (hj : j < room) (e : Echelon) (b : Built room cols n j e) where
  built-grown : Built room cols n (suc j) (grown e j (get_or cols j 0))
  unfolding grown rank
  built-grown = go (eqb r 0) refl
    where
      r : ℕ
      r = rest_of e (get_or cols j 0)

      t : ℕ
      t = bit_xor (2 ^ j) (used_of e (get_or cols j 0))

      hr : r < 2 ^ n
      hr = rest_lt n e.vectors e.pivots e.count (get_or cols j 0) b.small (hc j)

      kept : (l : List ℕ) (v i : ℕ) → i < e.count → get_or (set l e.count v) i 0 ≡ get_or l i 0
      kept l v i h = get_or-set_other l e.count i v 0 (λ q. omega (arith, q))

      put : (l : List ℕ) (v : ℕ) → length l ≡ room → get_or (set l e.count v) e.count 0 ≡ v
      put l v h = get_or-set_same l e.count v 0 (omega (arith, b.few))

      nw : get_or (set e.vectors e.count r) e.count 0 ≡ r
      nw = put e.vectors r b.long_ws

      nb : (r ≡ 0 → ⊥)
          → bit (get_or (set e.vectors e.count r) e.count 0) (get_or (set e.pivots e.count (count_trailing_zeros WORD r)) e.count 0) ≡ 1
      nb f =
          ap₂ bit nw (put e.pivots (count_trailing_zeros WORD r) b.long_qs)
          ∙ lowest_on WORD r (⊎_elim (λ (z : r ≡ 0). absurd (f z)) (λ p. p) (eq-zero-or-pos r)) (lt_of_lt_of_le hr (pow_mono hn))

      go : (x : Bool) → eqb r 0 ≡ x → Built room cols n (suc j) (cond x e (with_entry e r t))
      go true q =
          let z : r ≡ 0 = eqb-true r 0 q in record {
            basis = skip cols j e.vectors e.pivots e.tags e.count b.basis z;
            pivots = b.pivots;
            small = b.small;
            count = rw (rest→unmarked cols j e.vectors e.pivots e.tags e.count b.basis z) (b.count ∙ sym (add-zero (rank cols j)));
            few = omega (arith, b.few);
            long_ws = b.long_ws;
            long_qs = b.long_qs;
            long_ts = b.long_ts;
          }
      go false q =
          let f : r ≡ 0 → ⊥ = eqb-false r 0 q in
          let ws' = set e.vectors e.count r in
          let qs' = set e.pivots e.count (count_trailing_zeros WORD r) in
          let ts' = set e.tags e.count t in
          record {
            basis = rw (add-one e.count) (insert cols j e.vectors e.pivots e.tags e.count b.basis ws' qs' ts'
                (kept e.vectors r) (kept e.pivots (count_trailing_zeros WORD r)) (kept e.tags t) nw (nb f) (put e.tags t b.long_ts));
            pivots = rw (add-one e.count) (pivots_insert e.vectors e.pivots ws' qs' e.count (get_or cols j 0) b.pivots
                (kept e.vectors r) (kept e.pivots (count_trailing_zeros WORD r)) nw (nb f));
            small = λ i h. below_suc (λ (i : ℕ). get_or ws' i 0 < 2 ^ n) e.count
                (λ i h. rw (kept e.vectors r i h) (b.small i h)) (rw nw hr) i (omega arith);
            count = rw (rest→marked cols j e.vectors e.pivots e.tags e.count b.basis f) (ap (λ (x : ℕ). x + 1) b.count);
            few = omega (arith, b.few);
            long_ws = length-set e.vectors e.count r ∙ b.long_ws;
            long_qs = length-set e.pivots e.count (count_trailing_zeros WORD r) ∙ b.long_qs;
            long_ts = length-set e.tags e.count t ∙ b.long_ts;
          }

pub built_is : (room : ℕ) (cols : List ℕ) (n : ℕ) → n ≤ WORD → ((i : ℕ) → get_or cols i 0 < 2 ^ n) → (j : ℕ) → j ≤ room → Built room cols n j (built room cols j)
unfolding built
built_is room cols n hn hc zero hj = built_empty room cols n
built_is room cols n hn hc (suc j) hj = built-grown room cols n hn hc j hj (built room cols j) (built_is room cols n hn hc j (le_trans (le-suc j) hj))

-- ---- there are no more entries than columns
choose_few : (x : Bool) (e : Echelon) (v t : ℕ) → (cond x e (with_entry e v t)).count ≤ suc e.count
choose_few true e v t = le-suc e.count
choose_few false e v t = omega arith

built_few : (room : ℕ) (cols : List ℕ) (j : ℕ) → (built room cols j).count ≤ j
unfolding built grown
built_few room cols zero = zero-le
built_few room cols (suc j) =
    let e = built room cols j in
    let v = rest_of e (get_or cols j 0) in
    omega (arith, built_few room cols j, choose_few (eqb v 0) e v (bit_xor (2 ^ j) (used_of e (get_or cols j 0))))

pub built_count : (room : ℕ) (cols : List ℕ) (j : ℕ) (e : Echelon) → e ≡ built room cols j → e.count ≤ j
built_count room cols j e q = subst (λ (x : Echelon). x.count ≤ j) (sym q) (built_few room cols j)

-- ---- only the first k columns count
pub built_same : (room : ℕ) (cols cols' : List ℕ) (k : ℕ) → ((i : ℕ) → i < k → get_or cols i 0 ≡ get_or cols' i 0) → built room cols k ≡ built room cols' k
unfolding built
built_same room cols cols' zero h = refl
built_same room cols cols' (suc k) h = ap₂ (λ (e : Echelon) (v : ℕ). grown e k v) (built_same room cols cols' k (λ i l. h i (omega arith))) (h k (omega arith))

-- ---- one column more
pub built_next : (room : ℕ) (cols : List ℕ) (j : ℕ) (e r : Echelon) → e ≡ built room cols j → r ≡ grown e j (get_or cols j 0) → r ≡ built room cols (j + 1)
unfolding built
built_next room cols j e r p q = q ∙ ap (λ (x : Echelon). grown x j (get_or cols j 0)) p ∙ ap (built room cols) (sym (add-one j))
