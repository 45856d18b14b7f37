-- Why does the plan for a nonsingular matrix run and make the order? Assumes nothing.
use mathlib.Core.Path.{◌∙◌, ◌≡◌, ap, refl, subst, sym}
use mathlib.Core.Bool.{false}
use mathlib.Core.List.{List, [], ◌∷◌, map}
use Prim.Native.Nat.{◌%◌, ◌*◌, ◌+◌, ◌-◌, ◌/◌, ◌<◌, ◌^◌, ◌≤◌, suc, ℕ}
use native.Mathlib.Omega.{arith}
use lib.Pow.{pow-lt}
use lib.ListN.{get_or, length, length-map}
use lib.Seq.{ext_get_or}
use lib.Bits.{and_comm, bit_xor}
use Rattle.algebra.proofs.Columns.{apply_transpose, columns_at, columns-length, columns-lt}
use Rattle.algebra.proofs.Digits.{bits_same, shr_below}
use Rattle.algebra.proofs.Linear.{apply_bit, apply_columns, comb-lt, comb_one, comb-zero, dot_unit, comb-after, after-length}
use Rattle.algebra.proofs.Lists.{All}
use Rattle.algebra.proofs.Parts.{dry_by_bits}
use Rattle.algebra.proofs.Rank.{rank-le}
use Rattle.algebra.proofs.Search.{by_test, none_intro}
use Rattle.algebra.proofs.Singular.{kills_elim, regular_zero}
use Rattle.algebra.specs.Matrix.{after, applied, columns, kills, rank, singular, spills, target}
use Rattle.algebra.specs.Vector.{bit, comb, parity}
use Rattle.planning.proofs.Dimension.{rank_span}
use Rattle.planning.proofs.Parts.{phi-comb}
use Rattle.planning.proofs.Rounds.{Good, after_good, idle, pass_moves, rounds_good, rounds-length, rounds-move, rounds_stop, up_le}
use Rattle.planning.proofs.Step1.{delta_regular}
use Rattle.planning.proofs.Step2.{delta_moved, moved_rank, operations-length}
use Rattle.planning.proofs.Step2.{operations-inverse, operations_low, operations-lt, operations_twice}
use Rattle.planning.specs.Columns.{phi}
use Rattle.planning.specs.Making.{divided_up, first_after, operations, pass_matrices, rounds}
use Rattle.planning.specs.Pass.{complemented, performed}
use Rattle.planning.specs.Facts.{nonzero}
use Rattle.planning.specs.Inner.{RoundReady}

-- the matrix of a pass that can run
pub record MatrixRuns (n b m : ℕ) (rows : List ℕ) : Type 0 where
  pub all : length rows ≡ n
  pub small : (i : ℕ) → get_or rows i 0 < 2 ^ n
  pub regular : singular n rows ≡ false
  pub dry : spills b m rows ≡ false

-- a good pass can run
good_runs : (n b m : ℕ) (p : List ℕ) → m ≤ n → Good n b m p → MatrixRuns n b m (columns n p)
good_runs n b m p hm g = record {
  all = columns-length n p;
  small = λ i. columns-lt n p i (omega (arith, g.long));
  regular = unfold singular in none_intro (kills (columns n p)) (2 ^ n) (λ z h. by_test (kills (columns n p) z) (λ q.
      let k = kills_elim (columns n p) z q in
      absurd (omega (arith, k.0, g.regular z h (sym (apply_transpose p n z (g.small z)) ∙ k.1)))) (λ q. q));
  dry = dry_by_bits b m (columns n p) (λ z h e.
      let q : applied (columns n p) z ≡ comb p z = apply_transpose p n z (g.small z) in
      ap (λ (k : ℕ). k / 2 ^ m) q ∙ g.dry z h (sym (ap (λ (k : ℕ). k / 2 ^ b % 2 ^ (m - b)) q) ∙ e));
}

good_run_all : (n b m : ℕ) → m ≤ n → (ps : List (List ℕ)) → All (Good n b m) ps → All (MatrixRuns n b m) (map (columns n) ps)
good_run_all n b m hm [] g = tt
good_run_all n b m hm (p ∷ ps) g = (good_runs n b m p hm g.0, good_run_all n b m hm ps g.1)

pub first_length : (ps : List (List ℕ)) (q : List ℕ) → length (first_after ps q) ≡ length ps
unfolding first_after
first_length [] q = refl
first_length (p ∷ ps) q = refl

-- the rows of the matrix whose columns are those of A
pub rows_back : (n : ℕ) (rows q : List ℕ) → length rows ≡ n → ((i : ℕ) → i < n → get_or rows i 0 < 2 ^ n) → length q ≡ n
    → ((j : ℕ) → j < n → comb q (2 ^ j) ≡ applied rows (2 ^ j)) → columns n q ≡ rows
rows_back n rows q hr hs hq e =
    ext_get_or 0 (columns n q) rows (columns-length n q ∙ sym hr)
    (λ i h.
    let hi : i < n = subst (λ (k : ℕ). i < k) (columns-length n q) h in
    bits_same n (get_or (columns n q) i 0) (get_or rows i 0) (columns-lt n q i (omega (arith, hq))) (hs i hi)
    (λ j l.
    ap (λ (k : ℕ). bit k j) (columns_at n q i hi) ∙ apply_bit q (2 ^ i) j ∙ ap parity (and_comm (get_or q j 0) (2 ^ i)) ∙ dot_unit i (get_or q j 0)
    ∙ ap (λ (k : ℕ). bit k i) (sym (comb_one q j) ∙ e j l) ∙ apply_bit rows (2 ^ j) i
    ∙ ap parity (and_comm (get_or rows i 0) (2 ^ j)) ∙ dot_unit j (get_or rows i 0)))

-- ---- a nonsingular A of n rows
module _ (n b m : ℕ) (hb : b < m) (hm : m ≤ n) (rows : List ℕ) (hr : length rows ≡ n) (hs : singular n rows ≡ false) where
  abbrev cols : List ℕ
  cols = columns n rows

  abbrev P : List ℕ
  P = operations n m (columns n rows)

  abbrev moved : List ℕ
  moved = after (columns n rows) (operations n m (columns n rows))

  cols_small : (y : ℕ) → comb cols y < 2 ^ n
  cols_small y = comb-lt n cols y (λ j l. columns-lt n rows j (omega (arith, hr)))

  cols_regular : (z : ℕ) → z < 2 ^ n → comb cols z ≡ 0 → z ≡ 0
  cols_regular z h e = regular_zero n rows z hs h (sym (apply_columns n rows z h) ∙ e)

  P_regular : (x : ℕ) → x < 2 ^ n → comb P x ≡ 0 → x ≡ 0
  P_regular x h e = sym (operations_twice n m hm cols x h) ∙ ap (comb P) e ∙ comb-zero P

  -- A P, as the rounds need it
  pub moved_ready : RoundReady n m moved
  moved_ready = record {
    long = after-length cols P ∙ operations-length n m hm cols;
    small = λ y. rw comb-after (cols_small (comb P y));
    regular = λ z h e. P_regular z h (cols_regular (comb P z) (operations-lt n m hm cols z h) (sym (comb-after cols P z) ∙ e));
    trailing = λ t h e. delta_regular n m hm cols cols_small cols_regular t h (sym (delta_moved n m hm cols t h) ∙ e);
  }

  pub moved_nonzero : nonzero m moved ≡ rank (phi m cols) m
  unfolding nonzero
  moved_nonzero = moved_rank n m hm cols

  enough : nonzero m moved ≤ m
  enough = omega (arith, moved_nonzero, rank-le (phi m cols) m)

  -- the matrices of the passes: P⁻¹ is P
  matrices_are : pass_matrices n b m rows ≡ map (columns n) (first_after (rounds m n b m moved) P)
  unfolding pass_matrices
  matrices_are = ap (λ (q : List ℕ). map (columns n) (first_after (rounds m n b m moved) q)) (operations-inverse n m hm cols)

  all_good : All (Good n b m) (first_after (rounds m n b m moved) P)
  all_good = go (rounds m n b m moved) (rounds_good n b m hb hm m moved moved_ready enough)
    where
      go : (ps : List (List ℕ)) → All (Good n b m) ps → All (Good n b m) (first_after ps P)
      go [] g = unfold first_after in tt
      go (p ∷ ps) g =
          unfold first_after in (
            after_good n b m (omega arith) hm p P g.0 (operations-length n m hm cols) (operations-lt n m hm cols) P_regular (operations_low n m hm cols),
            g.1,
          )

  -- every pass can run
  pub plan_runs : All (MatrixRuns n b m) (pass_matrices n b m rows)
  plan_runs = rw matrices_are (good_run_all n b m hm (first_after (rounds m n b m moved) P) all_good)

  -- rounds number rank φ divided by m - b, rounded up; passes are one more
  pub plan_length : length (pass_matrices n b m rows) ≡ suc (divided_up (rank (phi m (columns n rows)) m) (m - b))
  plan_length =
      ap length matrices_are ∙ length-map (first_after (rounds m n b m moved) P) (columns n) ∙ first_length (rounds m n b m moved) P
      ∙ rounds-length n b m hb hm m moved moved_ready enough ∙ ap (λ (u : ℕ). suc (divided_up u (m - b))) moved_nonzero

  -- the passes with their complements, performed in order, take every x to Ax xor c
  pub plan_moves : (c x : ℕ) → x < 2 ^ n → performed (complemented (pass_matrices n b m rows) c) x ≡ target rows c x
  plan_moves c x h =
      ap (λ (l : List (List ℕ)). performed (complemented l c) x) matrices_are
      ∙ go (rounds m n b m moved) (omega (arith, rounds-length n b m hb hm m moved moved_ready enough)) (rounds_good n b m hb hm m moved moved_ready enough)
      ∙ rounds-move n b m hb hm m moved moved_ready enough c (comb P x) (operations-lt n m hm cols x h)
      ∙ ap (λ (u : ℕ). bit_xor u c) (comb-after cols P (comb P x) ∙ ap (comb cols) (operations_twice n m hm cols x h) ∙ apply_columns n rows x h)
      ∙ is_target
    where
      is_target : bit_xor (applied rows x) c ≡ target rows c x
      is_target = unfold target in refl

      same : (p : List ℕ) → Good n b m p → (d : ℕ) → target (columns n (after p P)) d x ≡ target (columns n p) d (comb P x)
      same p g d =
          pass_moves n (after p P) d x (rw comb-after (g.small (comb P x)))
          ∙ ap (λ (u : ℕ). bit_xor u d) (comb-after p P x) ∙ sym (pass_moves n p d (comb P x) (g.small (comb P x)))

      go : (ps : List (List ℕ)) → 0 < length ps → All (Good n b m) ps
          → performed (complemented (map (columns n) (first_after ps P)) c) x ≡ performed (complemented (map (columns n) ps) c) (comb P x)
      go [] hp g = absurd (omega (arith, hp))
      go (p ∷ []) hp g = unfold first_after complemented performed in same p g.0 c
      go (p ∷ q ∷ ps) hp g = unfold first_after complemented performed in ap (performed (complemented (columns n q ∷ map (columns n) ps) c)) (same p g.0 0)

  -- rank φ is at most m and at most n - m
  rank_low : rank (phi m cols) m ≤ n - m
  rank_low =
      rank_span (phi m cols) m (n - m) (λ s. s)
      (λ z h. (comb (phi m cols) z, rw (phi-comb m cols z h) (shr_below n m (comb cols z) hm (cols_small z)), refl))

  -- so the passes number at most half of n, and one more
  pub plan_half : 2 * length (pass_matrices n b m rows) ≤ n + 2
  plan_half = omega (arith, plan_length, up_le (rank (phi m cols) m) (m - b) (omega arith), rank_low, rank-le (phi m cols) m)

  -- with no rounds the only pass is A
  pub plan_none : ((i : ℕ) → i < n → get_or rows i 0 < 2 ^ n) → rank (phi m (columns n rows)) m ≡ 0 → pass_matrices n b m rows ≡ rows ∷ []
  unfolding first_after
  plan_none hl e =
      let idle-now = rounds_stop m n b m moved (idle m moved (moved_nonzero ∙ e)) in
      matrices_are ∙ ap (λ (l : List (List ℕ)). map (columns n) (first_after l P)) idle-now
      ∙ ap (λ (l : List ℕ). l ∷ []) (rows_back n rows (after moved P) hr hl (after-length moved P ∙ operations-length n m hm cols)
      (λ j h.
      comb-after moved P (2 ^ j) ∙ comb-after cols P (comb P (2 ^ j)) ∙ ap (comb cols) (operations_twice n m hm cols (2 ^ j) (pow-lt h))
      ∙ apply_columns n rows (2 ^ j) (pow-lt h)))
