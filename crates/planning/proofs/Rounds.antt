-- What do all rounds do? Assumes nothing.
use mathlib.Core.Path.{◌∙◌, ◌≡◌, ap, refl, subst, sym}
use mathlib.Core.Bool.{Bool, false, not, true}
use mathlib.Core.Logic.{⊎_elim}
use mathlib.Core.List.{List, [], ◌∷◌, map}
use Prim.Native.Nat.{◌%◌, ◌*◌, ◌+◌, ◌-◌, ◌/◌, ◌<◌, ◌^◌, ◌≤◌, suc, zero, ℕ}
use native.Mathlib.Nat.{add-div_right, div-eq_of_lt, div-le_of_le-mul, mul-one, mul-suc, zero-add}
use native.Mathlib.Numerals.{add-one}
use native.Mathlib.Omega.{arith}
use lib.Dec.{eqb}
use lib.ListN.{get_or, length}
use lib.Bits.{bit_xor, xor_zero_r}
use borrow.Author.Tests.{eqb-false, not-true}
use Rattle.algebra.proofs.Basis.{span_zero}
use Rattle.algebra.proofs.Columns.{apply_transpose}
use Rattle.algebra.proofs.Linear.{comb-zero, linear_self, comb-after, after-length}
use Rattle.algebra.proofs.Listed.{which_member, which_none}
use Rattle.algebra.proofs.Lists.{All}
use Rattle.algebra.proofs.Search.{any_elim, by_test, le_or_lt, none_elim}
use Rattle.algebra.specs.Matrix.{columns, target, after}
use Rattle.algebra.specs.Search.{which}
use Rattle.algebra.specs.Vector.{comb}
use Rattle.planning.proofs.Parts.{phi-comb, zero_there}
use Rattle.planning.proofs.Round.{E_dry, S_low, S_lt, S_twice, erases-lt, erases_twice, next_is, next_nonzero, next_ready, swaps-length}
use Rattle.planning.specs.Columns.{phi, zero_column}
use Rattle.planning.specs.Making.{busy, divided_up, erases, round_left, round_pass, rounds, swaps}
use Rattle.planning.specs.Pass.{Pass, complemented, performed}
use Rattle.planning.specs.Facts.{Ends, nonzero}
use Rattle.planning.specs.Inner.{RoundReady}

-- ---- whether φ is zero
all_of_none : (P : ℕ → Type 0) (l : List ℕ) → length l ≡ 0 → All P l
all_of_none P [] e = tt
all_of_none P (x ∷ l) e = absurd (omega (arith, e))

nonzero_none : (m : ℕ) (cols : List ℕ) → nonzero m cols ≡ 0 → (j : ℕ) → j < m → get_or (phi m cols) j 0 ≡ 0
unfolding nonzero
nonzero_none m cols e j h =
    let nz : ℕ → Bool = λ j. not (zero_column (phi m cols) j) in
    by_test (zero_column (phi m cols) j) (zero_there (phi m cols) j)
    (λ q. absurd (which_member (λ i. ⊥) nz m 0 (all_of_none (λ i. ⊥) (which nz m 0) e) j (omega arith) (omega arith) (ap not q)))

idle_none : (m : ℕ) (cols : List ℕ) → busy m cols ≡ false → nonzero m cols ≡ 0
unfolding busy nonzero
idle_none m cols e =
    let nz : ℕ → Bool = λ j. not (zero_column (phi m cols) j) in
    ap length (which_none nz m 0 (λ i a b. none_elim nz m i e (omega arith)))

pub busy_some : (m : ℕ) (cols : List ℕ) → busy m cols ≡ true → 0 < nonzero m cols
unfolding busy zero_column
busy_some m cols e =
    let t = any_elim (λ j. not (zero_column (phi m cols) j)) m e in
    let v = get_or (phi m cols) t.0 0 in
    ⊎_elim (λ (z : nonzero m cols ≤ 0). absurd (eqb-false v 0 (not-true (eqb v 0) t.2) (nonzero_none m cols (omega arith) t.0 t.1)))
    (λ h. h) (le_or_lt (nonzero m cols) 0)

-- ---- the rounds, step by step
pub rounds_stop : (g n b m : ℕ) (cols : List ℕ) → busy m cols ≡ false → rounds g n b m cols ≡ cols ∷ []
unfolding rounds
rounds_stop zero n b m cols e = refl
rounds_stop (suc g) n b m cols e = rw (rounds, e)

pub rounds_go : (g n b m : ℕ) (cols : List ℕ) → busy m cols ≡ true
    → rounds (suc g) n b m cols ≡ round_pass n b m cols ∷ rounds g n b m (round_left n b m cols)
unfolding rounds
rounds_go g n b m cols e = rw (rounds, e)

pub idle : (m : ℕ) (cols : List ℕ) → nonzero m cols ≡ 0 → busy m cols ≡ false
idle m cols e = by_test (busy m cols) (λ q. absurd (omega (arith, busy_some m cols q, e))) (λ q. q)

-- ---- rounding up
up_zero : (k : ℕ) → 0 < k → divided_up 0 k ≡ 0
unfolding divided_up
up_zero k h = ap (λ (x : ℕ). x / k) (zero-add (k - 1)) ∙ div-eq_of_lt (omega arith)

pub up_le : (a k : ℕ) → 0 < k → divided_up a k ≤ a
unfolding divided_up
up_le zero k h = omega (arith, up_zero k h)
up_le (suc a) k h = div-le_of_le-mul k (big a)
  where
    big : (a : ℕ) → suc a + (k - 1) ≤ k * suc a
    big zero = omega (arith, mul-one k)
    big (suc a) = omega (arith, big a, mul-suc k (suc a))

up_step : (a k : ℕ) → 0 < a → 0 < k → divided_up a k ≡ suc (divided_up (a - k) k)
unfolding divided_up
up_step a k ha hk =
    ⊎_elim
    (λ (l : k ≤ a). ap (λ (x : ℕ). x / k) (omega arith) ∙ add-div_right (a - k + (k - 1)) hk ∙ add-one ((a - k + (k - 1)) / k))
    (λ (l : a < k).
    let z : (a - k + (k - 1)) / k ≡ 0 = div-eq_of_lt (omega arith) in
    let y : (a - 1) / k ≡ 0 = div-eq_of_lt (omega arith) in
    ap (λ (x : ℕ). x / k) (omega arith) ∙ add-div_right (a - 1) hk ∙ add-one ((a - 1) / k) ∙ ap suc (y ∙ sym z))
    (le_or_lt k a)

-- ---- a pass before others has no complement
pub complemented_more : (f : List ℕ) (fs : List (List ℕ)) (c : ℕ) → 0 < length fs
    → complemented (f ∷ fs) c ≡ record { rows = f; complement = 0 } ∷ complemented fs c
unfolding complemented
complemented_more f [] c h = absurd (omega arith)
complemented_more f (g ∷ fs) c h = refl

-- ---- a pass that can run, as its columns
pub record Good (n b m : ℕ) (p : List ℕ) : Type 0 where
  pub long : length p ≡ n
  pub small : (y : ℕ) → comb p y < 2 ^ n
  pub regular : (z : ℕ) → z < 2 ^ n → comb p z ≡ 0 → z ≡ 0
  pub dry : (z : ℕ) → z < 2 ^ m → comb p z / 2 ^ b % 2 ^ (m - b) ≡ 0 → comb p z / 2 ^ m ≡ 0

module _ (n b m : ℕ) (hb : b ≤ m) (hm : m ≤ n) where
  -- E S
  pub round_good : (cols : List ℕ) → RoundReady n m cols → Good n b m (round_pass n b m cols)
  unfolding erases
  round_good cols k =
      let s = swaps n b m cols in
      let e = erases n b m (after cols s) in
      record {
        long = after-length e s ∙ swaps-length n b m cols;
        small = λ y. rw comb-after (erases-lt n b m hb hm cols k (comb s y) (S_lt n b m hb hm cols y));
        regular = λ z h q.
            let c : comb s z ≡ 0
            = sym (erases_twice n b m hb hm cols k (comb s z) (S_lt n b m hb hm cols z)) ∙ ap (comb e) (sym (comb-after e s z) ∙ q) ∙ comb-zero e in
            sym (S_twice n b m hb hm cols z h) ∙ ap (comb s) c ∙ comb-zero s;
        dry = λ z h q. ap (λ (u : ℕ). u / 2 ^ m) (comb-after e s z)
            ∙ E_dry n b m hm (after cols s) hb (comb s z) (S_low n b m hb hm cols z h) (rw comb-after at q);
      }

  -- F: where φ is zero nothing reaches the lower part
  last_good : (cols : List ℕ) → RoundReady n m cols → nonzero m cols ≡ 0 → Good n b m cols
  last_good cols k e = record {
    long = k.long;
    small = k.small;
    regular = k.regular;
    dry = λ z h q. sym (phi-comb m cols z h) ∙ span_zero (λ x. x) linear_self (phi m cols) m z (nonzero_none m cols e) h;
  }

  -- a pass after a matrix that is nonsingular and keeps the numbers below 2 ^ m among themselves
  pub after_good : (p q : List ℕ) → Good n b m p → length q ≡ n → ((x : ℕ) → x < 2 ^ n → comb q x < 2 ^ n)
      → ((x : ℕ) → x < 2 ^ n → comb q x ≡ 0 → x ≡ 0) → ((x : ℕ) → x < 2 ^ m → comb q x < 2 ^ m) → Good n b m (after p q)
  after_good p q g l lt reg low = record {
    long = after-length p q ∙ l;
    small = λ y. rw comb-after (g.small (comb q y));
    regular = λ z h e. reg z h (g.regular (comb q z) (lt z h) (sym (comb-after p q z) ∙ e));
    dry = λ z h e. ap (λ (u : ℕ). u / 2 ^ m) (comb-after p q z) ∙ g.dry (comb q z) (low z h) (rw comb-after at e);
  }

  -- a round's pass takes x to where what is left takes it to Ax
  round_moves : (cols : List ℕ) → RoundReady n m cols → (x : ℕ) → x < 2 ^ n → comb (round_left n b m cols) (comb (round_pass n b m cols) x) ≡ comb cols x
  round_moves cols k x h =
      let s = swaps n b m cols in
      let e = erases n b m (after cols s) in
      next_is n b m hb hm cols k (comb (after e s) x) ∙ ap (λ (u : ℕ). comb cols (comb s (comb e u))) (comb-after e s x)
      ∙ ap (λ (u : ℕ). comb cols (comb s u)) (erases_twice n b m hb hm cols k (comb s x) (S_lt n b m hb hm cols x))
      ∙ ap (comb cols) (S_twice n b m hb hm cols x h)

pub pass_moves : (n : ℕ) (p : List ℕ) (c x : ℕ) → comb p x < 2 ^ n → target (columns n p) c x ≡ bit_xor (comb p x) c
unfolding target
pass_moves n p c x h = ap (λ (u : ℕ). bit_xor u c) (apply_transpose p n x h)

ends_more : (P : List ℕ → Type 0) (p : List ℕ) (ps : List (List ℕ)) → Ends P ps → Ends P (p ∷ ps)
ends_more P p [] e = absurd e
ends_more P p (q ∷ ps) e = e

-- ---- all rounds: what holds where φ is zero, and before a round where it holds of what the round leaves
module _ (n b m : ℕ) (hb : b < m) (hm : m ≤ n) where
  by_rounds : (Q : List ℕ → List (List ℕ) → Type 0) → ((cols : List ℕ) → RoundReady n m cols → busy m cols ≡ false → Q cols (cols ∷ []))
      → ((cols : List ℕ) (ps : List (List ℕ)) → RoundReady n m cols → busy m cols ≡ true → Q (round_left n b m cols) ps
      → Q cols (round_pass n b m cols ∷ ps))
      → (g : ℕ) (cols : List ℕ) → RoundReady n m cols → nonzero m cols ≤ g → Q cols (rounds g n b m cols)
  by_rounds Q last more zero cols k h = let e = idle m cols (omega arith) in subst (Q cols) (sym (rounds_stop zero n b m cols e)) (last cols k e)
  by_rounds Q last more (suc g) cols k h =
      by_test (busy m cols)
      (λ e. subst (Q cols) (sym (rounds_go g n b m cols e)) (more cols (rounds g n b m (round_left n b m cols)) k e
      (by_rounds Q last more g (round_left n b m cols) (next_ready n b m (omega arith) hm cols k)
      (omega (arith, next_nonzero n b m (omega arith) hm cols k, busy_some m cols e)))))
      (λ e. subst (Q cols) (sym (rounds_stop (suc g) n b m cols e)) (last cols k e))

  module _ (g : ℕ) (cols : List ℕ) (k : RoundReady n m cols) (h : nonzero m cols ≤ g) where
    -- every pass can run
    pub rounds_good : All (Good n b m) (rounds g n b m cols)
    rounds_good =
        by_rounds (λ cols ps. All (Good n b m) ps) (λ cols k e. (last_good n b m (omega arith) hm cols k (idle_none m cols e), tt))
        (λ cols ps k e ih. (round_good n b m (omega arith) hm cols k, ih)) g cols k h

    -- their number
    pub rounds-length : length (rounds g n b m cols) ≡ suc (divided_up (nonzero m cols) (m - b))
    rounds-length =
        by_rounds (λ cols ps. length ps ≡ suc (divided_up (nonzero m cols) (m - b)))
        (λ cols k e. ap suc (sym (ap (λ (u : ℕ). divided_up u (m - b)) (idle_none m cols e) ∙ up_zero (m - b) (omega arith))))
        (λ cols ps k e ih. ap suc (ih ∙ ap (λ (u : ℕ). suc (divided_up u (m - b))) (next_nonzero n b m (omega arith) hm cols k)
        ∙ sym (up_step (nonzero m cols) (m - b) (busy_some m cols e) (omega arith)))) g cols k h

    -- while φ has nonzero columns: at the end it has none
    pub rounds_end : Ends (λ f. busy m f ≡ false) (rounds g n b m cols)
    rounds_end =
        by_rounds (λ cols ps. Ends (λ f. busy m f ≡ false) ps) (λ cols k e. e)
        (λ cols ps k e ih. ends_more (λ f. busy m f ≡ false) (round_pass n b m cols) ps ih) g cols k h

    -- performed one after the other
    pub rounds-move : (c x : ℕ) → x < 2 ^ n → performed (complemented (map (columns n) (rounds g n b m cols)) c) x ≡ bit_xor (comb cols x) c
    unfolding performed complemented
    rounds-move c =
        (by_rounds Moves (λ cols k e. (omega arith, λ x l. pass_moves n cols c x (k.small x)))
        (λ cols ps k e ih.
        let p = round_pass n b m cols in
        let small = (round_good n b m (omega arith) hm cols k).small in (
          omega arith,
          λ x l.
              ap (λ (l : List Pass). performed l x) (complemented_more (columns n p) (map (columns n) ps) c ih.0)
              ∙ ap (performed (complemented (map (columns n) ps) c)) (pass_moves n p 0 x (small x) ∙ xor_zero_r (comb p x))
              ∙ ih.1 (comb p x) (small x) ∙ ap (λ (u : ℕ). bit_xor u c) (round_moves n b m (omega arith) hm cols k x l),
        )) g cols k h).1
      where
        Moves : List ℕ → List (List ℕ) → Type 0
        Moves cols ps =
            (0 < length (map (columns n) ps)) × ((x : ℕ) → x < 2 ^ n → performed (complemented (map (columns n) ps) c) x ≡ bit_xor (comb cols x) c)
