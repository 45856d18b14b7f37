-- What is true of the plan without choices? In the order of the rules. What a plan does for an order, and in how many passes,
-- stands with the demands. Assumes nothing.
use Rattle.std.specs.Prelude.{◌≡◌, Bool, false, not, true, List, [], ◌∷◌, ℕ, ◌*◌, ◌-◌, ◌/◌, ◌%◌, ◌^◌, ◌<◌, ◌≤◌, get_or, length}
use Rattle.std.specs.Int.Bits.{bit_xor}
use Rattle.bank.specs.Limits.{PASSES, ROWS}
use Rattle.bank.specs.declared.Geometry.{Geometry}
use Rattle.bank.specs.Geometry.{in_limits, records}
use Rattle.algebra.specs.Search.{which}
use Rattle.algebra.specs.Vector.{comb}
use Rattle.algebra.specs.Matrix.{after, columns, inverse, marked, rank, singular}
use Rattle.planning.specs.Columns.{delta, only_marked, phi, zero_column}
use Rattle.planning.specs.Inner.{RoundReady, Runs}
use Rattle.planning.specs.Making.{Still, after_swaps, busy, chosen, eraser, operations, passes_for, round_left, rounds, step1, summands, unmarked}
use Rattle.planning.specs.Pass.{Route}
use Rattle.planning.specs.Running.{can_run, sound}
use Rattle.planning.specs.Stored.{empty_plan, plan_for, plan_of, route_of}
use Rattle.planning.specs.declared.Plan.{Plan}
use Rattle.planning.specs.declared.state.State.{State}

-- x is the only number below k of which Q holds
pub record OnlyOne (k : ℕ) (Q : ℕ → Type 0) (x : ℕ) : Type 0 where
  pub below : x < k
  pub holds : Q x
  pub only : (y : ℕ) → y < k → Q y → y ≡ x

-- ---- 1 and 2, and where the rounds begin and end; a has the columns of A

-- A after step 1
abbrev pub after_step1 : ℕ → ℕ → List ℕ → List ℕ
after_step1 n m a = after a (step1 n m a)

-- A after steps 1 and 2: AP
abbrev pub after_step2 : ℕ → ℕ → List ℕ → List ℕ
after_step2 n m a = after a (operations n m a)

-- s picks marked columns of φ, and their sum is column j of φ
abbrev pub MarkedSum : ℕ → List ℕ → ℕ → ℕ → Type 0
MarkedSum m cols j s = (only_marked (phi m cols) m s ≡ true) × (comb (phi m cols) s ≡ get_or (phi m cols) j 0)

-- how many columns of φ aren't zero
unfoldable pub nonzero : ℕ → List ℕ → ℕ
nonzero m cols = length (which (λ j. not (zero_column (phi m cols) j)) m 0)

-- Q holds of the last of a list of matrices
abbrev pub Ends : (List ℕ → Type 0) → List (List ℕ) → Type 0
Ends Q [] = ⊥
Ends Q (p ∷ []) = Q p
Ends Q (p ∷ q ∷ ps) = Ends Q (q ∷ ps)

pub record StepFacts (n b m : ℕ) (a : List ℕ) : Type 0 where
  -- δ has as many unmarked columns as W has columns: each has its partner
  pub all_paired : length (unmarked n m a) ≡ length (chosen n m a)
  -- δ is nonsingular then: no nonzero sum of its columns is zero
  pub δ-nonsingular : (t : ℕ) → t < 2 ^ (n - m) → comb (delta m (after_step1 n m a)) t ≡ 0 → t ≡ 0
  -- each unmarked column of φ is one sum of marked ones
  pub one_sum : (j : ℕ) → j < m → marked (phi m (after_step1 n m a)) j ≡ false
      → OnlyOne (2 ^ m) (MarkedSum m (after_step1 n m a) j) (summands m (after_step1 n m a) j)
  -- P is its own inverse
  pub P_own_inverse : columns n (inverse n (columns n (operations n m a))) ≡ operations n m a
  -- in AP the columns of φ that aren't zero are those that are marked in A
  pub φ-reduced : (j : ℕ) → j < m → not (zero_column (phi m (after_step2 n m a)) j) ≡ marked (phi m a) j
  -- they number rank φ
  pub φ-rank : nonzero m (after_step2 n m a) ≡ rank (phi m a) m
  -- AP is as the first round needs it
  pub AP_ready : RoundReady n m (after_step2 n m a)
  -- in what stays, F, no column of φ is nonzero: the bound of m rounds cuts none off
  pub F_dry : Ends (λ f. busy m f ≡ false) (rounds m n b m (after_step2 n m a))

-- ---- 3: one round, of a matrix as AP is

-- z picks columns from m on only, and column j is zero below with them added
abbrev pub Erasing : ℕ → List ℕ → ℕ → ℕ → Type 0
Erasing m cols j z = (z % 2 ^ m ≡ 0) × (bit_xor (get_or cols j 0) (comb cols z) / 2 ^ m ≡ 0)

pub record RoundFacts (n b m : ℕ) (cols : List ℕ) : Type 0 where
  -- S leaves a matrix as E needs it
  pub S_keeps : RoundReady n m (after_swaps n b m cols)
  -- for each nonzero column of b..m-1 there is one set of whole columns m..n-1 that makes it zero below
  pub one_set : (j : ℕ) → b ≤ j → j < m → zero_column (phi m (after_swaps n b m cols)) j ≡ false
      → OnlyOne (2 ^ n) (Erasing m (after_swaps n b m cols) j) (eraser n b m (after_swaps n b m cols) j)
  -- E leaves a matrix as the next round needs it
  pub E_keeps : RoundReady n m (round_left n b m cols)
  -- m - b nonzero columns of φ are zero after a round, or all that were left
  pub round_clears : nonzero m (round_left n b m cols) ≡ nonzero m cols - (m - b)

-- ---- 4: the passes, and the plan

-- an order that planning takes
pub record Taken (g : Geometry) (rows : List ℕ) (c : ℕ) : Type 0 where
  pub inside : in_limits g ≡ true
  pub rows_all : length rows ≡ g.n
  pub rows_below : (i : ℕ) → i < g.n → get_or rows i 0 < records g
  pub complement_below : c < records g
  pub regular : singular g.n rows ≡ false

pub record PlanFacts (g : Geometry) (rows : List ℕ) (c : ℕ) : Type 0 where
  -- steps 1 and 2, and the rounds
  pub steps : StepFacts g.n g.b g.m (columns g.n rows)
  -- where no record need move there is no pass
  pub no_pass : Still g.n rows c → passes_for g rows c ≡ []
  -- with no rounds the only pass of any other order is A, with c
  pub no_rounds : (Still g.n rows c → ⊥) → rank (phi g.m (columns g.n rows)) g.m ≡ 0
      → passes_for g rows c ≡ record { rows = rows; complement = c } ∷ []
  -- the plan has room for the passes, and holds them as they were made, and whether the spent area is to be blanked
  pub holds : (blanks : Bool) → route_of (plan_for g rows c blanks) ≡ record { geometry = g; blanks = blanks; passes = passes_for g rows c }

-- ---- all of it

pub record Facts : Type 0 where
  pub plan : (g : Geometry) (rows : List ℕ) (c : ℕ) → Taken g rows c → PlanFacts g rows c
  pub round : (n b m : ℕ) → b ≤ m → m ≤ n → (cols : List ℕ) → RoundReady n m cols → RoundFacts n b m cols
  -- whoever made a sound plan, its passes can run; its rows fill the room of their array
  pub sound_runs : (plan : Plan) → length plan.rows ≡ PASSES * ROWS → sound plan ≡ true → Runs (route_of plan)
  -- a route that can run is a sound plan when it is stored
  pub runs_sound : (route : Route) → Runs route → sound (plan_of route) ≡ true
  -- a route that is stored comes back
  pub comes_back : (route : Route) → Runs route → route_of (plan_of route) ≡ route
  -- the empty plan has no geometry, and can't run
  pub empty_stuck : (state : State) → can_run empty_plan state ≡ false
