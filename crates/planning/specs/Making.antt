-- Which passes has the plan for a matrix? "The plan, without choices", step by step. Assumes nothing.
use Rattle.std.specs.Prelude.{◌≡◌, Bool, cond, not, ◌&&◌, List, [], ◌∷◌, map, ℕ, zero, suc, ◌+◌, ◌-◌, ◌*◌, ◌/◌, ◌^◌, eqb, ltb, leb, get_or}
use Rattle.std.specs.Int.Bits.{bit_xor}
use Rattle.bank.specs.declared.Geometry.{Geometry}
use Rattle.algebra.specs.Search.{first_passing, any_below, which}
use Rattle.algebra.specs.Vector.{comb}
use Rattle.algebra.specs.Matrix.{after, columns, identity, inverse, is_identity, marked}
use Rattle.planning.specs.Pass.{Pass, complemented}
use Rattle.planning.specs.Columns.{adding, placing, phi, delta, zero_column, only_marked}

-- ---- 1. Mark δ; pair W with the unmarked columns of δ; add

-- column i of φ is a sum of marked columns of δ (s picks them) and columns of φ left of it (t picks them)
unfoldable pub reached : ℕ → ℕ → List ℕ → ℕ → Bool
reached n m cols i =
    any_below
    (λ s. only_marked (delta m cols) (n - m) s
    && any_below (λ t. eqb (bit_xor (comb (delta m cols) s) (comb (phi m cols) t)) (get_or (phi m cols) i 0)) (2 ^ i))
    (2 ^ (n - m))

-- W: each column of φ that isn't reached
unfoldable pub chosen : ℕ → ℕ → List ℕ → List ℕ
chosen n m cols = which (λ i. not (reached n m cols i)) m 0

-- the unmarked columns of δ, numbered as in A
unfoldable pub unmarked : ℕ → ℕ → List ℕ → List ℕ
unmarked n m cols = map (λ u. m + u) (which (λ u. not (marked (delta m cols) u)) (n - m) 0)

-- the column that is added into its partner j, where the first of ws goes into the first of us, the second into the second, and so on;
-- as a set, empty where column j is no partner
unfoldable pub partner : List ℕ → List ℕ → ℕ → ℕ
partner [] ws j = 0
partner (u ∷ us) [] j = 0
partner (u ∷ us) (w ∷ ws) j = cond (eqb j u) (2 ^ w) (partner us ws j)

-- step 1 as a matrix
unfoldable pub step1 : ℕ → ℕ → List ℕ → List ℕ
step1 n m cols = adding (partner (unmarked n m cols) (chosen n m cols)) n

-- ---- 2. Mark φ; into each unmarked column of φ add the marked ones of which it is the sum

-- the marked columns of φ of which its unmarked column j is the sum; none for another column
unfoldable pub summands : ℕ → List ℕ → ℕ → ℕ
summands m cols j =
    cond (ltb j m && not (marked (phi m cols) j))
    (first_passing (λ s. only_marked (phi m cols) m s && eqb (comb (phi m cols) s) (get_or (phi m cols) j 0)) (2 ^ m))
    0

-- step 2 as a matrix
unfoldable pub step2 : ℕ → ℕ → List ℕ → List ℕ
step2 n m cols = adding (summands m cols) n

-- P: the column operations of 1 and 2
unfoldable pub operations : ℕ → ℕ → List ℕ → List ℕ
operations n m cols = after (step1 n m cols) (step2 n m (after cols (step1 n m cols)))

-- ---- 3. Rounds, while φ has nonzero columns

-- where column j comes from, when the first of xs and the first of ys change places, the second and the second, and so on
-- until one kind runs out
unfoldable pub came_from : List ℕ → List ℕ → ℕ → ℕ
came_from [] ys j = j
came_from (x ∷ xs) [] j = j
came_from (x ∷ xs) (y ∷ ys) j = cond (eqb j x) y (cond (eqb j y) x (came_from xs ys j))

-- S: nonzero columns below b change places with zero columns in b..m-1, lowest with lowest
unfoldable pub swaps : ℕ → ℕ → ℕ → List ℕ → List ℕ
swaps n b m cols = placing (came_from (which (λ j. not (zero_column (phi m cols) j)) b 0) (which (zero_column (phi m cols)) (m - b) b)) n

-- the matrix after S
abbrev pub after_swaps : ℕ → ℕ → ℕ → List ℕ → List ℕ
after_swaps n b m cols = after cols (swaps n b m cols)

-- the set of columns m..n-1 that, added into a nonzero column j of b..m-1, makes it zero below; none for another column
unfoldable pub eraser : ℕ → ℕ → ℕ → List ℕ → ℕ → ℕ
eraser n b m cols j =
    cond (leb b j && ltb j m && not (zero_column (phi m cols) j))
    (first_passing (λ t. eqb (comb (delta m cols) t) (get_or (phi m cols) j 0)) (2 ^ (n - m)) * 2 ^ m)
    0

-- E, of the matrix after S
unfoldable pub erases : ℕ → ℕ → ℕ → List ℕ → List ℕ
erases n b m cols = adding (eraser n b m cols) n

-- the pass that a round gives: E S
abbrev pub round_pass : ℕ → ℕ → ℕ → List ℕ → List ℕ
round_pass n b m cols = after (erases n b m (after_swaps n b m cols)) (swaps n b m cols)

-- what a round leaves: the matrix after S and E
abbrev pub round_left : ℕ → ℕ → ℕ → List ℕ → List ℕ
round_left n b m cols = after (after_swaps n b m cols) (erases n b m (after_swaps n b m cols))

-- φ has nonzero columns
unfoldable pub busy : ℕ → List ℕ → Bool
busy m cols = any_below (λ j. not (zero_column (phi m cols) j)) m

-- the rounds, at most k of them: E1 S1, E2 S2 and so on, and then what stays, F
unfoldable pub rounds : ℕ → ℕ → ℕ → ℕ → List ℕ → List (List ℕ)
rounds zero n b m cols = cols ∷ []
rounds (suc k) n b m cols = cond (busy m cols) (round_pass n b m cols ∷ rounds k n b m (round_left n b m cols)) (cols ∷ [])

-- ---- 4. The passes: E1 S1 P⁻¹, then E2 S2 and so on, then F

-- the matrices, the first of them after Q
unfoldable pub first_after : List (List ℕ) → List ℕ → List (List ℕ)
first_after [] q = []
first_after (p ∷ ps) q = after p q ∷ ps

-- the matrices of the passes in order, each as its list of rows. There are at most m rounds
unfoldable pub pass_matrices : ℕ → ℕ → ℕ → List ℕ → List (List ℕ)
pass_matrices n b m rows =
    let a = columns n rows in
    let p = operations n m a in
    map (columns n) (first_after (rounds m n b m (after a p)) (columns n (inverse n (columns n p))))

-- the passes made of A and c by steps 1 to 4
abbrev pub passes_made : Geometry → List ℕ → ℕ → List Pass
passes_made g rows c = complemented (pass_matrices g.n g.b g.m rows) c

-- the order A, c leaves every record where it is: A is the identity, and c is 0
abbrev pub Still : ℕ → List ℕ → ℕ → Type 0
Still n rows c = (rows ≡ identity n) × (c ≡ 0)

-- the passes of the order A, c: none where A is the identity and c is 0, since no record need move
unfoldable pub passes_for : Geometry → List ℕ → ℕ → List Pass
passes_for g rows c = cond (is_identity g.n rows && eqb c 0) [] (passes_made g rows c)

-- a divided by k, rounded up
unfoldable pub divided_up : ℕ → ℕ → ℕ
divided_up a k = (a + (k - 1)) / k
