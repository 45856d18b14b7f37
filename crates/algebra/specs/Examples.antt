-- What do the definitions say of small matrices? Each example is computed, and all of them in one statement. Assumes nothing.
use Rattle.std.specs.Prelude.{Bool, true, false, cond, not, ◌&&◌, List, [], ◌∷◌, ℕ, eqb}
use Rattle.algebra.specs.Matrix.{target, source, singular, kernel, columns, rank}

-- a matrix of n rows and a complement that send x to y. Where the matrix is singular, they send 0 to y too, and no nonzero number below x
pub record Example : Type 0 where
  pub n : ℕ
  pub rows : List ℕ
  pub complement : ℕ
  pub regular : Bool
  pub rank : ℕ
  pub x : ℕ
  pub y : ℕ

-- the matrix isn't singular, and y comes from x; or it is, and x is the least nonzero vector that it sends to zero
abbrev pub source_right : Example → Bool
source_right e =
    cond e.regular (not (singular e.n e.rows) && eqb (source e.n e.rows e.complement e.y) e.x)
    (singular e.n e.rows && eqb (kernel e.n e.rows) e.x)

abbrev pub as_expected : Example → Bool
as_expected e = eqb (rank (columns e.n e.rows) e.n) e.rank && eqb (target e.rows e.complement e.x) e.y && source_right e

abbrev example : ℕ → List ℕ → ℕ → Bool → ℕ → ℕ → ℕ → Example
example n rows c regular rank x y = record { n = n; rows = rows; complement = c; regular = regular; rank = rank; x = x; y = y }

abbrev pub reversal : List ℕ
reversal = 8 ∷ 4 ∷ 2 ∷ 1 ∷ []

-- reversal, identity with c = 15, Gray code, the exchange of two pairs, two rows exchanged;
-- then rows 11, 11, zero rows, and three rows that sum to zero; a matrix that isn't the same turned round, and one whose rank is less by two
abbrev pub examples : List Example
examples =
    example 4 reversal 0 true 4 1 8 ∷ example 4 reversal 0 true 4 3 12 ∷ example 4 reversal 0 true 4 6 6
    ∷ example 4 (1 ∷ 2 ∷ 4 ∷ 8 ∷ []) 15 true 4 5 10 ∷ example 4 (3 ∷ 6 ∷ 12 ∷ 8 ∷ []) 0 true 4 5 7
    ∷ example 4 (4 ∷ 8 ∷ 1 ∷ 2 ∷ []) 0 true 4 1 4
    ∷ example 2 (2 ∷ 1 ∷ []) 0 true 2 1 2 ∷ example 2 (3 ∷ 3 ∷ []) 0 false 1 3 0 ∷ example 2 (0 ∷ 0 ∷ []) 0 false 0 1 0
    ∷ example 4 (3 ∷ 5 ∷ 6 ∷ 8 ∷ []) 9 false 3 7 9
    ∷ example 4 (2 ∷ 4 ∷ 8 ∷ 0 ∷ []) 0 false 3 1 0 ∷ example 4 (3 ∷ 12 ∷ 0 ∷ 0 ∷ []) 0 false 2 3 0 ∷ []
