-- What is a room with a text written at a place? Assumes nothing.
-- What proofs and inner contracts go by; the rules need none of it.
use Rattle.std.specs.Prelude.{◌≡◌, List, ◌++◌, ℕ, ◌+◌, length, take, drop}

-- the room with a text at a place; all else stays
unfoldable pub put : List ℕ → ℕ → List ℕ → List ℕ
put room at t = take at room ++ (t ++ drop (at + length t) room)

-- a text was written at a place: the room after it, and the place past it
pub record Wrote (room : List ℕ) (at : ℕ) (t : List ℕ) (after : List ℕ) (past : ℕ) : Type 0 where
  pub place : past ≡ at + length t
  pub is : after ≡ put room at t
