-- Do the demands speak of anything? At every geometry inside the limits an order that moves something is taken, and one that moves nothing,
-- and one is refused by 3, with its z;
-- and every mover that has demands 1 and 3 comes to the end of each order that it takes.
-- Assumes nothing.
use Rattle.std.specs.Prelude.{◌≡◌, Bool, true, List, [], ◌∷◌, ◌++◌, ℕ, zero, suc, ◌-◌, ◌≤◌, length, replicate}
use Rattle.bank.specs.Limits.{ROWS}
use Rattle.bank.specs.declared.Geometry.{Geometry}
use Rattle.bank.specs.Geometry.{in_limits}
use Rattle.algebra.specs.Matrix.{identity}
use Rattle.order.specs.declared.Order.{Order}
use Rattle.addresses.specs.Address.{sent_to}
use Rattle.planning.specs.declared.Plan.{Plan}
use Rattle.moving.specs.Step.{Buffers, buffers_fit}
use Rattle.moving.specs.Call.{Moment}
use Rattle.demands.specs.Mover.{Mover, beginning}
use Rattle.demands.specs.Ours.{ours}
use Rattle.demands.specs.Chain.{Called, Chain}
use Rattle.demands.specs.Chain.Called.{asked, allowed, stray_asked, stray_allowed}
use Rattle.demands.specs.Answers.{Answers}
use Rattle.demands.specs.Delivers.{Delivers}
use Rattle.demands.specs.Still.{StillOrder}

-- the order that sends x to x xor c
abbrev pub xor_order : Geometry → ℕ → Order
xor_order g c = record { geometry = g; rows = identity g.n ++ replicate (ROWS - g.n) 0; complement = c }

-- x to x xor 1
abbrev pub flip_order : Geometry → Order
flip_order g = xor_order g 1

-- x to x
abbrev pub still_order : Geometry → Order
still_order g = xor_order g 0

-- every x to 0
abbrev pub zero_order : Geometry → Order
zero_order g = record { geometry = g; rows = replicate ROWS 0; complement = 0 }

-- ---- a chain with repeats, refused calls and runs in it

-- a chain's own call, its answer left open
pub data Call : Type 0 where
  asks : ℕ → Call
  runs : ℕ → Call

-- the own calls of a chain
unfoldable pub calls_of : List Called → List Call
calls_of [] = []
calls_of (asked k answer ∷ cs) = asks k ∷ calls_of cs
calls_of (allowed q answer ∷ cs) = runs q ∷ calls_of cs
calls_of (stray_asked stray k answer ∷ cs) = calls_of cs
calls_of (stray_allowed stray q answer ∷ cs) = calls_of cs

-- step j asked i times, and then the rest
unfoldable pub again : ℕ → ℕ → List Call → List Call
again zero j rest = rest
again (suc i) j rest = asks j ∷ again i j rest

-- the k steps from j on, each asked once and then as often more as `more` says; and then the rest
unfoldable pub in_turn : (ℕ → ℕ) → ℕ → ℕ → List Call → List Call
in_turn more zero j rest = rest
in_turn more (suc k) j rest = asks j ∷ again (more j) j (in_turn more k (suc j) rest)

-- a step asked past the total; k steps in turn, with repeats; past the total again; and a run of all that is left
abbrev pub busy_calls : ℕ → ℕ → (ℕ → ℕ) → List Call
busy_calls all k more = asks all ∷ in_turn more k 0 (asks all ∷ runs all ∷ [])

-- a chain of these calls from the start to the end
pub record Comes (M : Mover) (plan : Plan) (v : Buffers) (these : List Call) : Type 0 where
  pub calls : List Called
  pub end : Moment
  pub chain : Chain M plan (beginning M v) calls end
  pub own : calls_of calls ≡ these
  pub there : end.state.next.0 ≡ M.total plan

pub record Possible : Type 1 where
  pub taken : (g : Geometry) → in_limits g ≡ true → (ours.judges (flip_order g)).number ≡ 0
  pub moves : (g : Geometry) → in_limits g ≡ true → sent_to (flip_order g) 0 ≡ 1
  pub still_taken : (g : Geometry) → in_limits g ≡ true → (ours.judges (still_order g)).number ≡ 0
  pub still : (g : Geometry) → StillOrder (still_order g)
  pub refused_3 : (g : Geometry) → in_limits g ≡ true → ours.judges (zero_order g) ≡ record { number = 3; z = record { 0 = 1 } }
  pub comes : (M : Mover) → Answers M → Delivers M → (order : Order) → length order.rows ≡ ROWS → (M.judges order).number ≡ 0 → (blanks : Bool)
      → (v : Buffers) → buffers_fit order.geometry v ≡ true → (k : ℕ) → k ≤ M.total (M.plans order blanks).plan → (more : ℕ → ℕ)
      → Comes M (M.plans order blanks).plan v (busy_calls (M.total (M.plans order blanks).plan) k more)
