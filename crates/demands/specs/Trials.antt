-- What do our calls answer for the trial orders? The table; its one theorem is in proofs/Trials.antt. Assumes nothing.
use Rattle.std.specs.Prelude.{Bool, true, false, not, ◌&&◌, List, [], ◌∷◌, ◌++◌, ℕ, zero, suc, ◌+◌, ◌-◌, ◌*◌, eqb, length, replicate}
use Rattle.bank.specs.Limits.{ROWS, PASSES}
use Rattle.bank.specs.declared.Geometry.{Geometry}
use Rattle.order.specs.declared.Order.{Order}
use Rattle.addresses.specs.declared.Target.{Target}
use Rattle.planning.specs.declared.Plan.{Plan}
use Rattle.planning.specs.Pass.{Pass}
use Rattle.planning.specs.Stored.{route_of}
use Rattle.plan.specs.declared.make.Planned.{Planned}
use Rattle.demands.specs.Ours.{ours}

-- a trial: an order and an address; the number, the target and z that are given back; how many passes and steps, the area of the
-- result, and the passes, if listed
pub record Trial : Type 0 where
  pub order : Order
  pub address : ℕ
  pub number : ℕ
  pub target : ℕ
  pub z : ℕ
  pub passes : ℕ
  pub steps : ℕ
  pub area : ℕ
  pub listed : List Pass

-- the same numbers, and as many
abbrev pub same_numbers : List ℕ → List ℕ → Bool
same_numbers [] [] = true
same_numbers [] (y ∷ ys) = false
same_numbers (x ∷ xs) [] = false
same_numbers (x ∷ xs) (y ∷ ys) = eqb x y && same_numbers xs ys

-- each listed pass has its rows and its complement; a trial may list none
abbrev pub as_listed : List Pass → List Pass → Bool
as_listed [] ps = true
as_listed (l ∷ ls) [] = false
as_listed (l ∷ ls) (p ∷ ps) = same_numbers l.rows p.rows && eqb l.complement p.complement && as_listed ls ps

-- the numbers of a geometry
abbrev pub sizes : Geometry → List ℕ
sizes g = g.n ∷ g.b ∷ g.d ∷ g.m ∷ g.r ∷ []

-- every number that a plan holds: six, the rows and the complements
abbrev pub held : Plan → List ℕ
held plan = sizes plan.geometry ++ (plan.count ∷ (plan.rows ++ plan.complements))

-- with 0 the plan is for the order's bank, and has its passes, steps and area of the result; with a refusal it is zero
-- everywhere; neither blanks
abbrev pub as_planned : ℕ → Trial → Plan → Bool
as_planned zero t plan =
    not plan.blanks && same_numbers (sizes plan.geometry) (sizes t.order.geometry) && eqb plan.count t.passes && eqb (ours.total plan) t.steps
    && eqb (ours.area plan) t.area && as_listed t.listed (route_of plan).passes
as_planned (suc k) t plan = not plan.blanks && same_numbers (held plan) (replicate (6 + PASSES * ROWS + PASSES) 0)

-- what a planning call answers
abbrev pub planned : Trial → Planned → Bool
planned t answer = eqb answer.number t.number && eqb answer.z.0 t.z && as_planned t.number t answer.plan

-- what an address call answers
abbrev pub sends : Trial → Target → Bool
sends t answer = eqb answer.number t.number && eqb answer.address.0 t.target && eqb answer.z.0 t.z

abbrev pub right : Trial → Bool
right t = sends t (ours.sends t.order t.address) && planned t (ours.plans t.order false)

-- n b d m R, the rows, c
abbrev order : ℕ → ℕ → ℕ → ℕ → ℕ → List ℕ → ℕ → Order
order n b d m r rows c = record { geometry = record { n = n; b = b; d = d; m = m; r = r }; rows = rows ++ replicate (ROWS - length rows) 0; complement = c }

-- G
abbrev four : List ℕ → ℕ → Order
four rows c = order 4 1 1 2 8 rows c

abbrev sent : Order → ℕ → ℕ → ℕ → ℕ → ℕ → List Pass → Trial
sent o x y passes steps area listed = record { order = o; address = x; number = 0; target = y; z = 0; passes = passes; steps = steps; area = area; listed = listed }

abbrev refused : Order → ℕ → ℕ → Trial
refused o k z = record { order = o; address = 0; number = k; target = 0; z = z; passes = 0; steps = 0; area = 0; listed = [] }

abbrev pass : List ℕ → ℕ → Pass
pass rows c = record { rows = rows; complement = c }

abbrev reversal : List ℕ
reversal = 8 ∷ 4 ∷ 2 ∷ 1 ∷ []

-- row i of each pass of the reversal: a number whose bit j is character j of the listing's line
abbrev reversal_passes : List Pass
reversal_passes = pass (5 ∷ 10 ∷ 4 ∷ 2 ∷ []) 0 ∷ pass (2 ∷ 1 ∷ 5 ∷ 8 ∷ []) 0 ∷ pass (9 ∷ 6 ∷ 8 ∷ 4 ∷ []) 0 ∷ []

abbrev unmoved : List ℕ
unmoved = 1 ∷ 2 ∷ 4 ∷ 8 ∷ []

abbrev pub trials : List Trial
trials =
    sent (four reversal 0) 1 8 3 24 1 reversal_passes ∷ sent (four reversal 0) 3 12 3 24 1 [] ∷ sent (four reversal 0) 6 6 3 24 1 []
    ∷ sent (four unmoved 15) 5 10 1 8 1 (pass unmoved 15 ∷ []) ∷ sent (four (3 ∷ 6 ∷ 12 ∷ 8 ∷ []) 0) 5 7 1 8 1 []
    ∷ sent (four (4 ∷ 8 ∷ 1 ∷ 2 ∷ []) 0) 1 4 3 24 1 [] ∷ sent (order 2 0 0 1 8 (2 ∷ 1 ∷ []) 0) 1 2 2 16 0 []
    ∷ refused (order 2 0 0 1 8 (3 ∷ 3 ∷ []) 0) 3 3 ∷ refused (order 2 0 0 1 8 (0 ∷ 0 ∷ []) 0) 3 1
    ∷ refused (order 4 2 0 2 8 reversal 0) 1 0 ∷ refused (order 4 1 1 4 8 reversal 0) 1 0 ∷ refused (four (16 ∷ 2 ∷ 4 ∷ 8 ∷ []) 0) 2 0 ∷ []
