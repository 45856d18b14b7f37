-- What is proved of a planning call? The order is the one asked about; an array of rows has room for ROWS of them. Assumes nothing.
use mathlib.Core.Path.{◌∙◌, ◌≡◌, ap, refl, subst, sym}
use mathlib.Core.Bool.{Bool, true}
use Prim.Native.Nat.{◌+◌, ◌-◌, ◌<◌, ℕ}
use lib.ListN.{length}
use Rattle.bank.specs.Geometry.{records}
use Rattle.bank.specs.Limits.{ROWS}
use Rattle.algebra.specs.Matrix.{columns, rank, target}
use Rattle.order.specs.Order.{judgement, matrix_of}
use Rattle.order.specs.declared.Order.{Order}
use Rattle.order.proofs.Accepted.{complement_below, judgement→accepted, matrix_length}
use Rattle.planning.specs.Columns.{phi}
use Rattle.planning.specs.Making.{Still, divided_up}
use Rattle.planning.specs.Pass.{performed}
use Rattle.planning.specs.Running.{sound}
use Rattle.planning.specs.Stored.{plan_for, plan_of, route_of}
use Rattle.planning.specs.declared.Plan.{Plan}
use Rattle.planning.proofs.Made.{made_length, made_performs, made_route, made_sound}
use Rattle.planning.proofs.Still.{other_passes, still_passes}
use Rattle.plan.specs.Answer.{planned_for}
use Rattle.plan.specs.declared.make.Planned.{Planned}
use Rattle.plan.proofs.Answered.{planned_taken}

-- ---- an order that is taken
-- a plan that makes it
pub record Makes (order : Order) (plan : Plan) : Type 0 where
  -- it is for the order's bank, and one that can run
  pub on_its_bank : plan.geometry ≡ order.geometry
  pub sound_plan : sound plan ≡ true
  -- its passes take every x to Ax xor c
  pub performs : (x : ℕ) → x < records order.geometry → performed (route_of plan).passes x ≡ target (matrix_of order) order.complement x
  -- there is none where no record need move ..
  pub no_pass : Still order.geometry.n (matrix_of order) order.complement → plan.count ≡ 0
  -- .. and else rank φ divided by m - b, rounded up, and one more
  pub passes :
      (Still order.geometry.n (matrix_of order) order.complement → ⊥) → plan.count
      ≡ divided_up (rank (phi order.geometry.m (columns order.geometry.n (matrix_of order))) order.geometry.m)
      (order.geometry.m - order.geometry.b) + 1

-- the answer is 0 and such a plan
module _ (order : Order) (room : length order.rows ≡ ROWS) (taken : judgement order ≡ 0) (blanks : Bool) where
  pub made_accepted : Makes order (planned_for order blanks).plan
  made_accepted = subst (λ (a : Planned). Makes order a.plan) (sym (planned_taken order blanks taken)) makes
    where
      makes : Makes order (plan_for order.geometry (matrix_of order) order.complement blanks)
      makes =
          let k = judgement→accepted order taken in
          let g = order.geometry in
          let A = matrix_of order in
          let c = order.complement in
          let long = matrix_length order k.inside room in
          let below = complement_below order k.form in
          record {
            on_its_bank = unfold plan_for plan_of in refl;
            sound_plan = made_sound g A c k.inside long k.regular below blanks;
            performs = λ x h. rw (made_route g A c k.inside long k.regular below blanks) (made_performs g A c k.inside long k.regular x h);
            no_pass = λ s. unfold plan_for plan_of in ap length (still_passes g A c long s);
            passes = λ f. unfold plan_for plan_of in ap length (other_passes g A c long f) ∙ made_length g A c k.inside long k.regular;
          }
