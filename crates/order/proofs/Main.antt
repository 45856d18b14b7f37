-- What is proved of orders, for demand 2: when one is singular. Over the definitions that the calls' promises cite. Assumes nothing.
use mathlib.Core.Path.{◌≡◌, refl, sym, ◌∙◌}
use mathlib.Core.Bool.{Bool, true, false}
use native.Mathlib.Omega.{arith}
use Rattle.bank.specs.Geometry.{in_limits}
use Rattle.algebra.specs.Matrix.{singular}
use Rattle.algebra.proofs.Singular.{Clash, clash→singular, singular→clash}
use Rattle.order.specs.Order.{matrix_of, bad_form, judgement}
use Rattle.order.specs.declared.Order.{Order}
use Rattle.order.proofs.Judged.{singular_three, regular_none}

-- ---- an order in good form is singular exactly when two different addresses below N share a target
module _ (order : Order) (inside : in_limits order.geometry ≡ true) (form : bad_form order ≡ false) where
  pub three→shared_target : judgement order ≡ 3 → Clash order.geometry.n (matrix_of order) order.complement
  three→shared_target e = go (singular order.geometry.n (matrix_of order)) refl
    where
      go : (s : Bool) → singular order.geometry.n (matrix_of order) ≡ s → Clash order.geometry.n (matrix_of order) order.complement
      go true q = singular→clash order.geometry.n (matrix_of order) order.complement q
      go false q = absurd (omega (arith, sym (regular_none order inside form q) ∙ e))

  pub shared_target→three : Clash order.geometry.n (matrix_of order) order.complement → judgement order ≡ 3
  shared_target→three k = singular_three order inside form (clash→singular order.geometry.n (matrix_of order) order.complement k)
