-- `planning::state::State::advanced` meets its contract: the sum is taken where there is such a number. Assumes nothing.
use mathlib.Core.Path.{◌≡◌, ap, sym, ◌∙◌}
use native.Mathlib.Omega.{arith}
use borrow.Author.Tests.{le-ltb, lt-ltb}
use Prim.Native.Nat.{ℕ, ◌+◌, ◌^◌, ◌<◌}
use Rattle.planning.specs.declared.state.State.{State}
use Rattle.planning.specs.State.{advanced_by}
use Rattle.planning.proofs.state.State.advanced.Goals as goal

abbrev state_at : ℕ → State
state_at n = record { next = record { 0 = n } }

pub returns-in-Some : goal.returns-in-Some
unfolding advanced_by
returns-in-Some c =
    let h : (c.args.self.next.0 + c.args.k < 2 ^ 64) × (c.in-Some.next ≡ c.args.self.next.0 + c.args.k) = c.in-Some.ensures in
    ap (λ (n : ℕ). state_at n) h.1 ∙ sym (simp (lt-ltb (c.args.self.next.0 + c.args.k) (2 ^ 64) h.0))

pub returns-in_default : goal.returns-in_default
unfolding advanced_by
returns-in_default c =
    let h : c.args.self.next.0 + c.args.k < 2 ^ 64 → ⊥ = c.in_default.ensures in
    simp (le-ltb (c.args.self.next.0 + c.args.k) (2 ^ 64) (omega (arith, h)))
