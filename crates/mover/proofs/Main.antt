-- What does the answer to a step say? The number and the state of each of its cases are those that the step gives back. Assumes nothing.
use mathlib.Core.Path.{◌≡◌, refl, sym}
use mathlib.Core.Bool.{Bool, true, false, cond}
use Prim.Native.Nat.{ℕ}
use borrow.Author.Tests.{eqb-true}
use lib.Dec.{eqb}
use Rattle.planning.specs.declared.state.State.{State}
use Rattle.mover.specs.Promise.{case_of, number_of, state_of}
use Rattle.mover.specs.declared.step.Stepped.TheVariants.{Done, Again, Refused}

pub case_number : (k : ℕ) (s : State) → number_of (case_of k s) ≡ k
unfolding case_of number_of
case_number k s = go (eqb k 0) (eqb k 9) refl refl
  where
    go : (a b : Bool) → eqb k 0 ≡ a → eqb k 9 ≡ b → number_of (cond a (Done s) (cond b (Again s) (Refused k s))) ≡ k
    go true b p q = sym (eqb-true k 0 p)
    go false true p q = sym (eqb-true k 9 q)
    go false false p q = refl

pub case_state : (k : ℕ) (s : State) → state_of (case_of k s) ≡ s
unfolding case_of state_of
case_state k s = go (eqb k 0) (eqb k 9)
  where
    go : (a b : Bool) → state_of (cond a (Done s) (cond b (Again s) (Refused k s))) ≡ s
    go true b = refl
    go false true = refl
    go false false = refl
