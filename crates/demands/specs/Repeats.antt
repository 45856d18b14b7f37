-- What does a silent retry do? The promise to those who send the steps: a step that was done and is asked again changes nothing. Assumes nothing.
use Rattle.std.specs.Prelude.{◌≡◌, Bool, true, not, ◌&&◌, List, [], ◌∷◌, ℕ, eqb}
use Rattle.planning.specs.declared.Plan.{Plan}
use Rattle.moving.specs.Step.{Buffers}
use Rattle.moving.specs.Call.{Moment}
use Rattle.mover.specs.declared.step.Stepped.{Stepped}
use Rattle.mover.specs.Promise.{number_of, state_of}
use Rattle.demands.specs.Mover.{Mover}
use Rattle.demands.specs.Chain.{Called, Chain, moment_of}
use Rattle.demands.specs.Chain.Called.{asked, allowed, stray_asked, stray_allowed}

-- repeats and refused calls alone: no call of the chain's own is answered 0
unfoldable pub quiet : List Called → Bool
quiet [] = true
quiet (asked k answer ∷ cs) = not (eqb (number_of answer) 0) && quiet cs
quiet (allowed q answer ∷ cs) = not (eqb answer.number 0) && quiet cs
quiet (stray_asked stray k answer ∷ cs) = quiet cs
quiet (stray_allowed stray q answer ∷ cs) = quiet cs

-- step k was done and left the bytes w; asked again at once, or after any number of repeats and refused calls,
-- it answers 9, keeps the state, and leaves every byte as it was
abbrev pub Repeats : Mover → Type 0
Repeats M =
    (plan : Plan) (m : Moment) (k : ℕ) (r : Stepped) (w : Buffers) → M.step plan m k r w → number_of r ≡ 0
    → (cs : List Called) (later : Moment) → Chain M plan (moment_of (state_of r) w) cs later → quiet cs ≡ true
    → (again : Stepped) (u : Buffers) → M.step plan later k again u → (number_of again ≡ 9) × (state_of again ≡ state_of r) × (u ≡ w)
