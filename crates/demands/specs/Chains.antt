-- When do two chains of calls come to the same? Assumes nothing.
use Rattle.std.specs.Prelude.{◌≡◌, Bool, true, false, cond, ◌&&◌, List, [], ◌∷◌, ℕ, suc, ◌+◌, eqb, length}
use Rattle.planning.specs.declared.Plan.{Plan}
use Rattle.moving.specs.Step.{Buffers}
use Rattle.moving.specs.Call.{Moment, refuses}
use Rattle.mover.specs.declared.run.Ran.{Ran}
use Rattle.mover.specs.Promise.{number_of}
use Rattle.demands.specs.Mover.{Mover}
use Rattle.demands.specs.Chain.{Called, Chain, moment_of}
use Rattle.demands.specs.Chain.Called.{asked, allowed, stray_asked, stray_allowed}

-- calls, those that are refused left out, those of others too
unfoldable pub without_refused : List Called → List Called
without_refused [] = []
without_refused (asked k answer ∷ cs) = cond (refuses (number_of answer)) (without_refused cs) (asked k answer ∷ without_refused cs)
without_refused (allowed q answer ∷ cs) = cond (eqb answer.number 0) (allowed q answer ∷ without_refused cs) (without_refused cs)
without_refused (stray_asked stray k answer ∷ cs) = without_refused cs
without_refused (stray_allowed stray q answer ∷ cs) = without_refused cs

-- steps asked in turn from step j on, each done
unfoldable pub done_in_turn : ℕ → List Called → Bool
done_in_turn j [] = true
done_in_turn j (asked k answer ∷ cs) = eqb k j && eqb (number_of answer) 0 && done_in_turn (suc j) cs
done_in_turn j (allowed q answer ∷ cs) = false
done_in_turn j (stray_asked stray k answer ∷ cs) = false
done_in_turn j (stray_allowed stray q answer ∷ cs) = false

-- the steps that a run did, as a chain of step calls from m to the moment that the run left
pub record Stepwise (M : Mover) (plan : Plan) (m : Moment) (count : ℕ) (end : Moment) : Type 0 where
  pub calls : List Called
  pub chain : Chain M plan m calls end
  pub in_turn : done_in_turn m.state.next.0 calls ≡ true
  pub as_many : length calls ≡ count

pub record Chains (M : Mover) : Type 0 where
  -- a chain and the same chain with its refused calls left out end with the same state and bytes
  pub refused_out : (plan : Plan) (m : Moment) (cs : List Called) (end : Moment) → Chain M plan m cs end
      → Chain M plan m (without_refused cs) end
  -- two runs in a row and one run of their sum agree: numbers, counts, state and bytes
  pub runs_add : (plan : Plan) (m : Moment) (q q' : ℕ) (r r' s : Ran) (w w' u : Buffers)
      → M.run plan m q r w → M.run plan (moment_of r.state w) q' r' w' → M.run plan m (q + q') s u
      → (r.number ≡ s.number) × (r'.number ≡ s.number) × (r.count + r'.count ≡ s.count) × (r'.state ≡ s.state) × (w' ≡ u)
  -- a run comes to what its steps do, asked in turn
  pub run_steps : (plan : Plan) (m : Moment) (q : ℕ) (r : Ran) (w : Buffers) → M.run plan m q r w
      → Stepwise M plan m r.count (moment_of r.state w)
