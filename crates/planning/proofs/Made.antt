-- What is true of the plan of an order that planning takes? Assumes nothing.
use mathlib.Core.Path.{◌∙◌, ◌≡◌, ap, refl, subst, sym}
use mathlib.Core.Bool.{Bool, false, true}
use mathlib.Core.List.{List, [], ◌∷◌}
use Prim.Native.Nat.{◌+◌, ◌-◌, ◌<◌, ◌^◌, ◌≤◌, suc, zero, ℕ}
use native.Mathlib.Omega.{arith}
use lib.Pow.{pow_pos}
use lib.ListN.{get_or, length}
use Rattle.bank.proofs.Limits.{limits→allowed, Allowed}
use Rattle.bank.specs.Geometry.{in_limits}
use Rattle.bank.specs.Limits.{PASSES}
use Rattle.bank.specs.declared.Geometry.{Geometry}
use Rattle.algebra.specs.Matrix.{columns, rank, singular, spills, target}
use Rattle.algebra.proofs.Lists.{all_at, at_all}
use Rattle.planning.proofs.Bound.{passes_bound}
use Rattle.planning.proofs.Run.{MatrixRuns, plan_half, plan_length, plan_moves, plan_runs}
use Rattle.planning.proofs.Running.{runs_back, runs→sound, sound_allowed, sound_dry}
use Rattle.planning.proofs.Still.{by_passes, still_target}
use Rattle.planning.proofs.Stored.{route_length}
use Rattle.planning.specs.Columns.{phi}
use Rattle.planning.specs.Making.{divided_up, pass_matrices, passes_for, passes_made}
use Rattle.planning.specs.Pass.{complemented, pass_in, performed}
use Rattle.planning.specs.Running.{sound}
use Rattle.planning.specs.Stored.{plan_for, route_of}
use Rattle.planning.specs.declared.Plan.{Plan}
use Rattle.planning.specs.Inner.{Runs}

-- ---- complements
pub complemented-length : (fs : List (List ℕ)) (c : ℕ) → length (complemented fs c) ≡ length fs
unfolding complemented
complemented-length [] c = refl
complemented-length (f ∷ []) c = refl
complemented-length (f ∷ g ∷ fs) c = ap suc (complemented-length (g ∷ fs) c)

complemented_rows : (fs : List (List ℕ)) (c p : ℕ) → (pass_in (complemented fs c) p).rows ≡ get_or fs p []
unfolding complemented
complemented_rows [] c p = refl
complemented_rows (f ∷ []) c zero = refl
complemented_rows (f ∷ []) c (suc p) = refl
complemented_rows (f ∷ g ∷ fs) c zero = refl
complemented_rows (f ∷ g ∷ fs) c (suc p) = complemented_rows (g ∷ fs) c p

complemented-lt : (fs : List (List ℕ)) (c n p : ℕ) → c < 2 ^ n → (pass_in (complemented fs c) p).complement < 2 ^ n
unfolding complemented
complemented-lt [] c n p h = pow_pos n
complemented-lt (f ∷ []) c n zero h = h
complemented-lt (f ∷ []) c n (suc p) h = pow_pos n
complemented-lt (f ∷ g ∷ fs) c n zero h = pow_pos n
complemented-lt (f ∷ g ∷ fs) c n (suc p) h = complemented-lt (g ∷ fs) c n p h

module _ (g : Geometry) (rows : List ℕ) (c : ℕ) (hg : in_limits g ≡ true) (hr : length rows ≡ g.n) (hs : singular g.n rows ≡ false) where
  a : Allowed g
  a = limits→allowed g hg

  hm : g.m ≤ g.n
  hm = omega (arith, a.memory_below)

  abbrev matrices : List (List ℕ)
  matrices = pass_matrices g.n g.b g.m rows

  -- rounds number rank φ divided by m - b, rounded up; the passes made are one more
  pub made_length : length (passes_made g rows c) ≡ divided_up (rank (phi g.m (columns g.n rows)) g.m) (g.m - g.b) + 1
  made_length = complemented-length matrices c ∙ plan_length g.n g.b g.m a.block_below hm rows hr hs ∙ omega arith

  -- they fit into a plan
  pub made_few : length (passes_made g rows c) ≤ PASSES
  made_few = omega (arith, complemented-length matrices c, plan_half g.n g.b g.m a.block_below hm rows hr hs, a.n_high)

  -- the order's passes take every x to Ax xor c
  pub made_performs : (x : ℕ) → x < 2 ^ g.n → performed (passes_for g rows c) x ≡ target rows c x
  unfolding performed
  made_performs =
      by_passes g rows c hr (λ ps. (x : ℕ) → x < 2 ^ g.n → performed ps x ≡ target rows c x) (λ s x h. sym (still_target g.n rows c s x h))
      (λ f. plan_moves g.n g.b g.m a.block_below hm rows hr hs c)

  module _ (hc : c < 2 ^ g.n) (blanks : Bool) where
    -- the passes made can run
    rounds_run : Runs (record { geometry = g; blanks = blanks; passes = passes_made g rows c })
    rounds_run = record {
      inside = hg;
      few_passes = made_few;
      each_runs = λ p h.
          let runs = plan_runs g.n g.b g.m a.block_below hm rows hr hs in
          let k : MatrixRuns g.n g.b g.m (pass_in (complemented matrices c) p).rows
          = subst (MatrixRuns g.n g.b g.m) (sym (complemented_rows matrices c p))
          (all_at [] (MatrixRuns g.n g.b g.m) matrices runs p (rw complemented-length at h)) in record {
            rows_all = k.all;
            rows_below = λ i hi. k.small i;
            complement_below = complemented-lt matrices c g.n p hc;
            regular = k.regular;
            dry = k.dry;
          };
    }

    -- the order's route can run
    made_runs : Runs (record { geometry = g; blanks = blanks; passes = passes_for g rows c })
    made_runs =
        by_passes g rows c hr (λ ps. Runs (record { geometry = g; blanks = blanks; passes = ps }))
        (λ s. record { inside = hg; few_passes = omega arith; each_runs = λ p h. absurd (omega arith) }) (λ f. rounds_run)

    -- its plan holds it ..
    pub made_route : route_of (plan_for g rows c blanks) ≡ record { geometry = g; blanks = blanks; passes = passes_for g rows c }
    unfolding plan_for
    made_route = runs_back (record { geometry = g; blanks = blanks; passes = passes_for g rows c }) made_runs

    -- .. and is one that can run
    pub made_sound : sound (plan_for g rows c blanks) ≡ true
    unfolding plan_for
    made_sound = runs→sound (record { geometry = g; blanks = blanks; passes = passes_for g rows c }) made_runs

-- ---- any sound plan that performs an order, whoever made it
module _ (plan : Plan) (e : sound plan ≡ true) (rows : List ℕ) (c : ℕ)
    (does : (x : ℕ) → x < 2 ^ plan.geometry.n → performed (route_of plan).passes x ≡ target rows c x) where
  -- has at least rank φ divided by m - b passes, rounded up
  pub runs_bound : divided_up (rank (phi plan.geometry.m (columns plan.geometry.n rows)) plan.geometry.m)
      (plan.geometry.m - plan.geometry.b) ≤ plan.count
  runs_bound =
      let g = plan.geometry in
      let k = sound_allowed plan e in
      let dry = at_all (record { rows = []; complement = 0 }) (λ p. spills g.b g.m p.rows ≡ false) (route_of plan).passes
      (λ p h. sound_dry plan e p (rw route_length at h)) in
      rw (← route_length plan)
      (passes_bound g.n g.b g.m k.block_below (omega (arith, k.memory_below)) rows c (route_of plan).passes dry does)
