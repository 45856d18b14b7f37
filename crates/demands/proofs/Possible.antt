-- Why do the demands speak of something? An order that moves something is taken, and a chain with repeats and refused calls
-- comes to the end. Assumes nothing.
use mathlib.Core.Path.{◌≡◌, refl, sym, ap, ◌∙◌, subst}
use mathlib.Core.Bool.{true, false, cond}
use mathlib.Core.List.{List, [], ◌∷◌, ◌++◌}
use Prim.Native.Nat.{ℕ, zero, suc, ◌+◌, ◌-◌, ◌^◌, ◌≤◌, ◌<◌}
use native.Mathlib.Nat.{le_refl}
use native.Mathlib.Omega.{arith}
use lib.Bits.{bit_xor}
use lib.Dec.{eqb}
use lib.ListN.{get_or, length-take, take, replicate, get_or-append}
use lib.Pow.{pow-lt, pow_pos}
use lib.Seq.{take-append_seam, get_or-append-add, get_or-take}
use Rattle.bank.specs.Limits.{ROWS}
use Rattle.bank.specs.declared.Geometry.{Geometry}
use Rattle.bank.specs.Geometry.{in_limits, records}
use Rattle.bank.proofs.Limits.{limits→allowed}
use Rattle.algebra.specs.Matrix.{identity, singular, target}
use Rattle.algebra.proofs.Lists.{get_or_zeros}
use Rattle.algebra.proofs.Linear.{apply_zero}
use Rattle.algebra.proofs.Singular.{identity_regular, kernel-singular, zero_rows}
use Rattle.algebra.proofs.Columns.{identity_at, identity-length}
use Rattle.order.specs.Order.{matrix_of, bad_form, judgement, verdict, with_z}
use Rattle.order.specs.declared.Verdict.{Verdict}
use Rattle.order.proofs.Judged.{good_form, regular_none, singular_three, z_three}
use Rattle.planning.specs.declared.Plan.{Plan}
use Rattle.moving.specs.Step.{Buffers, buffers_fit}
use Rattle.moving.specs.Call.{Moment}
use Rattle.mover.specs.declared.step.Stepped.{Stepped}
use Rattle.mover.specs.Promise.{number_of, state_of}
use Rattle.demands.specs.Mover.{Mover, beginning}
use Rattle.demands.specs.Chain.{Called, Chain, new_steps, moment_of}
use Rattle.demands.specs.Chain.Called.{asked, allowed, stray_asked, stray_allowed}
use Rattle.demands.specs.Chain.Chain.{no_calls, step, run, stray_step, stray_run}
use Rattle.demands.specs.Numbers.{Ready, StepNumbers}
use Rattle.demands.specs.Answers.{Answers}
use Rattle.demands.specs.Delivers.{Reached}
use Rattle.demands.specs.Possible.{Call, Comes, Possible, again, busy_calls, calls_of, flip_order, in_turn, xor_order, zero_order}
use Rattle.demands.specs.Possible.Call.{asks, runs}
use Rattle.addresses.specs.Address.{sent_to}

-- ---- an order that is taken: the identity with any c

module _ (g : Geometry) (c : ℕ) where
  xor_matrix : matrix_of (xor_order g c) ≡ identity g.n
  xor_matrix =
      ap (λ (k : ℕ). take k (identity g.n ++ replicate (ROWS - g.n) 0)) (sym (identity-length g.n))
      ∙ take-append_seam (identity g.n) (replicate (ROWS - g.n) 0)

  xor_row : (i : ℕ) → i < g.n → get_or (xor_order g c).rows i 0 ≡ 2 ^ i
  xor_row i h =
      get_or-append (identity g.n) (replicate (ROWS - g.n) 0) 0 i (subst (λ (k : ℕ). i < k) (sym (identity-length g.n)) h) ∙ identity_at g.n i h

  xor_spare : (i : ℕ) → g.n ≤ i → get_or (xor_order g c).rows i 0 ≡ 0
  xor_spare i h =
      ap (λ (k : ℕ). get_or (identity g.n ++ replicate (ROWS - g.n) 0) k 0) (omega (arith, identity-length g.n))
      ∙ get_or-append-add (identity g.n) (replicate (ROWS - g.n) 0) (i - g.n) 0 ∙ get_or_zeros (ROWS - g.n) (i - g.n)

  module _ (inside : in_limits g ≡ true) (below : c < records g) where
    xor_form : bad_form (xor_order g c) ≡ false
    xor_form =
        good_form (xor_order g c) (λ i h. subst (λ (k : ℕ). k < records g) (sym (xor_row i h)) (pow-lt h)) below (λ i h l. xor_spare i h)

    xor_taken : judgement (xor_order g c) ≡ 0
    xor_taken = regular_none (xor_order g c) inside xor_form (ap (singular g.n) xor_matrix ∙ identity_regular g.n)

flip_taken : (g : Geometry) → in_limits g ≡ true → judgement (flip_order g) ≡ 0
flip_taken g inside = xor_taken g 1 inside (pow-lt {i = 0} (omega (arith, (limits→allowed g inside).n_low)))

flip_moves : (g : Geometry) → in_limits g ≡ true → sent_to (flip_order g) 0 ≡ 1
unfolding target
flip_moves g inside = ap (λ (k : ℕ). bit_xor k 1) (apply_zero (matrix_of (flip_order g)))

-- ---- an order that is refused by 3: zero rows
zero-refused : (g : Geometry) → in_limits g ≡ true → verdict (zero_order g) ≡ record { number = 3; z = record { 0 = 1 } }
zero-refused g inside =
    let order = zero_order g in
    let zero : (i : ℕ) → get_or order.rows i 0 ≡ 0 = get_or_zeros ROWS in
    let form = good_form order (λ i h. subst (λ (k : ℕ). k < records g) (sym (zero i)) (pow_pos g.n)) (pow_pos g.n) (λ i h l. zero i) in
    let least = zero_rows g.n (matrix_of order) (omega (arith, (limits→allowed g inside).n_low)) (simp length-take (omega arith))
    (λ i h. get_or-take g.n order.rows i 0 h ∙ zero i) in
    let three = singular_three order inside form (kernel-singular g.n (matrix_of order) (λ e. omega (arith, least, e))) in
    ap (λ (k : ℕ). with_z k order) three ∙ ap {B = Verdict} (λ (k : ℕ). record { number = 3; z = record { 0 = k } }) (z_three order refl ∙ least)

-- ---- a chain and another from where it ended

joined : {M : Mover} {plan : Plan} {m mid end : Moment} {cs ds : List Called} → Chain M plan m cs mid → Chain M plan mid ds end → Chain M plan m (cs ++ ds) end
joined no_calls d = d
joined (step k r p c) d = step k r p (joined c d)
joined (run q r p c) d = run q r p (joined c d)
joined (stray_step stray k r p f c) d = stray_step stray k r p f (joined c d)
joined (stray_run stray q r p f c) d = stray_run stray q r p f (joined c d)

joined_steps : (cs ds : List Called) → new_steps (cs ++ ds) ≡ new_steps cs + new_steps ds
unfolding new_steps
joined_steps [] ds = omega arith
joined_steps (asked k r ∷ cs) ds = omega (arith, joined_steps cs ds)
joined_steps (allowed q r ∷ cs) ds = omega (arith, joined_steps cs ds)
joined_steps (stray_asked stray k r ∷ cs) ds = joined_steps cs ds
joined_steps (stray_allowed stray q r ∷ cs) ds = joined_steps cs ds

-- ---- a chain comes to the end: it is built from its end on

-- the moment m, come to from the start by calls that did j steps
record Here (M : Mover) (plan : Plan) (v : Buffers) (j : ℕ) (m : Moment) : Type 0 where
  calls : List Called
  chain : Chain M plan (beginning M v) calls m
  done : m.state.next.0 ≡ j

-- from m on, these calls come to the end
record Ahead (M : Mover) (plan : Plan) (m : Moment) (ahead : List Call) : Type 0 where
  calls : List Called
  end : Moment
  chain : Chain M plan m calls end
  own : calls_of calls ≡ ahead
  there : end.state.next.0 ≡ M.total plan

module _ (M : Mover) (answers : Answers M) (plan : Plan) (v : Buffers)
    (chains : (cs : List Called) (end : Moment) → Chain M plan (beginning M v) cs end → Reached M plan cs end) where
  -- wherever j steps are done, these calls come to the end
  abbrev Onward : ℕ → List Call → Type 0
  Onward j these = (m : Moment) → Here M plan v j m → Ahead M plan m these

  -- a run with no allowance is not refused, so no call is refused by 7 or 4
  ready : {j : ℕ} {m : Moment} → Here M plan v j m → Ready plan m
  ready {m = m} here =
      let r = answers.run_some plan m 0 in
      (answers.numbered.of_run plan m 0 r.0 r.1 r.2).gives_0.0 ((chains here.calls m here.chain).runs_on 0 r.0 r.1 r.2)

  -- more calls: the steps that they did are added
  further : {j : ℕ} {m : Moment} → Here M plan v j m → (ds : List Called) (n : Moment) → Chain M plan m ds n → (i : ℕ) → j + new_steps ds ≡ i → Here M plan v i n
  further {m = m} here ds n d i e =
      let c = joined here.chain d in
      let counted = (chains here.calls m here.chain).counted in
      record {
        calls = here.calls ++ ds;
        chain = c;
        done = omega (arith, (chains (here.calls ++ ds) n c).counted, joined_steps here.calls ds, counted, here.done);
      }

  -- a step is asked whose number is known: only 0 does one more
  asks_on : (number k j i : ℕ) {rest : List Call} → ((m : Moment) → Here M plan v j m → (r : Stepped) → StepNumbers M plan m k r → number_of r ≡ number)
      → j + cond (eqb number 0) 1 0 ≡ i → Onward i rest → Onward j (asks k ∷ rest)
  unfolding new_steps calls_of
  asks_on number k j i numbered e on m here =
      let r = answers.step_some plan m k in
      let z = numbered m here r.0 (answers.numbered.of_step plan m k r.0 r.1 r.2) in
      let n = moment_of (state_of r.0) r.1 in
      let a = on n (further here (asked k r.0 ∷ []) n (step k r.0 r.2 no_calls) i (rw z (omega arith))) in
      record {
        calls = asked k r.0 ∷ a.calls;
        end = a.end;
        chain = step k r.0 r.2 a.chain;
        own = ap (◌∷◌ (asks k)) a.own;
        there = a.there;
      }

  asks_next : (j : ℕ) {rest : List Call} → j < M.total plan → Onward (suc j) rest → Onward j (asks j ∷ rest)
  asks_next j h = asks_on 0 j j (suc j) (λ m here r s. s.gives_0.1 ((ready here, h), sym here.done)) (omega arith)

  asks_again : (i j : ℕ) {rest : List Call} → j < M.total plan → Onward (suc j) rest → Onward (suc j) (again i j rest)
  unfolding again
  asks_again zero j h on = on
  asks_again (suc i) j h on =
      asks_on 9 j (suc j) (suc j) (λ m here r s. s.gives_9.1 ((ready here, h), omega (arith, here.done))) (omega arith) (asks_again i j h on)

  asks_past : (j : ℕ) {rest : List Call} → Onward j rest → Onward j (asks (M.total plan) ∷ rest)
  asks_past j = asks_on 6 (M.total plan) j j (λ m here r s. s.gives_6.1 (ready here, le_refl _)) (omega arith)

  asks_in_turn : (more : ℕ → ℕ) (k j : ℕ) {rest : List Call} → j + k ≤ M.total plan → ((i : ℕ) → Onward i rest) → Onward j (in_turn more k j rest)
  unfolding in_turn
  asks_in_turn more zero j h on = on j
  asks_in_turn more (suc k) j h on = asks_next j (omega arith) (asks_again (more j) j (omega arith) (asks_in_turn more k (suc j) (omega arith) on))

  runs_all : (j : ℕ) → Onward j (runs (M.total plan) ∷ [])
  unfolding new_steps calls_of
  runs_all j m here =
      let all = M.total plan in
      let r = answers.run_some plan m all in
      let at = chains here.calls m here.chain in
      let did = answers.run_done plan m all r.0 r.1 r.2 (at.runs_on all r.0 r.1 r.2) in
      let n = moment_of r.0.state r.1 in
      let c = run all r.0 r.2 no_calls in
      record {
        calls = allowed all r.0 ∷ [];
        end = n;
        chain = c;
        own = refl;
        there = (further here (allowed all r.0 ∷ []) n c all (omega (arith, at.in_total, here.done, did.0))).done;
      }

  start : Here M plan v 0 (beginning M v)
  unfolding new_steps
  start = record { calls = []; chain = no_calls; done = (chains [] (beginning M v) no_calls).counted }

  busy_comes : (k : ℕ) → k ≤ M.total plan → (more : ℕ → ℕ) → Comes M plan v (busy_calls (M.total plan) k more)
  busy_comes k h more =
      let a = asks_past 0 (asks_in_turn more k 0 (omega arith) (λ i. asks_past i (runs_all i))) (beginning M v) start in
      record { calls = a.calls; end = a.end; chain = a.chain; own = a.own; there = a.there }

pub possible : Possible
possible =
    record {
      taken = flip_taken;
      moves = flip_moves;
      still_taken = λ g inside. xor_taken g 0 inside (pow_pos g.n);
      still = λ g. (xor_matrix g 0, refl);
      refused_3 = zero-refused;
      comes = λ M answers delivers order room taken blanks v fitting.
          let own = delivers.own order room taken blanks in
          busy_comes M answers (M.plans order blanks).plan v
          ((delivers.carries (M.plans order blanks).plan own.runs).chains v (subst (λ (g : Geometry). buffers_fit g v ≡ true) (sym own.on_its_bank) fitting));
    }
