-- Why is each useless mover shut out? By one small order. Assumes nothing.
use mathlib.Core.Path.{◌≡◌, refl, sym, ap, ap₂, ◌∙◌, subst}
use mathlib.Core.Bool.{cond, false, false≢true, true, true≢false}
use mathlib.Core.List.{List, [], ◌∷◌, ◌++◌}
use Prim.Native.Nat.{ℕ, ◌-◌, ◌<◌, ◌^◌}
use native.Mathlib.Omega.{arith}
use native.Mathlib.Nat.{mod-lt}
use lib.Count.{ones}
use lib.Dec.{eqb, lit<}
use lib.ListN.{get_or, replicate}
use Rattle.bank.specs.Limits.{ROWS}
use Rattle.bank.specs.declared.Geometry.{Geometry}
use Rattle.bank.specs.Checks.{handed}
use Rattle.bank.specs.Geometry.{in_limits, tier_at, tiers}
use Rattle.algebra.specs.Search.{least, least_from, any_below, first_passing, listed}
use Rattle.algebra.specs.Vector.{WORD, parity, unit_vectors}
use Rattle.algebra.specs.Matrix.{applied, columns, identity, is_identity, kernel, kills, singular, target}
use Rattle.algebra.proofs.Lists.{get_or_zeros}
use Rattle.addresses.specs.declared.Target.{Target}
use Rattle.order.specs.declared.Order.{Order}
use Rattle.order.specs.declared.Verdict.{Verdict}
use Rattle.order.specs.Order.{Words, bad_form, form_number, judgement, matrix_of, spare_row, stray_complement, stray_row, z_with}
use Rattle.addresses.specs.Address.{question_number}
use Rattle.order.proofs.Accepted.{judgement→accepted, matrix_length}
use Rattle.addresses.proofs.Asked.{number_none, number_order}
use Rattle.planning.specs.declared.Plan.{Plan}
use Rattle.planning.specs.Pass.{load_steps, pass_steps, phases, total}
use Rattle.planning.specs.State.{fresh_state}
use Rattle.planning.specs.Making.{passes_made}
use Rattle.planning.specs.Stored.{empty_plan, plan_of, route_of}
use Rattle.planning.proofs.Made.{made_length}
use Rattle.planning.proofs.Running.{sound→can_run}
use Rattle.plan.specs.Answer.{planned_for}
use Rattle.totals.specs.Total.{result_area, total_steps}
use Rattle.moving.specs.Bytes.{copied, each, each_from, record_of}
use Rattle.moving.specs.Number.{load_of, pass_of, phase_of, tier_of}
use Rattle.moving.specs.Step.{Buffers, read_from}
use Rattle.moving.specs.Call.{begun, refuses}
use Rattle.moving.proofs.Calls.{CallReady, next_number}
use Rattle.mover.proofs.Asked.{total_is}
use Rattle.mover.specs.declared.step.Stepped.TheVariants.{Again, Done, Refused}
use Rattle.mover.specs.Promise.{number_of, state_of}
use Rattle.text.specs.Lines.{bits, line, row_lines}
use Rattle.reading.specs.OrderText.{order_text}
use Rattle.reading.specs.Reading.{Begins, Whole, no_order}
use Rattle.reading.specs.Reading.Reads.{singular as read-singular}
use Rattle.listing.specs.Listing.{listing, head_lines}
use Rattle.demands.specs.Chain.{new_steps, moment_of}
use Rattle.demands.specs.Chain.Called.{allowed}
use Rattle.demands.specs.Chain.Chain.{no_calls, run}
use Rattle.demands.specs.Answers.{Answers}
use Rattle.demands.specs.Delivers.{Carries, Delivered, Delivers, Reached, area_named}
use Rattle.demands.specs.Mover.{Mover, beginning}
use Rattle.demands.specs.Possible.{flip_order, still_order, zero_order}
use Rattle.demands.specs.OneStep.{MoveMade, ReadStep}
use Rattle.demands.specs.Repeats.{quiet}
use Rattle.demands.specs.Sends.{Sends}
use Rattle.demands.specs.Shows.{Explains, Gives}
use Rattle.demands.specs.Shows.Gives.{judging, forwards, planning, reading}
use Rattle.demands.specs.Still.{CostsNothing}
use Rattle.demands.specs.Useless.{Broken, always_passes, begins_at_one, blanks_nothing, invents_totals, moves_all, moves_nothing, other_area, plans_without_c, reads_whole_load}
use Rattle.demands.specs.Useless.{reads_without_z, refuses_all, refuses_no_passes, refuses_runs, refuses_steps, shows_always, shows_greatest, shows_turned, steps_move_nothing, takes_identity_alone, to_itself, to_zero, wraps_size, wraps_totals}
use Rattle.demands.proofs.Answers.{ours_answers}
use Rattle.demands.proofs.Delivers.{ours_delivers, own_passes}
use Rattle.demands.proofs.Possible.{possible}
use Rattle.demands.proofs.Promised.{step_number_lem}
use Rattle.demands.proofs.Sends.{ours-sends}
use Rattle.demands.proofs.Still.{ours_still}
use Rattle.demands.proofs.Small.{bank, small, small_taken, sent_0, plan, plan_that, small_plan, small_sound, small_runs, eight, holding, start, end, at_step, start_fits}
use Rattle.demands.proofs.Small.{moved_all, ended, run_promised, reads_first, tier_first, step_promised, again_promised}

-- ---- what the demands make of the small order

module _ (M : Mover) (h : Sends M) where
  must_take : (M.judges small).number ≡ 0
  must_take = (h small refl).gives_0.1 ((ours-sends small refl).gives_0.0 small_taken)

  must_send : (M.judges small).number ≡ 0 → (M.sends small 0).address.0 ≡ 1
  must_send e = ap (λ (t : Target). t.address.0) ((h small refl).sends e 0 (omega arith)) ∙ sent_0

module _ (M : Mover) (h : Delivers M) where
  carried : Carries M plan
  carried = h.carries plan (small_runs false)

  no_calls_lem : Reached M plan [] (beginning M start)
  no_calls_lem = carried.chains start start_fits [] (beginning M start) no_calls

  -- after a run of its 8 steps byte 0 of area 0 is at address 1 of the area named
  must_deliver : (M.judges small).number ≡ 0 → (M.plans small false).plan ≡ plan → M.total plan ≡ 8 → (w : Buffers) → M.run plan (beginning M start) 8 ended w
      → get_or (record_of 1 (area_named (M.area plan) w) 1) 0 0 ≡ 1
  must_deliver judges plans all w p =
      ap (λ (y : ℕ). get_or (record_of 1 (area_named (M.area plan) w) y) 0 0) (sym sent_0)
      ∙ ap (λ (l : List ℕ). get_or l 0 0)
      (subst (Delivered M small) plans (h.own small refl judges false).delivers start start_fits
      (allowed 8 ended ∷ []) (moment_of (at_step 8) w) (run 8 ended p no_calls) (sym all) 0 (omega arith))

  first_read : (l : 0 < M.total plan) → ReadStep M plan 0 (carried.one_block 0 l).block_on
  first_read l = (carried.one_block 0 l).reading reads_first

-- ---- where numbers don't fit in a word: n is ROWS, a block is one record, on one drive

abbrev widest : Geometry
widest = record { n = ROWS; b = 0; d = 0; m = 1; r = 1 }

no_wrapped_size : Sends wraps_size → ⊥
unfolding in_limits
no_wrapped_size h = (h (record { geometry = widest; rows = replicate ROWS 0; complement = 0 }) refl).never_2 words refl refl
  where
    words : Words (record { geometry = widest; rows = replicate ROWS 0; complement = 0 })
    words = record { row = λ i. rw (get_or_zeros ROWS i) (lit< tt); complement = lit< tt }

no_wrapped_total : Delivers wraps_totals → ⊥
unfolding in_limits identity unit_vectors
no_wrapped_total h =
    let flip = flip_order widest in
    let own = h.own flip refl (possible.taken widest refl) false in
    let made = (wraps_totals.plans flip false).plan in
    let some = own_passes flip refl (possible.taken widest refl) (λ s. omega (arith, s.1)) false in
    let steps = rw (own.on_its_bank, own.keeps) at (h.carries made own.runs).steps in
    let below = mod-lt (total_steps made) {m = 2 ^ WORD} (lit< tt) in
    omega (arith, steps, below, some)

-- ---- plans of no passes, on the small order's bank

-- what stays where it is began at 1 too
no_dropped_complement : Delivers plans_without_c → ⊥
unfolding in_limits identity unit_vectors area_named
no_dropped_complement h =
    let still = ours_still (still_order bank) refl (possible.still_taken bank refl) (possible.still bank) false in
    let moved = (h.own (flip_order bank) refl (possible.taken bank refl) false).delivers start start_fits [] (beginning plans_without_c start) no_calls
    (sym still.no_step) 0 (omega arith) in
    let at : ℕ → ℕ → ℕ = λ area y. get_or (record_of 1 (area_named area start) y) 0 0 in
    omega (arith, sym (ap₂ at still.in_area_0 (possible.moves bank refl)) ∙ ap (λ (l : List ℕ). get_or l 0 0) moved)

no_pass_for_nothing : CostsNothing always_passes → ⊥
unfolding in_limits identity unit_vectors plan_of
no_pass_for_nothing h =
    let order = still_order bank in
    let taken = possible.still_taken bank refl in
    let k = judgement→accepted order taken in
    let none = (h order refl taken (possible.still bank) false).no_pass in
    let made : ℕ → ℕ = λ number. (handed number (plan_of (record { geometry = bank; blanks = false; passes = passes_made bank (matrix_of order) 0 })) empty_plan).count in
    omega (arith, sym (ap made taken) ∙ none, made_length bank (matrix_of order) 0 refl (matrix_length order refl refl) k.regular)

no_refused_nothing : Answers refuses_no_passes → ⊥
unfolding in_limits identity unit_vectors number_of
no_refused_nothing h =
    let still = ours_still (still_order bank) refl (possible.still_taken bank refl) (possible.still bank) false in
    let made = (planned_for (still_order bank) false).plan in
    let answer = ours_answers.step_some made (begun start) 0 in
    let refused : Refused 7 fresh_state ≡ cond (eqb made.count 0) (Refused 7 fresh_state) answer.0
    = ap (λ (k : ℕ). cond (eqb k 0) (Refused 7 fresh_state) answer.0) (sym still.no_pass) in
    let seven = (h.numbered.of_step made (begun start) 0 (Refused 7 fresh_state) answer.1 (answer.0, answer.2, refused)).gives_7.0 refl in
    let sound = (ours_delivers.own (still_order bank) refl (possible.still_taken bank refl) false).runs.runnable in
    true≢false (sym (sound→can_run made fresh_state sound (omega arith)) ∙ seven)

-- ---- the small order's plan that blanks: 12 steps, of which step 4 is the first blank of the first load

-- what a blank leaves in memory is zero, and not what it held
no_sparing : Delivers blanks_nothing → ⊥
unfolding route_of listed phase_of tier_of total pass_steps load_steps phases tiers tier_at
no_sparing h =
    let marked = plan_that true in
    let held = moment_of (at_step 4) (holding 1 0) in
    let twelve : total (route_of marked) ≡ 12 = refl in
    let fits : CallReady marked held = record { sound_plan = small_sound true; in_total = omega (arith, twelve); fitting = record { area0_long = refl; area1_long = refl; memory_long = refl } } in
    let answer = ours_answers.step_some marked held 4 in
    let zero = step_number_lem marked held 4 answer.0 answer.1 answer.2 ∙ next_number marked held 4 fits (omega (arith, twelve)) refl in
    let below : 4 < blanks_nothing.total marked = omega (arith, total_is marked (small_sound true), twelve) in
    let made : MoveMade blanks_nothing marked 4 held (holding 1 0)
    = record { answer = answer.0; promised = (answer.1, answer.2, refl); taken = ap refuses zero } in
    let blank = ((h.carries marked (small_runs true)).one_block 4 below).blanking refl in
    omega (arith, blank.clear held (holding 1 0) made 0 (omega arith) refl)

-- ---- singular orders, on the small order's bank

-- zero rows: every address is sent to 0
abbrev zeros : Order
zeros = zero_order bank

zeros_three : judgement zeros ≡ 3
unfolding in_limits
zeros_three = ap (λ (v : Verdict). v.number) (possible.refused_3 bank refl)

-- row 0 is 01, so that 1 is sent to 0 too; column 1 is 10, and so the matrix turned round sends 2 to 0
abbrev turned : Order
turned = record { geometry = bank; rows = 2 ∷ replicate (ROWS - 1) 0; complement = 0 }

turned_three : judgement turned ≡ 3
unfolding ones in_limits least_from least any_below parity applied kills singular stray_row stray_complement spare_row bad_form form_number judgement
turned_three = refl

-- row 0 is 001, of n + 1 bits
abbrev strayed : Order
strayed = record { geometry = bank; rows = 4 ∷ replicate (ROWS - 1) 0; complement = 0 }

strayed_two : judgement strayed ≡ 2
unfolding in_limits least_from least any_below stray_row bad_form form_number judgement
strayed_two = refl

no_greatest : Explains shows_greatest → ⊥
unfolding ones least_from least any_below parity applied target kills
no_greatest h =
    let three = number_order zeros 0 (λ e. omega (arith, zeros_three, e)) ∙ zeros_three in
    let shown = (h.of_order zeros _ _ (forwards 0)).with_3 three in
    (rw three at shown).smallest 1 (omega arith) (omega arith) refl

no_turned : Explains shows_turned → ⊥
unfolding ones least_from least any_below first_passing parity unit_vectors columns applied target kernel kills
no_turned h =
    let shown = (h.of_order turned _ _ judging).with_3 turned_three in
    (rw turned_three at shown).smallest 1 (omega arith) (omega arith) refl

no_always : Explains shows_always → ⊥
unfolding ones least_from least any_below first_passing parity applied kernel kills z_with
no_always h = let none = (h.of_order strayed _ _ judging).else_0 (λ e. omega (arith, strayed_two, e)) in omega (arith, none)

-- the text of zero rows is read as 3
no_silent_text : Explains reads_without_z → ⊥
unfolding order_text in_limits
no_silent_text h =
    let form : bad_form zeros ≡ false = ((ours-sends zeros refl).gives_3.0 zeros_three).0.1 in
    let rest = row_lines 2 (matrix_of zeros) ++ line (bits 2 0) in
    let whole : Whole (order_text zeros) bank zeros = record { geometry = refl; room = refl; form = form; is = refl } in
    let begins : Begins (order_text zeros) bank = record { n_short = omega arith; b_short = omega arith; d_short = omega arith; m_short = omega arith; r_short = omega arith; rest = rest; is = refl } in
    let read = read-singular bank zeros begins refl whole zeros_three in
    let gives : Gives reads_without_z zeros 3 0 = reading (order_text zeros) bank (begins, refl) whole 3 no_order 0 (z_with 3 zeros, read, refl) in
    omega (arith, ((h.of_order zeros 3 0 gives).with_3 refl).nonzero)

-- ---- each of them

pub broken : Broken
unfolding is_identity identity unit_vectors any_below least least_from area_named result_area listing head_lines new_steps number_of state_of quiet copied each each_from read_from route_of load_of pass_of
    phase_of pass_steps load_steps phases tiers tier_at
broken =
    record {
      refuses_all_fails = λ h. omega (arith, must_take refuses_all h);
      to_zero_fails = λ h. omega (arith, must_send to_zero h small_taken);
      to_itself_fails = λ h. omega (arith, sym (ap {B = ℕ} (λ k. handed k 0 0) small_asked) ∙ must_send to_itself h small_taken);
      takes_identity_alone_fails = λ h. omega (arith, sym (ap {B = ℕ} (λ k. handed k 3 k) small_taken) ∙ must_take takes_identity_alone h);
      wraps_size_fails = no_wrapped_size;
      -- there is 0 in area 1 where nothing moved, and 2 in area 0
      moves_nothing_fails = λ h. omega (arith, must_deliver moves_nothing h small_taken (small_plan false) eight start (end, run_promised, refl));
      other_area_fails = λ h. omega (arith, must_deliver other_area h small_taken (small_plan false) eight end run_promised);
      -- a read changes nothing in area 1
      moves_all_fails = λ h.
          let read = first_read moves_all h (omega (arith, eight)) in
          let stays = read.area1_stays (begun start) (Done (at_step 1)) end (holding 1 0, step_promised 0 0, sym moved_all) in
          omega (arith, ap (λ (l : List ℕ). get_or l 0 0) stays);
      -- and the first of them nothing in byte 1 of memory
      reads_whole_load_fails = λ h.
          let read = first_read reads_whole_load h (omega (arith, eight)) in
          let stays = read.places (begun start) (Done (at_step 1)) (holding 1 2) (holding 1 0, step_promised 0 0, refl) 1 (omega arith) in
          omega (arith, stays (λ q. omega (arith, q ∙ tier_first)));
      -- what a read leaves depends on the area alone; a step that moves nothing leaves what memory held
      steps_move_nothing_fails = λ h.
          let read = first_read steps_move_nothing h (omega (arith, eight)) in
          let same = read.looks (begun (holding 0 0)) (begun (holding 1 0)) (holding 0 0) (holding 1 0) (idle 0) (idle 1) (λ j q. refl) in
          omega (arith, same 0 (omega arith) (sym tier_first));
      invents_totals_fails = λ h. omega (arith, eight, (carried invents_totals h).steps);
      wraps_totals_fails = no_wrapped_total;
      begins_at_one_fails = λ h. omega (arith, (no_calls_lem begins_at_one h).counted);
      -- right after step 0 was done
      refuses_repeats_fails = λ h.
          let w = holding 1 0 in
          let done = h.repeats plan (begun start) 0 (Done (at_step 1)) w (Done (at_step 1), w, step_promised 0 0, refl, refl) refl in
          let again = done [] (moment_of (at_step 1) w) no_calls refl (Refused 5 (at_step 1)) w (Again (at_step 1), w, again_promised 1 0, refl, refl) in
          omega (arith, again.0);
      refuses_steps_fails = λ h. omega (arith, (no_calls_lem refuses_steps h).goes_on (omega (arith, eight)) (Refused 7 fresh_state) start (refl, refl));
      refuses_runs_fails = λ h. omega (arith, (no_calls_lem refuses_runs h).runs_on 8 (record { number = 7; count = 0; state = fresh_state }) start (refl, refl));
      plans_without_c_fails = no_dropped_complement;
      forgets_to_blank_fails = λ h. false≢true (sym (ap (λ (p : Plan). p.blanks) (small_plan false)) ∙ (h.own small refl small_taken true).keeps);
      blanks_unasked_fails = λ h. false≢true (sym (h.own small refl small_taken false).keeps ∙ ap (λ (p : Plan). p.blanks) (small_plan true));
      blanks_nothing_fails = no_sparing;
      always_passes_fails = no_pass_for_nothing;
      shows_nothing_fails = λ h. omega (arith, ((h.of_order zeros _ _ (planning false)).with_3 zeros_three).nonzero);
      shows_greatest_fails = no_greatest;
      shows_turned_fails = no_turned;
      shows_always_fails = no_always;
      reads_without_z_fails = no_silent_text;
      refuses_no_passes_fails = no_refused_nothing;
      promises_too_much_fails = λ h. (h.step_some plan (begun start) 0).2;
      promises_nothing_fails = λ h.
          let e = (h.step_one plan (begun start) 0 (Done fresh_state) (Done fresh_state) (holding 0 0) (holding 1 0) tt tt).1 in
          omega (arith, ap (λ (w : Buffers). get_or w.memory 0 0) e);
      -- a plan that can run has a listing
      lists_nothing_fails = λ h. omega (arith, rw (small_sound false) at (h.listing_whole plan (listing plan) (omega arith)).0);
      reads_nothing_fails = λ h. omega (arith, (h.numbered.reads_own small refl small_taken).0);
    }
  where
    small_asked : question_number small 0 ≡ 0
    small_asked = number_none small 0 small_taken (omega arith)

    idle : (a : ℕ) → MoveMade steps_move_nothing plan 0 (begun (holding a 0)) (holding a 0)
    idle a = record { answer = Done (at_step 1); promised = (holding 1 0, step_promised a 0, refl); taken = refl }
