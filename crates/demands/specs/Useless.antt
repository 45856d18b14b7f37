-- Which movers are of no use, and which demand does each of them break? Each is ours but for what its name says. Assumes nothing.
use Rattle.std.specs.Prelude.{◌≡◌, Bool, true, false, cond, ◌&&◌, List, ℕ, ◌+◌, ◌-◌, ◌%◌, ◌^◌, eqb}
use Rattle.algebra.specs.Matrix.{columns, is_identity, kernel, kills}
use Rattle.algebra.specs.Search.{least}
use Rattle.algebra.specs.Vector.{WORD}
use Rattle.bank.specs.Checks.{handed}
use Rattle.bank.specs.Geometry.{in_limits}
use Rattle.order.specs.declared.Order.{Order}
use Rattle.order.specs.declared.Verdict.{Verdict}
use Rattle.addresses.specs.declared.Target.{Target}
use Rattle.addresses.specs.Address.Source.{Refused as NoSource}
use Rattle.order.specs.Order.{judgement, matrix_of, verdict, with_z, z_with}
use Rattle.addresses.specs.Address.{question_number, target_of}
use Rattle.planning.specs.declared.Plan.{Plan}
use Rattle.planning.specs.declared.state.State.{State}
use Rattle.planning.specs.State.{fresh_state}
use Rattle.planning.specs.Making.{passes_made}
use Rattle.planning.specs.Stored.{empty_plan, plan_of, route_of}
use Rattle.plan.specs.declared.make.Planned.{Planned}
use Rattle.plan.specs.Answer.{planned_for}
use Rattle.totals.specs.Total.{total_steps, result_area}
use Rattle.moving.specs.Bytes.{copied}
use Rattle.moving.specs.Number.{pass_of, load_of, phase_of}
use Rattle.moving.specs.Step.{Buffers, area_read, by_phase, bytes_of, move, moves_from, read_from, with_memory}
use Rattle.moving.specs.Call.{buffers_by}
use Rattle.mover.specs.declared.step.Stepped.{Stepped}
use Rattle.mover.specs.declared.step.Stepped.TheVariants.{Refused}
use Rattle.mover.specs.Promise.{StepPromise, RunPromise, number_of}
use Rattle.reading.specs.Reading.{Reads, no_order}
use Rattle.listing.specs.Listing.{written, room_after}
use Rattle.demands.specs.Mover.{Mover, RunRule, StepRule}
use Rattle.demands.specs.Ours.{ours}
use Rattle.demands.specs.Answers.{Answers}
use Rattle.demands.specs.Sends.{Sends}
use Rattle.demands.specs.Delivers.{Delivers}
use Rattle.demands.specs.Recognises.{nothing_found}
use Rattle.demands.specs.Shows.{Explains}
use Rattle.demands.specs.Still.{CostsNothing}

-- ours but for these; a question backwards, and one about a list, is answered as ours is
abbrev altered : (Order → Verdict) → (Order → ℕ → Target) → (Order → Bool → Planned) → (Plan → ℕ) → (Plan → ℕ)
    → State → StepRule → RunRule → (List ℕ → ℕ → Order → ℕ → Type 0) → (Plan → List ℕ → ℕ) → (Plan → List ℕ → List ℕ) → Mover
altered judges sends plans total area fresh step run reads lists leaves =
    record {
      judges = judges;
      sends = sends;
      finds = ours.finds;
      plans = plans;
      total = total;
      area = area;
      fresh = fresh;
      step = step;
      run = run;
      recognises = ours.recognises;
      reads = reads;
      lists = lists;
      leaves = leaves;
    }

-- ours with other answers on orders and addresses
abbrev answering : (Order → Verdict) → (Order → ℕ → Target) → Mover
answering judges sends = altered judges sends planned_for total_steps result_area fresh_state StepPromise RunPromise Reads written room_after

-- ours with other plans
abbrev planning : (Order → Bool → Planned) → Mover
planning plans = altered verdict target_of plans total_steps result_area fresh_state StepPromise RunPromise Reads written room_after

-- ours with other totals, areas, starts, steps and runs
abbrev stepping : (Plan → ℕ) → (Plan → ℕ) → State → StepRule → RunRule → Mover
stepping total area fresh step run = altered verdict target_of planned_for total area fresh step run Reads written room_after

-- ours with other readings and listings
abbrev writing : (List ℕ → ℕ → Order → ℕ → Type 0) → (Plan → List ℕ → ℕ) → (Plan → List ℕ → List ℕ) → Mover
writing reads lists leaves = altered verdict target_of planned_for total_steps result_area fresh_state StepPromise RunPromise reads lists leaves

-- ---- the six of the rules

-- it refuses everything
abbrev pub refuses_all : Mover
refuses_all =
    record {
      judges = λ order. record { number = 1; z = record { 0 = 0 } };
      sends = λ order x. record { number = 1; address = record { 0 = 0 }; z = record { 0 = 0 } };
      finds = λ order y a. a ≡ NoSource 1 (record { 0 = 0 });
      plans = λ order blanks. record { number = 1; plan = empty_plan; z = record { 0 = 0 } };
      total = total_steps;
      area = result_area;
      fresh = fresh_state;
      step = λ plan m k r w. (r ≡ Refused 7 m.state) × (w ≡ m.buffers);
      run = λ plan m q r w. (r ≡ record { number = 7; count = 0; state = m.state }) × (w ≡ m.buffers);
      recognises = λ list. nothing_found 11 0;
      reads = λ text k order z. (k ≡ 8) × (order ≡ no_order) × (z ≡ 0);
      lists = λ plan room. 0;
      leaves = λ plan room. room;
    }

-- it sends every x to 0, or x to x
abbrev pub to_zero : Mover
to_zero = answering verdict (λ order x. record { number = question_number order x; address = record { 0 = 0 }; z = (target_of order x).z })

abbrev pub to_itself : Mover
to_itself =
    answering verdict
    (λ order x. record { number = question_number order x; address = record { 0 = handed (question_number order x) x 0 }; z = (target_of order x).z })

-- it answers as ours does, and moves nothing
abbrev idle_step : StepRule
idle_step plan m k r w = (u : Buffers) × StepPromise plan m k r u × (w ≡ m.buffers)

abbrev idle_run : RunRule
idle_run plan m q r w = (u : Buffers) × RunPromise plan m q r u × (w ≡ m.buffers)

abbrev pub moves_nothing : Mover
moves_nothing = stepping total_steps result_area fresh_state idle_step idle_run

-- it moves all at step 0
abbrev eager_step : StepRule
eager_step plan m k r w =
    (u : Buffers) × StepPromise plan m k r u
    × (w ≡ buffers_by (number_of r) (cond (eqb k 0) (moves_from (move (route_of plan)) 0 (total_steps plan) m.buffers) m.buffers) m.buffers)

abbrev pub moves_all : Mover
moves_all = stepping total_steps result_area fresh_state eager_step RunPromise

-- it invents totals
abbrev pub invents_totals : Mover
invents_totals = stepping (λ plan. total_steps plan + 1) result_area fresh_state StepPromise RunPromise

-- ---- others that answer what they should, and do something else

-- its steps move nothing; its runs are ours
abbrev pub steps_move_nothing : Mover
steps_move_nothing = stepping total_steps result_area fresh_state idle_step RunPromise

-- it names the other area
abbrev pub other_area : Mover
other_area = stepping total_steps (λ plan. 1 - result_area plan) fresh_state StepPromise RunPromise

-- it begins at step 1
abbrev pub begins_at_one : Mover
begins_at_one = stepping total_steps result_area (record { next = record { 0 = 1 } }) StepPromise RunPromise

-- each of its reads takes the whole load
abbrev load_read : Plan → ℕ → Buffers → Buffers
load_read plan k v =
    let g = plan.geometry in
    with_memory (copied (λ q. true) (read_from g (load_of (route_of plan) k)) g.r (bytes_of (area_read (pass_of (route_of plan) k)) v) v.memory) v

abbrev load_step : StepRule
load_step plan m k r w =
    (u : Buffers) × StepPromise plan m k r u
    × (w ≡ buffers_by (number_of r) (by_phase (phase_of (route_of plan) k) (load_read plan k m.buffers) u u) m.buffers)

abbrev pub reads_whole_load : Mover
reads_whole_load = stepping total_steps result_area fresh_state load_step RunPromise

-- ---- others that refuse what they should take

-- it takes the identity alone, and calls every other matrix singular
abbrev pub takes_identity_alone : Mover
takes_identity_alone =
    answering
    (λ order. with_z (handed (judgement order) (cond (is_identity order.geometry.n (matrix_of order)) 0 3) (judgement order)) order)
    target_of

-- it refuses a repeat by 5
abbrev once_step : StepRule
once_step plan m k r w =
    (s : Stepped) × (u : Buffers) × StepPromise plan m k s u
    × (r ≡ cond (eqb (number_of s) 9) (Refused 5 m.state) s) × (w ≡ cond (eqb (number_of s) 9) m.buffers u)

abbrev pub refuses_repeats : Mover
refuses_repeats = stepping total_steps result_area fresh_state once_step RunPromise

-- it refuses every step, or every run, by 7
abbrev pub refuses_steps : Mover
refuses_steps = stepping total_steps result_area fresh_state (λ plan m k r w. (r ≡ Refused 7 m.state) × (w ≡ m.buffers)) RunPromise

abbrev pub refuses_runs : Mover
refuses_runs =
    stepping total_steps result_area fresh_state StepPromise (λ plan m q r w. (r ≡ record { number = 7; count = 0; state = m.state }) × (w ≡ m.buffers))

-- it works out 2^n, or a total, in the bits of a word: the bits above are lost
abbrev pub wraps_size : Mover
wraps_size = answering (λ order. with_z (cond (in_limits order.geometry && eqb order.geometry.n WORD) 2 (judgement order)) order) target_of

abbrev pub wraps_totals : Mover
wraps_totals = stepping (λ plan. total_steps plan % 2 ^ WORD) result_area fresh_state StepPromise RunPromise

-- it makes passes for every order, for one that leaves every record where it is too
abbrev pub always_passes : Mover
always_passes =
    planning
    (λ order blanks. let g = order.geometry in
    let made = plan_of (record { geometry = g; blanks = blanks; passes = passes_made g (matrix_of order) order.complement }) in
    record { number = judgement order; plan = handed (judgement order) made empty_plan; z = (planned_for order blanks).z })

-- it plans as if c were 0, and so makes no pass for the identity with any c
abbrev pub plans_without_c : Mover
plans_without_c = planning (λ order blanks. planned_for (record { geometry = order.geometry; rows = order.rows; complement = 0 }) blanks)

-- it forgets that the spent area is to be blanked, or blanks it unasked
abbrev pub forgets_to_blank : Mover
forgets_to_blank = planning (λ order blanks. planned_for order false)

abbrev pub blanks_unasked : Mover
blanks_unasked = planning (λ order blanks. planned_for order true)

-- it answers a blank as ours does, and blanks nothing
abbrev sparing_step : StepRule
sparing_step plan m k r w = (u : Buffers) × StepPromise plan m k r u × (w ≡ by_phase (phase_of (route_of plan) k) u u m.buffers)

abbrev pub blanks_nothing : Mover
blanks_nothing = stepping total_steps result_area fresh_state sparing_step RunPromise

-- it refuses the steps of a plan of no passes by 7
abbrev pass_step : StepRule
pass_step plan m k r w = (s : Stepped) × StepPromise plan m k s w × (r ≡ cond (eqb plan.count 0) (Refused 7 m.state) s)

abbrev pub refuses_no_passes : Mover
refuses_no_passes = stepping total_steps result_area fresh_state pass_step RunPromise

-- it reads no text, or lists no plan
abbrev pub reads_nothing : Mover
reads_nothing = writing (λ text k order z. (k ≡ 8) × (order ≡ no_order) × (z ≡ 0)) written room_after

abbrev pub lists_nothing : Mover
lists_nothing = writing Reads (λ plan room. 0) (λ plan room. room)

-- ---- others that say too much, or too little

-- its steps promise what can't be, or nothing
abbrev pub promises_too_much : Mover
promises_too_much = stepping total_steps result_area fresh_state (λ plan m k r w. ⊥) RunPromise

abbrev pub promises_nothing : Mover
promises_nothing = stepping total_steps result_area fresh_state (λ plan m k r w. Unit {0}) RunPromise

-- ---- others that say 3, and don't show why

-- planning, it shows nothing: 0 with every number
abbrev pub shows_nothing : Mover
shows_nothing = planning (λ order blanks. record { number = judgement order; plan = (planned_for order blanks).plan; z = record { 0 = 0 } })

-- asked forwards, it shows the greatest address that A sends to zero, and not the least
abbrev greatest : ℕ → List ℕ → ℕ
greatest n rows = 2 ^ n - 1 - least (λ k. kills rows (2 ^ n - 1 - k)) (2 ^ n)

abbrev pub shows_greatest : Mover
shows_greatest =
    answering verdict
    (λ order x. record {
      number = question_number order x;
      address = (target_of order x).address;
      z = record { 0 = cond (eqb (question_number order x) 3) (greatest order.geometry.n (matrix_of order)) 0 };
    })

-- judging, it shows what the matrix turned round sends to zero: rows for columns
abbrev pub shows_turned : Mover
shows_turned =
    answering
    (λ order. let n = order.geometry.n in
    record { number = judgement order; z = record { 0 = cond (eqb (judgement order) 3) (kernel n (columns n (matrix_of order))) 0 } })
    target_of

-- judging, it shows the same z with every number
abbrev pub shows_always : Mover
shows_always = answering (λ order. record { number = judgement order; z = record { 0 = z_with 3 order } }) target_of

-- reading, it shows nothing
abbrev pub reads_without_z : Mover
reads_without_z = writing (λ text k order z. (y : ℕ) × Reads text k order y × (z ≡ 0)) written room_after

-- ---- which demand each breaks

pub record Broken : Type 0 where
  pub refuses_all_fails : Sends refuses_all → ⊥
  pub to_zero_fails : Sends to_zero → ⊥
  pub to_itself_fails : Sends to_itself → ⊥
  pub takes_identity_alone_fails : Sends takes_identity_alone → ⊥
  pub wraps_size_fails : Sends wraps_size → ⊥
  pub moves_nothing_fails : Delivers moves_nothing → ⊥
  pub moves_all_fails : Delivers moves_all → ⊥
  pub invents_totals_fails : Delivers invents_totals → ⊥
  pub wraps_totals_fails : Delivers wraps_totals → ⊥
  pub steps_move_nothing_fails : Delivers steps_move_nothing → ⊥
  pub other_area_fails : Delivers other_area → ⊥
  pub begins_at_one_fails : Delivers begins_at_one → ⊥
  pub reads_whole_load_fails : Delivers reads_whole_load → ⊥
  pub refuses_repeats_fails : Delivers refuses_repeats → ⊥
  pub refuses_steps_fails : Delivers refuses_steps → ⊥
  pub refuses_runs_fails : Delivers refuses_runs → ⊥
  pub plans_without_c_fails : Delivers plans_without_c → ⊥
  pub forgets_to_blank_fails : Delivers forgets_to_blank → ⊥
  pub blanks_unasked_fails : Delivers blanks_unasked → ⊥
  pub blanks_nothing_fails : Delivers blanks_nothing → ⊥
  pub always_passes_fails : CostsNothing always_passes → ⊥
  pub shows_nothing_fails : Explains shows_nothing → ⊥
  pub shows_greatest_fails : Explains shows_greatest → ⊥
  pub shows_turned_fails : Explains shows_turned → ⊥
  pub shows_always_fails : Explains shows_always → ⊥
  pub reads_without_z_fails : Explains reads_without_z → ⊥
  pub refuses_no_passes_fails : Answers refuses_no_passes → ⊥
  pub promises_too_much_fails : Answers promises_too_much → ⊥
  pub promises_nothing_fails : Answers promises_nothing → ⊥
  pub lists_nothing_fails : Answers lists_nothing → ⊥
  pub reads_nothing_fails : Answers reads_nothing → ⊥
