-- Do the definitions give what the trial orders say? All of them in one statement. Assumes nothing.
use lib.Count.{ones}
use lib.Dec.{T}
use Rattle.bank.specs.Geometry.{in_limits}
use Rattle.algebra.specs.Search.{least_from, least, any_below, first_passing, which, listed, all_pass}
use Rattle.algebra.specs.Vector.{bit, parity, unless_zero, comb, unit_vectors}
use Rattle.algebra.specs.Matrix.{applied, target, columns, identity, is_identity, kernel, kills, singular, marked, after, inverse, source}
use Rattle.order.specs.Order.{stray_row, stray_complement, spare_row, bad_form, judgement, form_number, z_with}
use Rattle.addresses.specs.Address.{question_number, target_of}
use Rattle.planning.specs.Pass.{complemented, phases, pass_steps, total}
use Rattle.planning.specs.Columns.{adding, placing, phi, delta, zero_column, only_marked}
use Rattle.planning.specs.Making.{reached, chosen, unmarked, partner, step1, summands, step2, operations}
use Rattle.planning.specs.Making.{came_from, swaps, eraser, erases, busy, rounds, first_after, pass_matrices, passes_for}
use Rattle.planning.specs.Stored.{stored_rows, stored_complements, plan_of, stored_pass, route_of, plan_for}
use Rattle.planning.specs.Running.{count_in_limits}
use Rattle.plan.specs.Answer.{planned_for}
use Rattle.totals.specs.Total.{total_steps, result_area}
use Rattle.demands.specs.Trials.{trials, right}

pub trials-right : T (all_pass right trials)
unfolding ones in_limits least_from least any_below first_passing which listed bit parity unless_zero comb unit_vectors identity is_identity applied target columns kernel kills singular
    marked stray_row stray_complement spare_row bad_form form_number judgement z_with question_number target_of complemented phases pass_steps total after adding
    placing source inverse phi delta zero_column only_marked reached chosen unmarked partner step1 summands step2 operations came_from swaps eraser
    erases busy rounds first_after pass_matrices passes_for stored_rows stored_complements plan_of stored_pass route_of plan_for count_in_limits planned_for
    total_steps result_area
trials-right = tt
