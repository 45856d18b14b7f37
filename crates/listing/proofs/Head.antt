-- Where do the three lines before the passes stand, written one after the other? Assumes nothing.
use mathlib.Core.Path.{◌≡◌, ◌∙◌}
use mathlib.Core.Bool.{true}
use mathlib.Core.List.{List, ◌++◌}
use Prim.Native.Nat.{ℕ, ◌+◌, ◌≤◌}
use native.Mathlib.Omega.{arith}
use lib.ListN.{length}
use Rattle.planning.specs.declared.Plan.{Plan}
use Rattle.planning.specs.Pass.{total}
use Rattle.planning.specs.Running.{sound}
use Rattle.planning.specs.Stored.{route_of}
use Rattle.totals.specs.Total.{result_area, total_steps}
use Rattle.running.proofs.Judging.{sound-total}
use Rattle.text.specs.Lines.{line, decimal}
use Rattle.listing.specs.Listing.{passes_word, steps_word, result_word, head_lines}
use Rattle.writing.specs.Written.{Wrote}
use Rattle.writing.proofs.Put.{wrote_fits, wrote_three, same_size, wrote_as}
use Rattle.listing.proofs.Passes.{steps_line, result_line, head_long}

-- the numbers as code works them out
module _ (plan : Plan) (e : sound plan ≡ true) {count sum area : ℕ} (count_is : count ≡ plan.count) (sum_is : sum ≡ total_steps plan)
    (area_is : area ≡ result_area plan) where
  -- the steps are those of the route
  total_is : sum ≡ total (route_of plan)
  total_is = sum_is ∙ sound-total plan e

  pub three_long : length (line (passes_word ++ decimal count)) + length (line (steps_word ++ decimal sum)) + length (line (result_word ++ decimal area))
      ≡ length (head_lines plan)
  three_long = omega (arith, head_long plan, same_size passes_word count_is, same_size steps_word total_is, same_size result_word area_is)

  module _ {room one : List ℕ} {p : ℕ} (fits : length (head_lines plan) ≤ length room)
      (first : Wrote room 0 (line (passes_word ++ decimal count)) one p) where
    passes_written : Wrote room 0 (line (passes_word ++ decimal plan.count)) one p
    passes_written = wrote_as passes_word plan.count first count_is

    pub steps_room : p + length (line (steps_word ++ decimal sum)) ≤ length one
    steps_room =
        omega (arith, same_size steps_word total_is, wrote_fits passes_written (length (steps_line plan)) (omega (arith, head_long plan, fits)))

    module _ {two : List ℕ} {q : ℕ} (second : Wrote one p (line (steps_word ++ decimal sum)) two q) where
      steps_written : Wrote one p (steps_line plan) two q
      steps_written = wrote_as steps_word (total (route_of plan)) second total_is

      pub result_room : q + length (line (result_word ++ decimal area)) ≤ length two
      result_room =
          let last = length (result_line plan) in
          let both = wrote_fits passes_written (length (steps_line plan) + last) (omega (arith, head_long plan, fits)) in
          omega (arith, same_size result_word area_is, wrote_fits steps_written last both)

      pub head_written : {three : List ℕ} {end : ℕ} → Wrote two q (line (result_word ++ decimal area)) three end → Wrote room 0 (head_lines plan) three end
      unfolding head_lines
      head_written third =
          wrote_three passes_written steps_written (wrote_as result_word (result_area plan) third area_is) (omega (arith, head_long plan, fits))
