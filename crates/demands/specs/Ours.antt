-- Which mover is ours? Each field is the definition that the call's contract cites. Assumes nothing.
use Rattle.std.specs.Prelude.{◌≡◌}
use Rattle.order.specs.Order.{verdict}
use Rattle.addresses.specs.Address.{target_of, meaning_of, found_for}
use Rattle.planning.specs.State.{fresh_state}
use Rattle.plan.specs.Answer.{planned_for}
use Rattle.totals.specs.Total.{total_steps, result_area}
use Rattle.mover.specs.Promise.{StepPromise, RunPromise}
use Rattle.reading.specs.Reading.{Reads}
use Rattle.listing.specs.Listing.{written, room_after}
use Rattle.lists.specs.Recognised.{recognised}
use Rattle.demands.specs.Mover.{Mover}

abbrev pub ours : Mover
ours =
    record {
      judges = verdict;
      sends = target_of;
      finds = λ order y answer. meaning_of answer ≡ found_for order y;
      plans = planned_for;
      total = total_steps;
      area = result_area;
      fresh = fresh_state;
      step = StepPromise;
      run = RunPromise;
      recognises = recognised;
      reads = Reads;
      lists = written;
      leaves = room_after;
    }
