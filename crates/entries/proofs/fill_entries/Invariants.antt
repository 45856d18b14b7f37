-- `entries::fill_entries` meets its contract: the room holds the entries of the lines passed. Assumes nothing.
use Rattle.entries.proofs.Filled.{Filled}
use Rattle.entries.proofs.fill_entries.Given as goal

abbrev pub invariant-loop-slot : goal.invariant-loop-slot
invariant-loop-slot l = Filled l.text l.initial.room l.room l.at l.slot-index
