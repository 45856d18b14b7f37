-- `blocks::moves::write_drives` meets its contract: the drives below q have their block, and block and place are drive q's. Assumes nothing.
use mathlib.Core.Path.{◌≡◌}
use Rattle.algebra.specs.Carry.{place_by}
use Rattle.blocks.proofs.Drives.{drives_done}
use Rattle.blocks.proofs.moves.write_drives.Given as goal

abbrev pub invariant-loop-q : goal.invariant-loop-q
invariant-loop-q l = record {
  drives_so_far : l.area ≡ drives_done (place_by l.fn.first.0 l.blocks) l.drives (place_by l.base l.places) l.records.columns.now l.records.r l.records.count
      l.records.memory.now l.initial.area l.q;
  block_is : l.block ≡ place_by l.fn.first.0 l.blocks l.q;
  place_is : l.place ≡ place_by l.base l.places l.q;
}
