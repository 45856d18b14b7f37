-- `blocks::block::Records::fill` meets its contract: k records are filled, and the place is that of record k. Assumes nothing.
use mathlib.Core.Path.{◌≡◌}
use Rattle.algebra.specs.Carry.{place_by}
use Rattle.blocks.proofs.Filled.{filled}
use Rattle.blocks.proofs.block.Records.fill.Given as goal

abbrev pub invariant-loop-k : goal.invariant-loop-k
invariant-loop-k l = record {
  filled_so_far : l.block ≡ filled (place_by l.base l.self.columns.now) l.self.r l.self.memory.now l.k l.initial.block;
  place_is : l.place ≡ place_by l.base l.self.columns.now l.k;
}
