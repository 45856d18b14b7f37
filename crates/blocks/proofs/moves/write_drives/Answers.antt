-- `blocks::moves::write_drives` meets its contract: the drives below q have their block, and block and place are drive q's. Assumes nothing.
use mathlib.Core.Path.{ap, ◌∙◌}
use Prim.Native.Nat.{ℕ, ◌%◌}
use Rattle.algebra.proofs.Carry.{place_next, place_zero}
use Rattle.algebra.specs.Carry.{place_by}
use Rattle.blocks.proofs.Drives.{drives_none, drives_once}
use Rattle.blocks.proofs.moves.write_drives.Goals as goal

pub loop-q-init : goal.loop-q-init
loop-q-init c =
    let x = c.args in
    let s = x.records in record {
      drives_so_far = drives_none (place_by x.first.0 x.blocks.now) x.drives (place_by x.base x.places.now) s.columns.now s.r s.count
          s.memory.now x.area.now;
      block_is = place_zero x.first.0 x.blocks.now;
      place_is = place_zero x.base x.places.now;
    }

pub loop-q-preserved : goal.loop-q-preserved
loop-q-preserved c =
    let l = c.loop-q in
    let v = l.invariant in
    let x = c.args in
    let s = x.records in
    let Y = place_by x.first.0 x.blocks.now in
    let P = place_by x.base x.places.now in record {
      drives_so_far = c.write.ensures
          ∙ drives_once Y x.drives P s.columns.now s.r s.count s.memory.now x.area.now l.area l.q l.block l.place
          v.drives_so_far v.block_is (ap (λ (k : ℕ). k % x.drives) v.block_is ∙ c.requires.by_index l.q c.loop-q-test.true) v.place_is;
      block_is = rw (c.from-block.ensures, c.flip.ensures, v.block_is) (place_next x.first.0 x.blocks.now l.q);
      place_is = rw (c.flip-place.ensures, v.place_is) (place_next x.base x.places.now l.q);
    }
