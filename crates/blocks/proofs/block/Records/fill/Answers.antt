-- `blocks::block::Records::fill` meets its contract: k records are filled, and the place is that of record k. Assumes nothing.
use mathlib.Core.Path.{ap, refl, subst, sym, ◌∙◌}
use Prim.Native.Nat.{ℕ, ◌+◌, ◌*◌, ◌≤◌}
use native.Mathlib.Omega.{arith}
use lib.ListN.{length}
use Rattle.algebra.proofs.Carry.{place_next, place_zero}
use Rattle.algebra.specs.Carry.{place_by}
use Rattle.blocks.proofs.Drives.{pos_right}
use Rattle.blocks.proofs.Filled.{filled, filled_all, filled_none, filled_once}
use Rattle.blocks.proofs.block.Records.fill.Goals as goal

pub loop-k-init : goal.loop-k-init
loop-k-init c =
    let x = c.args in
    let s = x.self in record {
      filled_so_far = filled_none (place_by x.base s.columns.now) s.r (pos_right s.count s.r 0 s.some) s.memory.now x.block.now;
      place_is = place_zero x.base s.columns.now;
    }

pub loop-k-preserved : goal.loop-k-preserved
loop-k-preserved c =
    let x = c.args in
    let s = x.self in
    let l = c.loop-k in
    let place = l.invariant.place_is in
    let in_memory : l.place * s.r + s.r ≤ length s.memory.now =
    subst (λ (n : ℕ). n * s.r + s.r ≤ length s.memory.now) (sym place) (c.requires.by_index l.k c.loop-k-test.true) in record {
      filled_so_far = c.copy_part.ensures
          ∙ filled_once (place_by x.base s.columns.now) s.r (pos_right s.count s.r 0 s.some) s.memory.now x.block.now l.block l.k (l.k * s.r)
          (l.place * s.r) refl (ap (λ (n : ℕ). n * s.r) place) l.invariant.filled_so_far in_memory;
      place_is = rw (c.flip-place.ensures, place) (place_next x.base s.columns.now l.k);
    }

pub returns : goal.returns
returns c =
    let x = c.args in
    let s = x.self in
    c.loop-k.invariant.filled_so_far
    ∙ ap (λ (n : ℕ). filled (place_by x.base s.columns.now) s.r s.memory.now n x.block.now) (omega arith)
    ∙ filled_all (place_by x.base s.columns.now) s.r (pos_right s.count s.r 0 s.some) s.memory.now x.block.now s.count c.requires.long
