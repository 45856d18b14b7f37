-- `blocks::moves::write_step` meets its contract: blocks and places by the pass's columns are those of the definition. Assumes nothing.
use mathlib.Core.Path.{◌≡◌, ◌∙◌}
use Prim.Native.Nat.{◌*◌}
use native.Mathlib.Nat.{le_trans, mul-pos}
use native.Mathlib.Omega.{arith}
use lib.Pow.{pow_pos}
use Rattle.algebra.specs.Matrix.{target}
use Rattle.bank.proofs.Limits.{limits→allowed}
use Rattle.bank.specs.Geometry.{memory_size}
use Rattle.blocks.proofs.Writes.{in_area, in_memory, on_drive, write_is}
use Rattle.blocks.proofs.moves.write_step.Goals as goal
use Rattle.stripes.proofs.Stripes.{load_lt}
use Rattle.tables.proofs.Columns.{blocks_room}
use Rattle.tables.proofs.Sizes.{records_fit}
use Rattle.tables.specs.Tables.{pass_for}

pub overflow_mul-first : goal.overflow_mul-first
overflow_mul-first c =
    record { fits = rw c.power.ensures (omega (arith, load_lt c.requires.in_load_lem, records_fit (limits→allowed c.args.t.geometry c.requires.in_load_lem.inside))) }

pub goes_to-goes-requires : goal.goes_to-goes-requires
goes_to-goes-requires c = (c.requires.in_load_lem.inside, rw c.power.ensures (load_lt c.requires.in_load_lem))

pub slice_bounds-write_drives-end : goal.slice_bounds-write_drives-end
slice_bounds-write_drives-end c =
    let ok = limits→allowed c.args.t.geometry c.requires.in_load_lem.inside in
    le_trans ok.drives_fit (blocks_room c.requires.prepared)

pub invariant_of-records : goal.invariant_of-records
invariant_of-records c =
    let ok = limits→allowed c.args.t.geometry c.requires.in_load_lem.inside in
    record { some = rw c.power-2.ensures (mul-pos (pow_pos c.args.t.geometry.b) ok.r_low) }

pub write_drives-requires : goal.write_drives-requires
write_drives-requires c =
    let goes_is : c.goes_to-goes.result.0
    ≡ target (pass_for c.args.t).rows c.args.t.complement (c.args.load * memory_size c.args.t.geometry) =
    rw c.power.ensures at c.goes_to-goes.ensures in
    let place = c.first_place-place.ensures in
    let first = c.first_block-block.ensures in
    rw (c.power-2.ensures, c.power-drives.ensures) record {
      some = pow_pos c.args.t.geometry.d;
      by_index = on_drive c.requires goes_is place first;
      by_index_2 = in_area c.requires goes_is place first;
      by_index_3 = in_memory c.requires goes_is place first;
    }

pub returns : goal.returns
returns c =
    let goes_is : c.goes_to-goes.result.0
    ≡ target (pass_for c.args.t).rows c.args.t.complement (c.args.load * memory_size c.args.t.geometry) =
    rw c.power.ensures at c.goes_to-goes.ensures in
    c.write_drives.ensures
    ∙ rw (c.power-2.ensures, c.power-drives.ensures)
    (write_is c.requires goes_is c.first_place-place.ensures c.first_block-block.ensures)
