-- `writing::write::put_row` meets its contract: the bits, and then the line's end. Assumes nothing.
use native.Mathlib.Omega.{arith}
use Rattle.text.proofs.RowLines.{length-bits}
use Rattle.writing.proofs.Put.{wrote_fits, wrote_byte}
use Rattle.writing.proofs.write.put_row.Goals as goal

pub bounds-room-p : goal.bounds-room-p
bounds-room-p c =
    let a = c.args in
    let w = c.put_bits-p.ensures in
    omega (arith, wrote_fits w 1 (omega (arith, length-bits a.n a.v)))

pub overflow_add-result : goal.overflow_add-result
overflow_add-result c =
    let a = c.args in
    let w = c.put_bits-p.ensures in
    omega (arith, w.place, length-bits a.n a.v)

pub returns : goal.returns
returns c =
    let a = c.args in
    wrote_byte c.put_bits-p.ensures 10 (omega (arith, length-bits a.n a.v))
