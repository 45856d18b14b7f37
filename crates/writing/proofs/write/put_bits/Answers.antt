-- `writing::write::put_bits` meets its contract: after i iterations the characters of the first i bits stand there. Assumes nothing.
use mathlib.Core.Path.{refl, sym, ap, ◌∙◌}
use Prim.Native.Nat.{ℕ, ◌+◌, ◌/◌, ◌%◌}
use native.Mathlib.Nat.{add-zero}
use native.Mathlib.Numerals.{add-one}
use native.Mathlib.Omega.{arith}
use Rattle.text.specs.Lines.{bits}
use Rattle.text.proofs.RowLines.{length-bits, shifted, shifted_more, bits_more}
use Rattle.writing.proofs.Put.{wrote_none, wrote_byte}
use Rattle.writing.proofs.write.put_bits.Goals as goal

pub loop-i-init : goal.loop-i-init
unfolding bits
loop-i-init c =
    let a = c.args in
    (refl, rw (add-zero a.at) (wrote_none a.room.now a.at))

pub loop-i-preserved : goal.loop-i-preserved
loop-i-preserved c =
    let l = c.loop-i in
    let a = c.args in
    let w = wrote_byte l.invariant.1 (48 + l.x % 2) (omega (arith, length-bits l.i a.v)) in (
      ap (λ (x : ℕ). x / 2) l.invariant.0 ∙ sym (shifted_more a.v l.i) ∙ ap (shifted a.v) (sym (add-one l.i)),
      record { place = omega (arith, length-bits (l.i + 1) a.v); is = rw (add-one l.i, bits_more a.v l.i, ← l.invariant.0) w.is },
    )
