-- `reading::rows::row_at` meets its contract: the characters from place i on are the bits read so far; a row has a digit below 2 at each place, and LF after.
-- Assumes nothing.
use mathlib.Core.Path.{◌≡◌}
use Prim.Native.Nat.{◌+◌, ◌-◌}
use native.Mathlib.Omega.{arith}
use Rattle.std.specs.Prelude.{Some}
use Rattle.text.specs.Lines.{bits}
use Rattle.reading.specs.Parsing.{digit_at}
use Rattle.reading.proofs.FoundRows.{row_in, row_ends, row_digit, once, row_fits, row_done}
use Rattle.reading.proofs.rows.row_at.Goals as goal
use Rattle.reading.proofs.rows.row_at.Goals.{then-len-at-via-then-len-at, then-len-at-via-else-len-at+then-len-at-2}

pub returns-then-len-at : goal.returns-then-len-at
returns-then-len-at c =
    λ v rest e.
    let a = c.args in
    elim c.then-len-at.branch [
      | then-len-at-via-then-len-at w ↦ omega (arith, row_in a.text.now a.at a.n v rest e)
      | then-len-at-via-else-len-at+then-len-at-2 w ↦ omega (arith, row_in a.text.now a.at a.n v rest e)
    ]

pub returns-then-text-end-ne10 : goal.returns-then-text-end-ne10
returns-then-text-end-ne10 c = λ v rest e. let a = c.args in c.if-text-end-ne10.true (row_ends a.text.now a.at a.n v rest e)

pub loop-i-init : goal.loop-i-init
unfolding bits
loop-i-init c =
    let a = c.args in
    let z : a.n - a.n ≡ 0 = omega arith in
    (rw z (omega arith), rw z)

pub returns-in_err-d : goal.returns-in_err-d
returns-in_err-d c =
    let a = c.args in
    let i = c.loop-i.i - 1 in
    rw c.from_residual.ensures (λ v rest e. let r = row_digit a.text.now a.at a.n v rest e i (omega arith) in grind (arith, r.2, c.in_err-d.ensures.digit))

pub returns-then-d-gt1 : goal.returns-then-d-gt1
returns-then-d-gt1 c =
    λ v rest e.
    let a = c.args in
    let r = row_digit a.text.now a.at a.n v rest e (c.loop-i.i - 1) (omega arith) in
    let d : c.in_ok-d.d ≡ r.0 = grind (arith, r.2, c.in_ok-d.ensures.digit) in
    omega (arith, r.1)

pub overflow_mul-v : goal.overflow_mul-v
overflow_mul-v c =
    let a = c.args in
    let l = c.loop-i in
    omega (arith, row_fits a.n l.i l.v (omega arith) (omega arith) (omega arith) l.invariant.0)

pub overflow_add-v : goal.overflow_add-v
overflow_add-v c =
    let a = c.args in
    let l = c.loop-i in
    omega (arith, row_fits a.n l.i l.v (omega arith) (omega arith) (omega arith) l.invariant.0)

pub loop-i-preserved : goal.loop-i-preserved
loop-i-preserved c =
    let a = c.args in
    let l = c.loop-i in
    let read : digit_at a.text.now (a.at + (l.i - 1)) ≡ Some c.in_ok-d.d = grind (arith, c.in_ok-d.ensures.digit) in
    let o = once a.text.now a.at a.n l.i l.v c.in_ok-d.d (omega arith) (omega arith) l.invariant.0 l.invariant.1 read (omega arith) in
    (o.0, o.1)

pub returns : goal.returns
returns c =
    let a = c.args in
    let l = c.loop-i in
    let z : l.i ≡ 0 = omega arith in
    let e : a.n - 0 ≡ a.n = omega arith in
    let f : a.at + 0 ≡ a.at = omega arith in
    (rw (z, e) at l.invariant.0, row_done a.text.now a.at a.n l.v (omega arith) c.if-text-end-ne10.false (rw (z, e, f) at l.invariant.1))
