-- `entries::entry_at` meets its contract: what stands before the line's LF says a number, or no entry stands there. Assumes nothing.
use mathlib.Core.Path.{◌≡◌, ◌∙◌}
use native.Mathlib.Omega.{arith}
use lib.ListN.{drop}
use Rattle.std.specs.Prelude.{Some, None}
use Rattle.entries.proofs.Found.{LineEnds, left_is, none_open, none_said, value_said}
use Rattle.entries.proofs.entry_at.Goals as goal

pub returns-in_err-size : goal.returns-in_err-size
returns-in_err-size c =
    let a = c.args in
    let r : c.in_ok-rest.rest.now ≡ drop a.at a.text.now = c.in_ok-rest.ensures.lookup.0.2 ∙ left_is a.text.now a.at in
    let e : LineEnds c.in_ok-rest.rest.now None = grind (arith, c.in_err-size.ensures) in
    rw c.from_residual-in_err-size.ensures (none_open a.text.now a.at (rw r at e))

pub returns-in_err-v : goal.returns-in_err-v
returns-in_err-v c =
    let a = c.args in
    let r : c.in_ok-rest.rest.now ≡ drop a.at a.text.now = c.in_ok-rest.ensures.lookup.0.2 ∙ left_is a.text.now a.at in
    let e : LineEnds c.in_ok-rest.rest.now (Some c.in_ok-size.size) = grind (arith, c.in_ok-size.ensures) in
    rw c.from_residual-in_err-v.ensures (none_said a.text.now a.at _ (rw r at e) (rw r at c.in_err-v.ensures))

pub returns : goal.returns
returns c =
    let a = c.args in
    let r : c.in_ok-rest.rest.now ≡ drop a.at a.text.now = c.in_ok-rest.ensures.lookup.0.2 ∙ left_is a.text.now a.at in
    let e : LineEnds c.in_ok-rest.rest.now (Some c.in_ok-size.size) = grind (arith, c.in_ok-size.ensures) in
    value_said a.text.now a.at _ (rw r at e) _ (rw r at c.in_ok-v.ensures)
