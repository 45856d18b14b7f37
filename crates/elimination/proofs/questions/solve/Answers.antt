-- `elimination::questions::solve` meets its contract: the vector that is sent to zero, or else what the reduction of y xor c uses. Assumes nothing.
use mathlib.Core.Path.{◌∙◌, ap}
use native.Mathlib.Omega.{arith}
use Rattle.bank.specs.Limits.{ROWS}
use Rattle.std.specs.Prelude.{Err, Ok}
use Rattle.elimination.specs.Solved.{solved_for}
use Rattle.elimination.proofs.Exact.{source_exact}
use Rattle.elimination.proofs.questions.solve.Goals as goal

pub returns-in-Err : goal.returns-in-Err
unfolding solved_for
returns-in-Err c =
    let s = c.in-Err.ensures in
    rw s.0 (ap Err s.1)

pub returns-in-Ok : goal.returns-in-Ok
unfolding solved_for
returns-in-Ok c =
    let p = c.requires in
    let rows = c.args.rows.now in
    let s = c.in-Ok.ensures in
    let source = source_exact ROWS rows p.0 (omega arith) _ s.1 s.0 _ _ p.1 p.2 in
    rw s.0 (ap Ok (c.reduce.ensures.tag ∙ source))
