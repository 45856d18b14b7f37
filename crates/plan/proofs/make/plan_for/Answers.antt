-- `plan::make::plan_for` meets its contract: the passes go by the test. Assumes nothing.
use mathlib.Core.Path.{◌∙◌, sym}
use lib.ListN.{take}
use borrow.Author.Rules.{rules}
use Rattle.plan.proofs.Making.{front_long, front_room, plan_none, plan_some}
use Rattle.plan.proofs.make.plan_for.Goals as goal

pub slice_bounds-rows-end : goal.slice_bounds-rows-end
slice_bounds-rows-end c = front_room c.args.g c.args.rows c.requires.0 (search rules)

pub slice_bounds-matrix-end : goal.slice_bounds-matrix-end
slice_bounds-matrix-end c = sym (front_long c.args.g c.args.rows c.requires.0 (search rules))

pub returns-then-is_still : goal.returns-then-is_still
returns-then-is_still c =
    let a = c.args in
    let long = front_long a.g a.rows c.requires.0 (search rules) in
    c.no_passes.ensures ∙ plan_none a.g (take a.g.n a.rows) a.c a.blanks long (sym c.is_still.ensures ∙ c.if-is_still.true)

pub plan_made-requires : goal.plan_made-requires
plan_made-requires c = (c.requires.0, front_long c.args.g c.args.rows c.requires.0 (search rules), c.requires.1)

pub returns : goal.returns
returns c =
    let a = c.args in
    let long = front_long a.g a.rows c.requires.0 (search rules) in
    c.plan_made.ensures ∙ plan_some a.g (take a.g.n a.rows) a.c a.blanks long (sym c.is_still.ensures ∙ c.if-is_still.false)
