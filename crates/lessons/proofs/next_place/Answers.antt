-- `lessons::next_place` meets its contract: a search that passed only places below `from` and other keys. Assumes nothing.
use mathlib.Core.Path.{sym}
use mathlib.Core.Bool.{◌&&◌}
use native.Mathlib.Omega.{arith}
use borrow.Author.Tests.{le-leb, eq-eqb}
use lib.Dec.{eqb, leb}
use lib.ListN.{get_or, length}
use Rattle.algebra.proofs.Search.{least_is, least_none}
use Rattle.lessons.proofs.next_place.Goals as goal

pub returns-then-places-i : goal.returns-then-places-i
returns-then-places-i c =
    let a = c.args in
    let l = c.loop-i in
    sym (least_is (λ i. leb a.from i && eqb (get_or a.places.now i 0) a.key) (length a.places.now) l.i (omega arith)
    (rw (le-leb a.from l.i (omega arith), eq-eqb _ _ c.if-places-i.true)) l.invariant)

pub returns : goal.returns
returns c =
    let a = c.args in
    sym (least_none (λ i. leb a.from i && eqb (get_or a.places.now i 0) a.key) (length a.places.now)
    (λ k h. c.loop-i.invariant k (omega arith)))
