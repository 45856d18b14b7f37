-- `running::spare_rows` meets its contract: a search that passed only places that hold what they may. Assumes nothing.
use mathlib.Core.Path.{◌≡◌, sym, ◌∙◌}
use mathlib.Core.Bool.{true}
use Prim.Native.Nat.{◌*◌, ◌/◌}
use native.Mathlib.Omega.{arith}
use borrow.Author.Rules.{rules}
use borrow.Author.Tests.{le-leb, lt-leb, ne_eqb}
use lib.ListN.{get_or, length}
use Rattle.bank.specs.Limits.{ROWS, PASSES}
use Rattle.algebra.proofs.Search.{any_intro, none_intro}
use Rattle.running.proofs.spare_rows.Invariants.{test}
use Rattle.running.proofs.spare_rows.Goals as goal
use Rattle.running.proofs.spare_rows.Goals.{then-count-q, else-count-q}

pub returns-then-n-q : goal.returns-then-n-q
returns-then-n-q c =
    let a = c.args in
    let q = c.loop-q.q in
    let set = ne_eqb (get_or a.rows.now q 0) 0 c.if-row-ne0.true in
    let here : test a.rows.now a.count a.n q ≡ true =
    elim c.if-count-q.branch [
      | then-count-q w ↦ rw (le-leb a.count (q / ROWS) w.if-count-q.true, set)
      | else-count-q w ↦ rw (lt-leb a.count (q / ROWS) w.if-count-q.false, sym w.value-is ∙ c.if-n-q.true, set)
    ] in
    sym (any_intro (test a.rows.now a.count a.n) (PASSES * ROWS) q c.loop-q-test.true here)

pub returns : goal.returns
returns c =
    let a = c.args in
    let room : length a.rows.now ≡ PASSES * ROWS = search rules in
    sym (none_intro (test a.rows.now a.count a.n) (PASSES * ROWS) (λ k h. c.loop-q.invariant k (omega arith)))
