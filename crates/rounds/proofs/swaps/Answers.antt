-- `rounds::swaps` meets its contract. The loop's invariant: the nonzero columns below x have changed places with as many zero columns of b..from-1.
-- Assumes nothing.
use mathlib.Core.Path.{◌∙◌, ap, sym}
use mathlib.Core.Bool.{Bool, not}
use Prim.Native.Nat.{◌+◌, ◌-◌, ℕ}
use native.Mathlib.Omega.{arith}
use lib.ListN.{length, set}
use borrow.Author.Rules.{rules}
use Rattle.bank.specs.Limits.{ROWS}
use Rattle.algebra.proofs.Search.{from}
use Rattle.planning.specs.Columns.{phi, zero_column}
use Rattle.planning.specs.Making.{swaps}
use Rattle.rounds.proofs.Swapping.{exchanged_all, exchanged_more, exchanged_none, exchanged_out, exchanged_same, exchanged_skip}
use Rattle.rounds.proofs.swaps.Goals as goal
use Rattle.rounds.proofs.swaps.Goals.{then-not-is_zero+in-Some, else-not-is_zero}

pub loop-x-init : goal.loop-x-init
loop-x-init c =
    let a = c.args in
    let n = length a.columns.now in
    let zero = zero_column (phi a.m a.columns.now) in
    (search rules, search rules, exchanged_none (λ j. not (zero j)) zero a.b n (ROWS - n) c.identity-s.result c.identity-s.ensures)

pub returns-in_default : goal.returns-in_default
unfolding swaps
returns-in_default c =
    let a = c.args in
    let l = c.loop-x in
    let n = length a.columns.now in
    let zero = zero_column (phi a.m a.columns.now) in
    exchanged_out (λ j. not (zero j)) zero a.b n (ROWS - n) a.m l.x l.from l.s (search rules) (search rules) (search rules)
    (λ k u v. (from zero (a.m - l.from) l.from).before k u (omega (arith, c.in_default.ensures.first))) l.invariant.2

pub loop-x-preserved : goal.loop-x-preserved
loop-x-preserved c =
    let a = c.args in
    let l = c.loop-x in
    let n = length a.columns.now in
    let zero = zero_column (phi a.m a.columns.now) in
    let full : ℕ → Bool = λ j. not (zero j) in
    let room = ROWS - n in
    let joined = c.if-not-is_zero in
    elim joined.branch [
      | then-not-is_zero+in-Some w ↦
          let z = w.in-Some.y in
          let e = w.in-Some.ensures.first in
          let u = w.power in
          let v = w.power-then-not-is_zero in
          let found = from zero (a.m - l.from) l.from in (
            omega (arith, e, found.low),
            omega (arith, w.in-Some.ensures.below),
            exchanged_same full zero a.b n room (l.x + 1) (z + 1) joined.from (set (set l.s l.x u.result) z v.result) joined.s w.from-is w.s-is
                (exchanged_more full zero a.b n room l.x l.from z (search rules) (search rules) (omega (arith, e, found.low))
                (ap not (sym c.is_zero.ensures ∙ w.if-not-is_zero.true)) (ap zero e ∙ found.holds (omega (arith, w.in-Some.ensures.below)))
                (λ k u v. found.before k u (omega arith)) l.s u.result v.result (omega arith) u.ensures v.ensures l.invariant.2),
          )
      | else-not-is_zero w ↦ (
        search rules,
        search rules,
        exchanged_same full zero a.b n room (l.x + 1) l.from joined.from l.s joined.s w.from-is w.s-is
            (exchanged_skip full zero a.b n room l.x l.from l.s (ap not (sym c.is_zero.ensures ∙ w.if-not-is_zero.false)) l.invariant.2),
      )
    ]

pub returns : goal.returns
unfolding swaps
returns c =
    let a = c.args in
    let l = c.loop-x in
    let n = length a.columns.now in
    let zero = zero_column (phi a.m a.columns.now) in
    exchanged_all (λ j. not (zero j)) zero a.b n (ROWS - n) a.m l.x l.from l.s (omega arith) (search rules) (search rules) l.invariant.2
