-- `lists::bits_for` meets its contract: a search that has passed every number below n. Assumes nothing.
use mathlib.Core.Path.{refl, sym, ◌∙◌}
use Prim.Native.Nat.{suc, ◌^◌}
use native.Mathlib.Omega.{arith}
use borrow.Author.Tests.{le-leb, eq-eqb, ne_eqb}
use Rattle.bank.specs.Limits.{ROWS}
use Rattle.algebra.specs.Search.{least, least_from}
use Rattle.algebra.proofs.Search.{found_here, found_later, found_none}
use Rattle.lists.specs.Targets.{is_power, bits_for}
use Rattle.lists.proofs.bits_for.Goals as goal

pub loop-n-init : goal.loop-n-init
unfolding bits_for least least_from
loop-n-init c = refl

pub returns-then-size-power : goal.returns-then-size-power
returns-then-size-power c =
    let l = c.loop-n in
    let size = c.args.size in (
      omega arith,
      found_here (is_power size) (suc ROWS) l.n (omega arith)
          (rw (le-leb 2 l.n (omega arith), eq-eqb size (2 ^ l.n) (c.if-size-power.true ∙ c.power.ensures)))
          ∙ sym l.invariant,
    )

pub loop-n-preserved : goal.loop-n-preserved
loop-n-preserved c =
    let l = c.loop-n in
    let size = c.args.size in
    l.invariant
    ∙ found_later (is_power size) (suc ROWS) l.n (omega arith)
    (rw (le-leb 2 l.n (omega arith), ne_eqb size (2 ^ l.n) (λ e. c.if-size-power.false (e ∙ sym c.power.ensures))))

pub returns : goal.returns
returns c =
    let l = c.loop-n in
    l.invariant ∙ sym (found_none (is_power c.args.size) (suc ROWS) l.n (omega arith)) ∙ omega arith
