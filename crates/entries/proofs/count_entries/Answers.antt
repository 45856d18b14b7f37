-- `entries::count_entries` meets its contract: the lines passed are those of as many entries as are counted. Assumes nothing.
use mathlib.Core.List.{[], ◌∷◌, ◌++◌}
use native.Mathlib.Omega.{arith}
use lib.ListN.{length-append}
use Rattle.entries.proofs.Found.{entry_past}
use Rattle.entries.proofs.Passed.{passed_none, passed_more, passed_bad}
use Rattle.entries.proofs.count_entries.Goals as goal

pub loop-at-init : goal.loop-at-init
loop-at-init c = ([], passed_none c.args.text.now, omega arith, omega arith)

pub returns-in_err-at : goal.returns-in_err-at
returns-in_err-at c =
    let l = c.loop-at in
    rw c.from_residual.ensures (λ list t. passed_bad _ _ l.invariant.0 l.invariant.1 list t (omega arith) c.in_err-at.ensures)

pub loop-at-preserved : goal.loop-at-preserved
loop-at-preserved c =
    let l = c.loop-at in
    let entry = c.in_ok-at in
    let v = entry.field-0-0 in
    let less = entry_past c.args.text.now l.at v entry.field-0-1 entry.ensures in (
      l.invariant.0 ++ (v ∷ []),
      passed_more _ _ l.invariant.0 l.invariant.1 v _ entry.ensures,
      omega (arith, l.invariant.2, length-append l.invariant.0 (v ∷ [])),
      omega (arith, less, l.invariant.3),
    )
