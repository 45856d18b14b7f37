-- `planner::marks::marks` meets its contract. The loop's invariant: the entries and the marks after j columns. Assumes nothing.
use mathlib.Core.Path.{◌∙◌, ap, ap₂, refl}
use Prim.Native.Nat.{◌<◌, ◌^◌, ℕ}
use native.Mathlib.Omega.{arith}
use lib.Bits.{bit_xor}
use lib.ListN.{get_or}
use borrow.Author.Rules.{rules}
use Rattle.bank.specs.Limits.{ROWS}
use Rattle.algebra.specs.Elimination.{built}
use Rattle.algebra.specs.Matrix.{marked}
use Rattle.algebra.specs.Vector.{WORD, unless_zero}
use Rattle.algebra.proofs.Built.{built_count, built_next}
use Rattle.elimination.specs.Echelon.{echelon_of}
use Rattle.planner.specs.Marks.{mask_of}
use Rattle.planner.proofs.Marked.{left_marked}
use Rattle.planner.proofs.Masks.{mask_next}
use Rattle.planner.proofs.marks.marks.Goals as goal

pub loop-j-init : goal.loop-j-init
unfolding built mask_of
loop-j-init c = (c.new-entries.ensures, refl)

pub grow-requires : goal.grow-requires
grow-requires c =
    let l = c.loop-j in
    let few = built_count ROWS c.args.columns.now l.j (echelon_of l.entries) l.invariant.0 in
    (omega arith, search rules)

pub loop-j-preserved : goal.loop-j-preserved
loop-j-preserved c =
    let l = c.loop-j in
    let cols = c.args.columns.now in
    let fits : (i : ℕ) → get_or cols i 0 < 2 ^ WORD = λ i. search rules in
    let r = c.reduce-left in
    let e = echelon_of l.entries in
    let same = left_marked ROWS cols WORD (search rules) fits l.j (omega arith) e l.invariant.0 r.result.left r.ensures.left (2 ^ l.j) in (
      built_next ROWS cols l.j e (echelon_of c.grow.new.self) l.invariant.0 c.grow.ensures,
      ap₂ bit_xor l.invariant.1 (c.unless_zero-set.ensures ∙ ap (unless_zero r.result.left) c.power.ensures)
          ∙ mask_next (marked cols) l.j r.result.left same,
    )
