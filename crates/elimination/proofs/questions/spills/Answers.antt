-- `elimination::questions::spills` meets its contract. The loop's invariant: the entries are those after the first j columns of the middle rows, and below 2^j
-- the lower rows send to zero all that the middle rows do. Assumes nothing.
use mathlib.Core.Path.{◌∙◌, ◌≡◌, subst}
use mathlib.Core.Logic.{inl, inr}
use Prim.Native.Nat.{◌-◌, ℕ}
use native.Mathlib.Omega.{arith}
use lib.ListN.{drop, length, take}
use Rattle.bank.specs.Limits.{ROWS}
use Rattle.algebra.specs.Elimination.{built}
use Rattle.algebra.specs.Matrix.{columns}
use Rattle.algebra.proofs.Built.{built_count, built_next}
use Rattle.algebra.proofs.Spill.{Through, through_zero}
use Rattle.elimination.proofs.Exact.{exactly, exactly-length, spills_no_exact, spills_yes_exact, through_exact}
use Rattle.elimination.proofs.questions.spills.Goals as goal
use Rattle.elimination.proofs.questions.spills.Goals.{else-left-eq0-via-then-left-eq0+else-apply-gt0, else-left-eq0-via-else-left-eq0}

pub loop-j-init : goal.loop-j-init
unfolding built
loop-j-init c = (c.new-entries.ensures, through_zero c.args.m _ _)

pub returns-then-apply-gt0 : goal.returns-then-apply-gt0
returns-then-apply-gt0 c =
    let a = c.args in
    let rows = a.rows.now in
    let k = c.columns-cols.ensures in
    let cols = exactly ROWS a.m (take (a.m - a.b) (drop a.b rows)) _ k in
    let long = exactly-length ROWS a.m (take (a.m - a.b) (drop a.b rows)) _ k in
    let l = c.loop-j in
    let r = c.reduce-left.ensures in
    spills_yes_exact rows a.b a.m c.requires.0 c.requires.1 ROWS c.requires.2 (omega arith) l.j _ _ _ _ (omega arith) l.invariant.0
    (rw cols at r.left) c.power.ensures (rw cols at r.tag) c.if-left-eq0.true (λ z. omega (arith, c.apply.ensures ∙ z, c.if-apply-gt0.true))

pub grow-requires : goal.grow-requires
grow-requires c =
    let a = c.args in
    let long = exactly-length ROWS a.m (take (a.m - a.b) (drop a.b a.rows.now)) _ c.columns-cols.ensures in
    let few = built_count ROWS _ _ _ c.loop-j.invariant.0 in
    (omega arith, omega arith)

pub loop-j-preserved : goal.loop-j-preserved
loop-j-preserved c =
    let a = c.args in
    let rows = a.rows.now in
    let middle = take (a.m - a.b) (drop a.b rows) in
    let k = c.columns-cols.ensures in
    let cols = exactly ROWS a.m middle _ k in
    let long = exactly-length ROWS a.m middle _ k in
    let l = c.loop-j in
    let r = c.reduce-left.ensures in (
      built_next ROWS (columns a.m middle) l.j _ _ l.invariant.0 (rw cols at c.grow.ensures),
      through_exact rows a.b a.m c.requires.0 c.requires.1 ROWS c.requires.2 (omega arith) l.j _ _ _ _ (omega arith) l.invariant.0
          (rw cols at r.left) c.power.ensures (rw cols at r.tag)
          (elim c.else-left-eq0.branch [
            | else-left-eq0-via-then-left-eq0+else-apply-gt0 w ↦ inl (w.if-left-eq0.true, omega (arith, w.apply.ensures, w.if-apply-gt0.false))
            | else-left-eq0-via-else-left-eq0 w ↦ inr w.if-left-eq0.false
          ])
          l.invariant.1,
    )

pub returns : goal.returns
returns c =
    let a = c.args in
    let rows = a.rows.now in
    let middle = take (a.m - a.b) (drop a.b rows) in
    let lower = take (length rows - a.m) (drop a.m rows) in
    let long = exactly-length ROWS a.m middle _ c.columns-cols.ensures in
    let done : c.loop-j.j ≡ a.m = omega arith in
    spills_no_exact rows a.b a.m c.requires.0 c.requires.1 (subst (λ (j : ℕ). Through middle lower j) done c.loop-j.invariant.1)
