-- `planner::operations::paired` meets its contract. The loop's invariant: the first j columns are in place, and the others still get theirs of what is left.
-- Assumes nothing.
use mathlib.Core.Path.{◌∙◌, ◌≡◌, ap, ap₂, refl, subst, sym}
use Prim.Native.Nat.{◌+◌, ◌-◌, ◌/◌, ◌<◌, ◌^◌, ℕ}
use native.Mathlib.Nat.{sub-zero}
use native.Mathlib.Omega.{arith}
use lib.Bits.{bit_xor}
use lib.Pow.{shr_lt}
use Rattle.bank.specs.Limits.{ROWS}
use Rattle.algebra.specs.Search.{which}
use Rattle.algebra.specs.Vector.{unless_zero}
use Rattle.matrix.proofs.Filled.{filled_all, filled_next}
use Rattle.planning.specs.Columns.{adding}
use Rattle.planning.specs.Making.{partner}
use Rattle.planner.specs.Marks.{bare, places_of}
use Rattle.planner.proofs.Pairs.{gets, once_later, once_now, once_small}
use Rattle.planning.proofs.Acts.{adding-length}
use Rattle.planner.proofs.Steps.{adding_column}
use Rattle.planner.proofs.operations.paired.Invariants.{share}
use Rattle.planner.proofs.operations.paired.Goals as goal

pub loop-j-init : goal.loop-j-init
loop-j-init c =
    let a = c.args in
    let whole : a.n ≡ a.m + (a.n - a.m) = omega arith in (
      shr_lt a.m (a.n - a.m) (subst (λ (k : ℕ). a.set < 2 ^ k) whole c.requires.2),
      refl,
      λ i h. ap (λ (k : ℕ). partner (which (bare a.set a.m a.n) k 0) (places_of a.m (a.set / 2 ^ (a.n - a.m))) i) (sym (sub-zero a.n)),
    )

pub loop-j-preserved : goal.loop-j-preserved
loop-j-preserved c =
    let a = c.args in
    let l = c.loop-j in
    let test = bare a.set a.m a.n in
    let f = share a.set a.n a.m in
    let w = c.unless_zero-w.result in
    let got : w ≡ gets (test l.j) l.left
    = c.unless_zero-w.ensures ∙ ap₂ unless_zero c.bare.ensures c.lowest_of.ensures in
    let below : l.j < a.n = omega arith in
    let now = once_now test a.n a.m f l.j l.left w below l.invariant.0 (omega arith) l.invariant.2 got in
    let column = adding_column f a.n l.j below in
    let long = adding-length f a.n in (
      once_small test a.n a.m f l.j l.left w below l.invariant.0 (omega arith) l.invariant.2 got,
      filled_next ROWS (adding f a.n) (omega arith) l.j (bit_xor c.power.result w) l.out (omega arith) l.invariant.1 (cc),
      once_later test a.n a.m f l.j l.left w below l.invariant.0 (omega arith) l.invariant.2 got,
    )

pub returns : goal.returns
returns c =
    let a = c.args in
    let l = c.loop-j in
    let f = share a.set a.n a.m in
    let long = adding-length f a.n in
    filled_all ROWS (adding f a.n) (omega arith) a.n l.j l.out long (omega arith) l.invariant.1
