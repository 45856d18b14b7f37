-- `planner::marks::bare` meets its contract: each return is one case of the definition. Assumes nothing.
use mathlib.Core.Logic.{⊎_elim}
use mathlib.Core.Path.{ap, sym}
use Prim.Native.Nat.{◌<◌, ◌≤◌}
use native.Mathlib.Omega.{arith}
use Rattle.algebra.specs.Matrix.{one_if}
use Rattle.planner.proofs.Masks.{bare_high, bare_low, bare_one}
use Rattle.planner.proofs.marks.bare.Goals as goal

pub returns-then-j-from : goal.returns-then-j-from
returns-then-j-from c =
    let a = c.args in
    sym
    (ap one_if
    (⊎_elim (λ (h : a.j < a.from). bare_low a.set a.from a.to a.j h) (λ (h : (a.from ≤ a.j) × (a.to ≤ a.j)). bare_high a.set a.from a.to a.j h.0 h.1)
    c.then-j-from.either))

pub returns : goal.returns
returns c =
    let a = c.args in
    bare_one a.set a.from a.to a.j c.bit_of.result (omega arith) (omega arith) c.bit_of.ensures
