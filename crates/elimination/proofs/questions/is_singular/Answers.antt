-- `elimination::questions::is_singular` meets its contract: the matrix sends some vector to zero. Assumes nothing.
use mathlib.Core.Path.{◌∙◌, ap}
use mathlib.Core.Bool.{not}
use Prim.Native.Nat.{ℕ}
use lib.Dec.{eqb}
use lib.ListN.{length}
use Rattle.algebra.proofs.Singular.{kernel_tells}
use Rattle.elimination.proofs.questions.is_singular.Goals as goal

pub returns : goal.returns
returns c =
    let rows = c.args.rows.now in
    ap (λ (k : ℕ). not (eqb k 0)) c.kernel.ensures ∙ kernel_tells (length rows) rows
