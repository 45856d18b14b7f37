-- `elimination::questions::kernel` meets its contract: it is what the sweep gives where it stops, and else 0. Assumes nothing.
use mathlib.Core.Path.{◌∙◌, ◌≡◌, sym}
use Prim.Native.Nat.{ℕ}
use mathlib.Core.List.{List}
use lib.ListN.{length}
use Rattle.std.specs.Prelude.{Result, Ok, Err}
use Rattle.std.specs.Option.{unwrap_or}
use Rattle.std.specs.Result.{result_err}
use Rattle.algebra.specs.Matrix.{kernel}
use Rattle.algebra.proofs.Singular.{kernel_none}
use Rattle.elimination.specs.Solved.{Swept}
use Rattle.elimination.specs.declared.echelon.Echelon.{Echelon}
use Rattle.elimination.proofs.questions.kernel.Goals as goal

-- what is told of either answer
told : (n : ℕ) (rows : List ℕ) (r : Result Echelon ℕ) → Swept n rows r → unwrap_or (result_err r) 0 ≡ kernel n rows
told n rows (Ok e) s = sym (kernel_none n rows s.0)
told n rows (Err z) s = s.1

pub returns : goal.returns
returns c =
    let rows = c.args.rows.now in
    c.unwrap_or.ensures ∙ rw c.err.ensures.value (told (length rows) rows _ c.sweep.ensures)
