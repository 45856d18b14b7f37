-- `store::with_pass` meets its contract: the places of pass p are overwritten, and no others. Assumes nothing.
use mathlib.Core.Path.{ap}
use mathlib.Core.List.{List}
use Prim.Native.Nat.{◌+◌, ◌*◌, ◌-◌, ℕ}
use native.Mathlib.Omega.{arith}
use lib.ListN.{set}
use borrow.Author.Rules.{rules}
use Rattle.bank.specs.Limits.{ROWS}
use Rattle.std.proofs.lemmas.Slice.{put_mid-paste}
use Rattle.planning.specs.declared.Plan.{Plan}
use Rattle.store.specs.Store.{with_pass}
use Rattle.store.proofs.with_pass.Goals as goal

pub returns : goal.returns
unfolding with_pass
returns c =
    let a = c.args in
    let plan = a.plan in
    let w = c.copy_from_slice in
    ap {B = Plan}
    (λ (rows : List ℕ). record { geometry = plan.geometry; blanks = plan.blanks; count = a.p + 1; rows = rows; complements = set plan.complements a.p a.complement })
    (put_mid-paste (a.p * ROWS) ((a.p + 1) * ROWS - a.p * ROWS) plan.rows w.new.self a.rows ROWS w.ensures.after (omega arith) (search rules))
