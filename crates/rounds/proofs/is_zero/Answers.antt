-- `rounds::is_zero` meets its contract: the column without its low m bits is the column of φ. Assumes nothing.
use mathlib.Core.Path.{refl}
use Prim.Native.Nat.{◌/◌, ◌^◌}
use lib.ListN.{get_or}
use borrow.Author.Rules.{rules}
use Rattle.rounds.proofs.Places.{zero_column_lem}
use Rattle.rounds.proofs.is_zero.Goals as goal

pub returns : goal.returns
returns c =
    let a = c.args in
    zero_column_lem a.m a.columns.now a.j (get_or a.columns.now a.j 0 / 2 ^ a.m) (search rules) refl
