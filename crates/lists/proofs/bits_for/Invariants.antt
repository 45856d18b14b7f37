-- `lists::bits_for` meets its contract: a search that has passed every number below n. Assumes nothing.
use mathlib.Core.Path.{◌≡◌}
use Prim.Native.Nat.{suc, ◌-◌}
use Rattle.bank.specs.Limits.{ROWS}
use Rattle.algebra.specs.Search.{least_from}
use Rattle.lists.specs.Targets.{is_power, bits_for}
use Rattle.lists.proofs.bits_for.Given as goal

abbrev pub invariant-loop-n : goal.invariant-loop-n
invariant-loop-n l = bits_for l.size ≡ least_from (is_power l.size) (suc ROWS - l.n) l.n
