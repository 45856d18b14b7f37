-- `lists::apart::columns_of` meets its contract: the first j columns are in place. Assumes nothing.
use mathlib.Core.Path.{◌≡◌, sym, ap₂, ◌∙◌}
use Prim.Native.Nat.{ℕ, ◌<◌, ◌%◌, ◌^◌}
use native.Mathlib.Omega.{arith}
use lib.Bits.{bit_xor}
use lib.ListN.{get_or}
use lib.Pow.{pow-lt}
use Rattle.bank.specs.Limits.{ROWS}
use Rattle.matrix.proofs.Filled.{filled_all, filled_next}
use Rattle.lists.specs.Apart.{column_of, columns_of}
use Rattle.lists.proofs.Only.{columns_of_at, columns_of_length}
use Rattle.lists.proofs.apart.columns_of.Goals as goal

-- entry 2 ^ j is in the list
entry_there : (at long j n : ℕ) → at ≡ 2 ^ j → long ≡ 2 ^ n → j < n → at < long
entry_there at long j n e l h = omega (arith, pow-lt {i = j} {j = n} h)

pub loop-j-preserved : goal.loop-j-preserved
unfolding column_of
loop-j-preserved c =
    let s = c.args in
    let l = c.loop-j in
    let long = columns_of_length s.list.now s.n in
    filled_next ROWS (columns_of s.list.now s.n) (omega arith) l.j _ l.cols (omega arith) l.invariant
    (ap₂ (λ (at size : ℕ). bit_xor (get_or s.list.now at 0) (get_or s.list.now 0 0) % size) c.power-at.ensures
    c.power-size.ensures ∙ sym (columns_of_at s.list.now s.n l.j (omega arith)))

pub returns : goal.returns
returns c =
    let s = c.args in
    let l = c.loop-j in
    let long = columns_of_length s.list.now s.n in
    filled_all ROWS (columns_of s.list.now s.n) (omega arith) s.n l.j l.cols long (omega arith) l.invariant

pub bounds-list-at : goal.bounds-list-at
bounds-list-at c = entry_there _ _ c.loop-j.j _ c.power-at.ensures c.requires.1 (omega arith)
