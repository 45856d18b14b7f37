-- `rounds::erases` meets its contract. The loop's invariant: e holds the columns of E before j, and the identity's from j on. Assumes nothing.
use Prim.Native.Nat.{◌%◌, ◌*◌, ◌-◌, ◌/◌, ◌^◌}
use native.Mathlib.Omega.{arith}
use lib.Bits.{bit_xor}
use lib.ListN.{drop, get_or, length, replicate, take}
use borrow.Author.Rules.{rules}
use Rattle.bank.specs.Limits.{ROWS}
use Rattle.elimination.specs.Echelon.{echelon_of}
use Rattle.algebra.specs.Vector.{WORD}
use Rattle.rounds.proofs.Erasing.{column_erased, delta_built, erased_all, erased_more, erased_none}
use Rattle.rounds.proofs.Places.{phi_column}
use Rattle.rounds.proofs.erases.Goals as goal

pub loop-j-init : goal.loop-j-init
loop-j-init c =
    let a = c.args in
    let n = length a.columns.now in
    (search rules, erased_none n a.b a.m a.columns.now (omega arith) c.identity-e.result (replicate (ROWS - n) 0) c.identity-e.ensures)

pub loop-j-preserved : goal.loop-j-preserved
loop-j-preserved c =
    let a = c.args in
    let cols = a.columns.now in
    let n = length cols in
    let l = c.loop-j in
    let tag = c.reduce-r.result.tag in
    let power = c.power in
    let v = get_or cols l.j 0 / 2 ^ a.m in
    let delta = c.lower-delta in
    let e = echelon_of c.of-entries.result in
    let entries =
    delta_built ROWS n a.b a.m (omega arith) (omega arith) (omega arith) cols c.requires.3 delta.result (replicate (ROWS - length (take (n - a.m) (drop a.m cols))) 0)
    e delta.ensures c.of-entries.ensures in
    let column =
    column_erased ROWS n a.b a.m (omega arith) (omega arith) (omega arith) cols c.requires.3 l.j (search rules) (search rules)
    e entries power.result v tag power.ensures (phi_column a.m cols l.j (search rules)) c.reduce-r.ensures.tag in (
      search rules,
      erased_more n a.b a.m cols (omega arith) l.j (bit_xor power.result (tag * 2 ^ a.m % 2 ^ WORD)) l.e (replicate (ROWS - n) 0) (omega arith)
          l.invariant.1 column,
    )

pub returns : goal.returns
returns c =
    let a = c.args in
    let l = c.loop-j in
    let n = length a.columns.now in
    erased_all n a.b a.m a.columns.now (omega arith) l.j l.e (replicate (ROWS - n) 0) (omega arith) l.invariant.1
