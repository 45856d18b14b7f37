-- `elimination::echelon::Echelon::grow` meets its contract: the column leaves nothing, or one entry. Assumes nothing.
use mathlib.Core.Path.{◌∙◌, ap}
use Prim.Native.Nat.{ℕ}
use lib.Bits.{bit_xor}
use Rattle.algebra.proofs.Basis.{used_of}
use Rattle.algebra.proofs.Loops.{grown_entry, grown_skip}
use Rattle.elimination.specs.Echelon.{echelon_of}
use Rattle.elimination.proofs.echelon.Echelon.grow.Goals as goal

pub returns-then-left-ne0 : goal.returns-then-left-ne0
returns-then-left-ne0 c =
    let a = c.args in
    let r = c.reduce-left in
    grown_entry (echelon_of a.self.now) _ a.j a.column r.result.left r.result.tag c.add.ensures r.ensures.left c.if-left-ne0.true
    (r.ensures.tag ∙ ap (λ (x : ℕ). bit_xor x (used_of (echelon_of a.self.now) a.column)) c.power.ensures)

pub returns-else-left-ne0 : goal.returns-else-left-ne0
returns-else-left-ne0 c =
    let a = c.args in
    grown_skip (echelon_of a.self.now) a.j a.column _ c.reduce-left.ensures.left c.if-left-ne0.false
