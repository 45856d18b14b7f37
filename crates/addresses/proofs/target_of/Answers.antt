-- `addresses::target_of` meets its contract: address 0 with a refusal, Ax xor c with 0. Assumes nothing.
use mathlib.Core.Path.{◌≡◌, ap, sym, ◌∙◌}
use Prim.Native.Nat.{ℕ}
use lib.Bits.{bit_xor}
use Rattle.algebra.specs.Matrix.{target}
use Rattle.bank.proofs.Refusals.{refuses}
use Rattle.addresses.specs.Address.{question_number}
use Rattle.order.specs.declared.Verdict.{Verdict}
use Rattle.addresses.proofs.Asked.{settled, in_word, target-refused, target_given}
use Rattle.addresses.proofs.target_of.Goals as goal

pub returns-in-Err : goal.returns-in-Err
returns-in-Err c = rw (c.number.ensures, c.z.ensures) (target-refused _ _ _ c.in-Err.ensures (refuses _))

pub overflow_cast-from : goal.overflow_cast-from
overflow_cast-from c =
    let none : let a = c.args in question_number a.order a.x.0 ≡ 0 = sym (ap (λ (v : Verdict). v.number) c.in_default.ensures) in
    let ok = settled _ _ none in record { fits = in_word _ _ ok.0 ok.1 }

pub shared_ref_as_front-apply : goal.shared_ref_as_front-apply
shared_ref_as_front-apply c =
    let none : let a = c.args in question_number a.order a.x.0 ≡ 0 = sym (ap (λ (v : Verdict). v.number) c.in_default.ensures) in
    (settled _ _ none).0

pub returns : goal.returns
unfolding target
returns c =
    let none : let a = c.args in question_number a.order a.x.0 ≡ 0 = sym (ap (λ (v : Verdict). v.number) c.in_default.ensures) in
    target_given _ _ _ none
    (c.from.ensures ∙ ap (λ (y : ℕ). bit_xor y c.args.order.complement) c.apply.ensures)
