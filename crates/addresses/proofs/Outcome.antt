-- Why has a question backwards one result, and one only? Assumes nothing.
use mathlib.Core.Path.{◌≡◌, refl, sym, ap, ◌∙◌}
use mathlib.Core.Bool.{Bool, true, false, not}
use Prim.Native.Nat.{ℕ}
use native.Mathlib.Omega.{arith}
use lib.Dec.{leb}
use Rattle.std.specs.Prelude.{Result, Ok, Err}
use Rattle.bank.specs.Geometry.{in_limits, records}
use Rattle.bank.specs.Checks.{refuse, or_later}
use Rattle.bank.specs.Refusal.{number_of, z_of}
use Rattle.bank.specs.declared.Address.{Address}
use Rattle.bank.specs.declared.refusal.Refusal.{Refusal}
use Rattle.bank.specs.declared.refusal.Refusal.TheVariants.{Geometry, Form, Singular, Beyond}
use Rattle.bank.proofs.Refusals.{refuses, z_else, one_refusal}
use Rattle.algebra.specs.Matrix.{source, singular}
use Rattle.order.specs.Order.{matrix_of, bad_form, form_number, judgement, z_with}
use Rattle.order.specs.declared.Order.{Order}
use Rattle.order.proofs.Judged.{z_other}
use Rattle.addresses.specs.Address.{Source, question_number, meaning_of, found_for}
use Rattle.addresses.specs.Address.Source.{From, Refused}
use Rattle.addresses.specs.Answered.{answer_of}
use Rattle.addresses.specs.Outcome.{Outcome}
use Rattle.addresses.proofs.Asked.{source_given, source-refused}
use Rattle.addresses.proofs.Main.{one_answer}

-- ---- there is one: the source, or the refusal by the number of the question
module _ (order : Order) (y : ℕ) where
  abbrev Answer : Type 0
  Answer = (r : Result Address Refusal) × (meaning_of (answer_of r) ≡ found_for order y)

  -- by another number than 3
  refused : (r : Refusal) → (number_of r ≡ 3 → ⊥) → question_number order y ≡ number_of r → Answer
  refused r f e =
      let z = z_else r f ∙ sym (z_other order (λ t. f (sym e ∙ t))) in
      (Err r, source-refused order y (number_of r) (z_of r).0 (sym e) z (refuses r))

  -- by what the tests of geometry, form, matrix and address say
  tested : (outside bad dependent far : Bool)
      → question_number order y ≡ or_later (or_later (refuse outside 1 (refuse bad 2 0)) (refuse dependent 3 0)) (refuse far 10 0) → Answer
  tested true bad dependent far e = refused Geometry (λ t. omega (arith, t)) e
  tested false true dependent far e = refused Form (λ t. omega (arith, t)) e
  tested false false true far e =
      let z = z_with (question_number order y) order in
      (Err (Singular (record { 0 = z })), source-refused order y 3 z (sym e) refl (λ t. omega (arith, t)))
  tested false false false true e = refused Beyond (λ t. omega (arith, t)) e
  tested false false false false e = (Ok (record { 0 = source order.geometry.n (matrix_of order) order.complement y }), source_given order y _ e refl)

  some_result : Answer
  unfolding question_number judgement form_number
  some_result =
      tested (not (in_limits order.geometry)) (bad_form order) (singular order.geometry.n (matrix_of order)) (leb (records order.geometry) y) refl

-- ---- there is no other: results that answer the same are the same
-- what an answer says: the source or z, and the number
address_said : Source → Address
address_said (From a) = a
address_said (Refused k z) = z

number_said : Source → ℕ
number_said (From a) = 0
number_said (Refused k z) = k

one_result : (a b : Result Address Refusal) → answer_of a ≡ answer_of b → a ≡ b
unfolding address_said number_said
one_result (Ok a) (Ok b) e = ap Ok (ap address_said e)
one_result (Ok a) (Err r) e = absurd (refuses r (sym (ap number_said e)))
one_result (Err r) (Ok b) e = absurd (refuses r (ap number_said e))
one_result (Err r) (Err s) e = ap Err (one_refusal r s (ap number_said e) (ap address_said e))

pub outcome : Outcome
outcome =
    record {
      some = some_result;
      one = λ order y a b p q. one_result a b (one_answer (answer_of a) (answer_of b) (p ∙ sym q));
    }
