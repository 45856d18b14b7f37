-- What is proved of addresses both ways, for demand 2, over the definitions that the calls' promises cite. Assumes nothing.
use mathlib.Core.Path.{◌≡◌, refl, sym, ap, ◌∙◌}
use mathlib.Core.List.{List, [], ◌∷◌}
use Prim.Native.Nat.{ℕ, ◌≤◌, ◌<◌}
use native.Mathlib.Omega.{arith}
use lib.ListN.{length}
use Rattle.bank.specs.Limits.{ROWS}
use Rattle.bank.specs.Geometry.{records}
use Rattle.algebra.specs.Matrix.{source}
use Rattle.algebra.proofs.Singular.{regular_inj}
use Rattle.algebra.proofs.Inverse.{source-lt, target-source_is}
use Rattle.order.specs.Order.{matrix_of, judgement, z_with}
use Rattle.order.specs.declared.Order.{Order}
use Rattle.order.proofs.Accepted.{Accepted, judgement→accepted, complement_below, matrix_length}
use Rattle.addresses.specs.Address.{Source, target_of, meaning_of, found_for, sent_to}
use Rattle.addresses.specs.Address.Source.{From, Refused}
use Rattle.addresses.proofs.Asked.{number_none, target_given}

-- ---- an order that is taken; its rows fill the room of the array
module _ (order : Order) (room : length order.rows ≡ ROWS) (taken : judgement order ≡ 0) where
  abbrev n : ℕ
  n = order.geometry.n

  ok : Accepted order
  ok = judgement→accepted order taken

  rows_n : length (matrix_of order) ≤ n
  rows_n = omega (arith, matrix_length order ok.inside room)

  -- it sends x to Ax xor c
  pub sends : (x : ℕ) → x < records order.geometry → target_of order x ≡ record { number = 0; address = record { 0 = sent_to order x }; z = record { 0 = 0 } }
  sends x h = sym (target_given order x (sent_to order x) (number_none order x taken h) refl)

  -- asked backwards, it gives the only x that goes there
  pub record Comes (y : ℕ) : Type 0 where
    pub from : ℕ
    pub answer : found_for order y ≡ record { number = 0; z = 0; sources = from ∷ [] }
    pub below : from < records order.geometry
    pub goes : sent_to order from ≡ y
    pub only : (x : ℕ) → x < records order.geometry → sent_to order x ≡ y → x ≡ from

  pub comes : (y : ℕ) → y < records order.geometry → Comes y
  unfolding found_for z_with
  comes y h =
      let s = source n (matrix_of order) order.complement y in
      let b = source-lt n (matrix_of order) ok.regular rows_n order.complement y (complement_below order ok.form) h in
      let g = target-source_is n (matrix_of order) ok.regular rows_n order.complement y (complement_below order ok.form) h in
      record {
        from = s;
        answer = rw (number_none order y taken h);
        below = b;
        goes = g;
        only = λ x l e. regular_inj n (matrix_of order) order.complement x s ok.regular l b (e ∙ sym g);
      }

-- ---- one outcome: two answers backwards that mean the same are the same
pub one_answer : (a b : Source) → meaning_of a ≡ meaning_of b → a ≡ b
unfolding meaning_of
one_answer (From a) (From b) e = ap From (λ i. record { 0 = head (e i).sources })
  where
    head : List ℕ → ℕ
    head [] = 0
    head (x ∷ xs) = x
one_answer (From a) (Refused k z) e = absurd (omega (arith, ap (λ f. length f.sources) e))
one_answer (Refused k z) (From b) e = absurd (omega (arith, ap (λ f. length f.sources) e))
one_answer (Refused j y) (Refused k z) e = λ i. Refused (e i).number (record { 0 = (e i).z })
