-- Where does an order send an address, and where does one come from? Assumes nothing.
use Rattle.std.specs.Prelude.{List, [], ◌∷◌, ℕ, leb}
use Rattle.bank.specs.Geometry.{records}
use Rattle.bank.specs.Checks.{refuse, or_later, handed}
use Rattle.algebra.specs.Matrix.{target, source}
use Rattle.order.specs.Order.{matrix_of, judgement, z_with}
use Rattle.order.specs.declared.Order.{Order}
use Rattle.addresses.specs.declared.Target.{Target}
use Rattle.bank.specs.declared.Address.{Address}

-- the number of an address question: the order's own, then 10 for an address of N or more
unfoldable pub question_number : Order → ℕ → ℕ
question_number order x = or_later (judgement order) (refuse (leb (records order.geometry) x) 10 0)

-- where the order sends x: Ax xor c
abbrev pub sent_to : Order → ℕ → ℕ
sent_to order x = target (matrix_of order) order.complement x

-- the answer for x: where the order sends it with 0, and address 0 with a refusal
unfoldable pub target_of : Order → ℕ → Target
target_of order x =
    record {
      number = question_number order x;
      address = record { 0 = handed (question_number order x) (sent_to order x) 0 };
      z = record { 0 = z_with (question_number order x) order };
    }

-- an answer to a question backwards: the source, or the number of the refusal and its z
pub data Source : Type 0 where
  From : Address → Source
  Refused : ℕ → Address → Source

-- what an answer to a question backwards says: its number and z, and the source, where there is one
pub record Found : Type 0 where
  pub number : ℕ
  pub z : ℕ
  pub sources : List ℕ

-- the number and the values of each case of the answer
unfoldable pub meaning_of : Source → Found
meaning_of (From a) = record { number = 0; z = 0; sources = a.0 ∷ [] }
meaning_of (Refused k z) = record { number = k; z = z.0; sources = [] }

-- the answer for y: the address that A and c send there with 0, and no source with a refusal
unfoldable pub found_for : Order → ℕ → Found
found_for order y =
    record {
      number = question_number order y;
      z = z_with (question_number order y) order;
      sources = handed (question_number order y) (source order.geometry.n (matrix_of order) order.complement y ∷ []) [];
    }
