-- Which mark does an answer get? Assumes nothing.
use Rattle.std.specs.Prelude.{◌≡◌, List, ℕ, suc}
use Rattle.order.specs.declared.Order.{Order}
use Rattle.order.specs.Order.{z_with}
use Rattle.addresses.specs.Address.{question_number, sent_to}
use Rattle.text.specs.Lines.{decimal}
use Rattle.lessons.specs.declared.Mark.{Mark}
use Rattle.lessons.specs.declared.Mark.TheVariants.{Right, Wrong, Refused}

-- asked where the order sends x: right is Ax xor c in decimal, and nothing else
pub data Marked (order : Order) (x : ℕ) (answer : List ℕ) : Mark → Type 0 where
  refused : (k : ℕ) → question_number order x ≡ suc k → Marked order x answer (Refused (suc k) (record { 0 = z_with (suc k) order }))
  right : question_number order x ≡ 0 → answer ≡ decimal (sent_to order x) → Marked order x answer Right
  wrong : question_number order x ≡ 0 → (answer ≡ decimal (sent_to order x) → ⊥) → Marked order x answer Wrong

-- an answer gets one mark
abbrev pub OneMark : Type 0
OneMark = (order : Order) (x : ℕ) (answer : List ℕ) (a b : Mark) → Marked order x answer a → Marked order x answer b → a ≡ b
