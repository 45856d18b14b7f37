-- What is proved of order texts, over the definitions that the calls' promises cite? Assumes nothing.
use mathlib.Core.Path.{◌≡◌, refl, sym, ap, ◌∙◌, subst}
use mathlib.Core.Bool.{true, false, true≢false}
use mathlib.Core.List.{List}
use Prim.Native.Nat.{ℕ}
use native.Mathlib.Omega.{arith}
use lib.ListN.{length}
use Rattle.bank.specs.Limits.{ROWS}
use Rattle.bank.specs.Geometry.{in_limits}
use Rattle.bank.specs.declared.Geometry.{Geometry}
use Rattle.order.specs.declared.Order.{Order}
use Rattle.order.specs.Order.{judgement, z_with}
use Rattle.order.proofs.Accepted.{judgement→accepted}
use Rattle.reading.specs.OrderText.{order_text}
use Rattle.reading.specs.Parsing.{first_line_at}
use Rattle.reading.specs.Reading.{Begins, Whole, Reads, no_first_line, outside, no_rest, singular, taken}
use Rattle.reading.proofs.FirstLine.{one_first_line}
use Rattle.reading.proofs.OneText.{begins_within, one_order}
use Rattle.reading.proofs.Some.{by_line}

-- ---- one outcome
module _ (text : List ℕ) (g h : Geometry) (b : Begins text g) (c : Begins text h) where
  out_and_in : in_limits g ≡ false → in_limits h ≡ true → ⊥
  out_and_in l m = true≢false (sym m ∙ sym (ap in_limits (one_first_line text g h b c)) ∙ l)

  whole_by : (o : Order) → Whole text h o → Whole text g o
  whole_by o w = subst (λ (x : Geometry). Whole text x o) (sym (one_first_line text g h b c)) w

  pub same_order : (o p : Order) → in_limits g ≡ true → Whole text g o → Whole text h p → o ≡ p
  same_order o p l v w = one_order text g l o p v (whole_by p w)

  three_and_none : (o p : Order) → in_limits g ≡ true → Whole text g o → Whole text h p → judgement o ≡ 3 → judgement p ≡ 0 → ⊥
  three_and_none o p l v w j k = omega (arith, j, k, ap judgement (same_order o p l v w))

-- a text gives one number, one order and one z
pub one_reading : (text : List ℕ) (k l : ℕ) (o p : Order) (y z : ℕ) → Reads text k o y → Reads text l p z → (k ≡ l) × (o ≡ p) × (y ≡ z)
one_reading text k l o p y z (no_first_line f) (no_first_line e) = (refl, refl, refl)
one_reading text k l o p y z (no_first_line f) (outside g b i) = absurd (f g b)
one_reading text k l o p y z (no_first_line f) (no_rest g b i n) = absurd (f g b)
one_reading text k l o p y z (no_first_line f) (singular g q b i w j) = absurd (f g b)
one_reading text k l o p y z (no_first_line f) (taken g q b i w j) = absurd (f g b)
one_reading text k l o p y z (outside g b i) (no_first_line f) = absurd (f g b)
one_reading text k l o p y z (outside g b i) (outside h c m) = (refl, refl, refl)
one_reading text k l o p y z (outside g b i) (no_rest h c m n) = absurd (out_and_in text g h b c i m)
one_reading text k l o p y z (outside g b i) (singular h q c m w j) = absurd (out_and_in text g h b c i m)
one_reading text k l o p y z (outside g b i) (taken h q c m w j) = absurd (out_and_in text g h b c i m)
one_reading text k l o p y z (no_rest g b i n) (no_first_line f) = absurd (f g b)
one_reading text k l o p y z (no_rest g b i n) (outside h c m) = absurd (out_and_in text h g c b m i)
one_reading text k l o p y z (no_rest g b i n) (no_rest h c m f) = (refl, refl, refl)
one_reading text k l o p y z (no_rest g b i n) (singular h q c m w j) = absurd (n q (whole_by text g h b c q w))
one_reading text k l o p y z (no_rest g b i n) (taken h q c m w j) = absurd (n q (whole_by text g h b c q w))
one_reading text k l o p y z (singular g q b i w j) (no_first_line f) = absurd (f g b)
one_reading text k l o p y z (singular g q b i w j) (outside h c m) = absurd (out_and_in text h g c b m i)
one_reading text k l o p y z (singular g q b i w j) (no_rest h c m n) = absurd (n q (whole_by text h g c b q w))
one_reading text k l o p y z (singular g q b i w j) (singular h r c m v a) =
    (refl, refl, ap (z_with 3) (same_order text g h b c q r i w v))
one_reading text k l o p y z (singular g q b i w j) (taken h r c m v a) = absurd (three_and_none text g h b c q r i w v j a)
one_reading text k l o p y z (taken g q b i w j) (no_first_line f) = absurd (f g b)
one_reading text k l o p y z (taken g q b i w j) (outside h c m) = absurd (out_and_in text h g c b m i)
one_reading text k l o p y z (taken g q b i w j) (no_rest h c m n) = absurd (n q (whole_by text h g c b q w))
one_reading text k l o p y z (taken g q b i w j) (singular h r c m v a) = absurd (three_and_none text h g c b r q m v w a j)
one_reading text k l o p y z (taken g q b i w j) (taken h r c m v a) = (refl, same_order text g h b c q r i w v, refl)

-- ---- some outcome: a text, whichever it is, gives a number, an order and a z
pub some_reading : (text : List ℕ) → (k : ℕ) × (order : Order) × (z : ℕ) × Reads text k order z
some_reading text = by_line text (first_line_at text) refl

-- ---- what is written is read
pub read_written : (order : Order) → judgement order ≡ 0 → length order.rows ≡ ROWS → Reads (order_text order) 0 order 0
unfolding order_text
read_written order e room =
    let a = judgement→accepted order e in
    taken order.geometry order (begins_within (order_text order) order.geometry _ a.inside refl) a.inside
    (record { geometry = refl; room = room; form = a.form; is = refl })
    e

-- ---- only what is written is read
-- what a text that is taken, and its order, are
pub record Taken (text : List ℕ) (order : Order) : Type 0 where
  pub is : text ≡ order_text order
  pub room : length order.rows ≡ ROWS
  pub judged : judgement order ≡ 0
  pub inside : in_limits order.geometry ≡ true

pub read_taken : {text : List ℕ} {k : ℕ} {order : Order} {z : ℕ} → Reads text k order z → k ≡ 0 → Taken text order
read_taken (no_first_line f) e = absurd (omega arith)
read_taken (outside g b i) e = absurd (omega arith)
read_taken (no_rest g b i n) e = absurd (omega arith)
read_taken (singular g q b i w j) e = absurd (omega arith)
read_taken (taken g q b i w j) e = record { is = w.is; room = w.room; judged = j; inside = (judgement→accepted q j).inside }
