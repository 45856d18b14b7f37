-- Which order does a text give, and by which number is another text refused? The checks in their order: first line (8), geometry (1), the rest (8), then 3.
-- Assumes nothing.
use Rattle.std.specs.Prelude.{◌≡◌, true, false, List, ◌++◌, ℕ, ◌<◌, length, replicate}
use Rattle.bank.specs.Limits.{ROWS}
use Rattle.bank.specs.declared.Geometry.{Geometry}
use Rattle.bank.specs.Geometry.{in_limits}
use Rattle.order.specs.declared.Order.{Order}
use Rattle.order.specs.Order.{bad_form, judgement, z_with}
use Rattle.reading.specs.OrderText.{first_line, order_text}

-- the text begins with the first line of g, whose numbers have 1 to 3 digits
pub record Begins (text : List ℕ) (g : Geometry) : Type 0 where
  pub n_short : g.n < 1000
  pub b_short : g.b < 1000
  pub d_short : g.d < 1000
  pub m_short : g.m < 1000
  pub r_short : g.r < 1000
  pub rest : List ℕ
  pub is : text ≡ first_line g ++ rest

-- the text is, whole, that of an order with g, in good form
pub record Whole (text : List ℕ) (g : Geometry) (order : Order) : Type 0 where
  pub geometry : order.geometry ≡ g
  pub room : length order.rows ≡ ROWS
  pub form : bad_form order ≡ false
  pub is : text ≡ order_text order

-- zero everywhere, geometry too: what a refusal hands back
abbrev pub no_order : Order
no_order = record { geometry = record { n = 0; b = 0; d = 0; m = 0; r = 0 }; rows = replicate ROWS 0; complement = 0 }

-- reading a text gives this number, this order and this z: with 3 that of the order that the text is, and 0 with every other number
pub data Reads (text : List ℕ) : ℕ → Order → ℕ → Type 0 where
  no_first_line : ((g : Geometry) → Begins text g → ⊥) → Reads text 8 no_order 0
  outside : (g : Geometry) → Begins text g → in_limits g ≡ false → Reads text 1 no_order 0
  no_rest : (g : Geometry) → Begins text g → in_limits g ≡ true → ((order : Order) → Whole text g order → ⊥) → Reads text 8 no_order 0
  singular : (g : Geometry) (order : Order) → Begins text g → in_limits g ≡ true → Whole text g order → judgement order ≡ 3
      → Reads text 3 no_order (z_with 3 order)
  taken : (g : Geometry) (order : Order) → Begins text g → in_limits g ≡ true → Whole text g order → judgement order ≡ 0 → Reads text 0 order 0
