-- Do two orders have one text? Assumes nothing.
use mathlib.Core.Path.{◌≡◌, refl, sym, ap, ◌∙◌, subst}
use mathlib.Core.Bool.{true}
use mathlib.Core.Logic.{⊎_elim}
use mathlib.Core.List.{List, ◌++◌}
use Prim.Native.Nat.{ℕ, ◌^◌, ◌≤◌, ◌<◌}
use native.Mathlib.Omega.{arith}
use lib.ListN.{length, get_or}
use lib.Seq.{ext_get_or, get_or-take}
use Rattle.bank.specs.Limits.{ROWS}
use Rattle.bank.specs.Geometry.{in_limits}
use Rattle.bank.specs.declared.Geometry.{Geometry}
use Rattle.bank.proofs.Limits.{limits→allowed}
use Rattle.algebra.proofs.Search.{le_or_lt}
use Rattle.algebra.proofs.Lists.{same_parts}
use Rattle.order.specs.declared.Order.{Order}
use Rattle.order.specs.Order.{matrix_of}
use Rattle.order.proofs.Accepted.{matrix_length, matrix_below, complement_below, place_zero}
use Rattle.text.specs.Lines.{line, bits, row_lines}
use Rattle.text.proofs.RowLines.{same_length, line_inj, row_lines_inj}
use Rattle.reading.specs.OrderText.{first_line}
use Rattle.reading.specs.Reading.{Begins, Whole}
use Rattle.reading.proofs.Joined.{text_of}

-- a text that has an order's first line begins with it
pub begins_within : (text : List ℕ) (g : Geometry) (rest : List ℕ) → in_limits g ≡ true → text ≡ first_line g ++ rest → Begins text g
begins_within text g rest inside e =
    let l = limits→allowed g inside in
    record { n_short = omega arith; b_short = omega arith; d_short = omega arith; m_short = omega arith; r_short = omega arith; rest = rest; is = e }

-- an order that has the whole text, by g's own n
module _ (text : List ℕ) (g : Geometry) (inside : in_limits g ≡ true) (o : Order) (w : Whole text g o) where
  n_is : o.geometry.n ≡ g.n
  n_is = ap (λ (x : Geometry). x.n) w.geometry

  inside_own : in_limits o.geometry ≡ true
  inside_own = ap in_limits w.geometry ∙ inside

  pub matrix_long : length (matrix_of o) ≡ g.n
  matrix_long = matrix_length o inside_own w.room ∙ n_is

  rows_low : (i : ℕ) → i < length (matrix_of o) → get_or (matrix_of o) i 0 < 2 ^ g.n
  rows_low i h = subst (λ (k : ℕ). get_or (matrix_of o) i 0 < 2 ^ k) n_is (matrix_below o inside_own w.room w.form i (omega (arith, matrix_long, n_is)))

  complement_low : o.complement < 2 ^ g.n
  complement_low = subst (λ (k : ℕ). o.complement < 2 ^ k) n_is (complement_below o w.form)

  row_at : (i : ℕ) → i < g.n → get_or o.rows i 0 ≡ get_or (matrix_of o) i 0
  row_at i h = sym (get_or-take o.geometry.n o.rows i 0 (omega (arith, n_is)))

  zero_at : (i : ℕ) → g.n ≤ i → i < ROWS → get_or o.rows i 0 ≡ 0
  zero_at i h l = place_zero o w.form i (omega (arith, n_is)) l

-- two orders of one geometry, each with the whole text
module _ (text : List ℕ) (g : Geometry) (inside : in_limits g ≡ true) (o p : Order) (v : Whole text g o) (w : Whole text g p) where
  rests : row_lines g.n (matrix_of o) ++ line (bits g.n o.complement) ≡ row_lines g.n (matrix_of p) ++ line (bits g.n p.complement)
  rests = (same_parts (first_line g) (first_line g) _ _ refl (sym (text_of o g v.geometry) ∙ sym v.is ∙ w.is ∙ text_of p g w.geometry)).1

  rows_long : length (matrix_of o) ≡ length (matrix_of p)
  rows_long = matrix_long text g inside o v ∙ sym (matrix_long text g inside p w)

  parts : (row_lines g.n (matrix_of o) ≡ row_lines g.n (matrix_of p)) × (line (bits g.n o.complement) ≡ line (bits g.n p.complement))
  parts = same_parts (row_lines g.n (matrix_of o)) (row_lines g.n (matrix_of p)) _ _ (same_length g.n (matrix_of o) (matrix_of p) rows_long) rests

  one_matrix : matrix_of o ≡ matrix_of p
  one_matrix = row_lines_inj g.n (matrix_of o) (matrix_of p) rows_long (rows_low text g inside o v) (rows_low text g inside p w) parts.0

  one_complement : o.complement ≡ p.complement
  one_complement = line_inj g.n o.complement p.complement (complement_low text g inside o v) (complement_low text g inside p w) parts.1

  one_row : (i : ℕ) → i < length o.rows → get_or o.rows i 0 ≡ get_or p.rows i 0
  one_row i h =
      ⊎_elim
      (λ (l : g.n ≤ i). zero_at text g inside o v i l (omega (arith, v.room)) ∙ sym (zero_at text g inside p w i l (omega (arith, v.room))))
      (λ (l : i < g.n). row_at text g inside o v i l ∙ ap (λ (m : List ℕ). get_or m i 0) one_matrix ∙ sym (row_at text g inside p w i l))
      (le_or_lt g.n i)

  pub one_order : o ≡ p
  one_order =
      let geometry = v.geometry ∙ sym w.geometry in
      let rows = ext_get_or 0 o.rows p.rows (v.room ∙ sym w.room) one_row in
      λ i. record { geometry = geometry i; rows = rows i; complement = one_complement i }
