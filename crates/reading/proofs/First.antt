-- Are the first TEXT bytes of an input read as the whole input is? Assumes nothing.
use mathlib.Core.Path.{◌≡◌, sym, ap, ◌∙◌, subst}
use mathlib.Core.Bool.{true}
use mathlib.Core.Logic.{⊎_elim}
use mathlib.Core.List.{List, ◌++◌, append_assoc}
use Prim.Native.Nat.{ℕ, ◌+◌, ◌-◌, ◌*◌, ◌<◌, ◌≤◌}
use native.Mathlib.Omega.{arith}
use native.Mathlib.Nat.{suc-mul}
use native.Mathlib.Numerals.{add-one}
use lib.ListN.{length, take, drop, length-append, take-append-drop}
use lib.Seq.{length-take-le, take_all, take-append-add}
use Rattle.bank.specs.Geometry.{in_limits}
use Rattle.bank.specs.declared.Geometry.{Geometry}
use Rattle.bank.proofs.Limits.{n_room, square_small}
use Rattle.algebra.proofs.Search.{le_or_lt}
use Rattle.order.specs.declared.Order.{Order}
use Rattle.order.specs.Order.{matrix_of, z_with}
use Rattle.text.specs.Lines.{line, decimal, bits, row_lines}
use Rattle.text.proofs.Decimals.{decimal_short}
use Rattle.text.proofs.RowLines.{length-line, length_row_lines}
use Rattle.reading.specs.OrderText.{first_line, TEXT}
use Rattle.reading.specs.Reading.{Begins, Whole, Reads, no_order, no_first_line, outside, no_rest, singular, taken}
use Rattle.reading.proofs.Joined.{text_of}
use Rattle.reading.proofs.OneText.{begins_within, matrix_long}

-- ---- the first line
three_digits : (v : ℕ) → v < 1000 → length (decimal v) ≤ 3
three_digits v h = decimal_short 2 v (omega arith) (omega arith)

module _ (text : List ℕ) (g : Geometry) (b : Begins text g) where
  first_line_short : length (first_line g) ≤ 20
  unfolding first_line
  first_line_short =
      simp length-append
      (omega (
        arith,
        three_digits g.n b.n_short,
        three_digits g.b b.b_short,
        three_digits g.d b.d_short,
        three_digits g.m b.m_short,
        three_digits g.r b.r_short,
      ))

  begins_too : (other rest : List ℕ) → other ≡ first_line g ++ rest → Begins other g
  begins_too other rest e =
      record { n_short = b.n_short; b_short = b.b_short; d_short = b.d_short; m_short = b.m_short; r_short = b.r_short; rest = rest; is = e }

  begins_first : Begins (take TEXT text) g
  begins_first =
      let k = TEXT - length (first_line g) in
      let e : TEXT ≡ length (first_line g) + k = omega (arith, first_line_short) in
      begins_too (take TEXT text) (take k b.rest)
      (ap (take TEXT) b.is ∙ ap (λ (j : ℕ). take j (first_line g ++ b.rest)) e ∙ take-append-add (first_line g) b.rest k)

-- ---- the whole text
whole_short : (text : List ℕ) (g : Geometry) → in_limits g ≡ true → (order : Order) → Whole text g order → length text < TEXT
whole_short text g inside order w =
    let n = g.n in
    let rows = row_lines n (matrix_of order) in
    let last = line (bits n order.complement) in
    let is : text ≡ first_line g ++ (rows ++ last) = w.is ∙ text_of order g w.geometry in
    let long : length text ≡ length (first_line g) + (length rows + length last) = ap length is ∙ simp length-append in
    let square : length rows ≡ n * (n + 1) = length_row_lines n (matrix_of order) ∙ ap (λ (k : ℕ). k * (n + 1)) (matrix_long text g inside order w) in
    omega (
      arith,
      long,
      square,
      length-line n order.complement,
      first_line_short text g (begins_within text g (rows ++ last) inside is),
      square_small n (n_room g inside),
      rw (← add-one n) at (suc-mul n (n + 1)),
    )

-- ---- the input
take_short : (n : ℕ) (l : List ℕ) → length (take n l) < n → take n l ≡ l
take_short n l h =
    ⊎_elim (λ (g : n ≤ length l). absurd (omega (arith, length-take-le n l g))) (λ (g : length l < n). take_all n l (omega arith)) (le_or_lt n (length l))

module _ (input : List ℕ) where
  begins_input : (g : Geometry) → Begins (take TEXT input) g → Begins input g
  begins_input g b =
      begins_too (take TEXT input) g b input (b.rest ++ drop TEXT input)
      (sym (take-append-drop TEXT input) ∙ ap (λ (l : List ℕ). l ++ drop TEXT input) b.is ∙ append_assoc (first_line g) b.rest (drop TEXT input))

  -- an order's text among the first bytes is all there is
  all_there : (g : Geometry) → in_limits g ≡ true → (order : Order) → Whole (take TEXT input) g order → take TEXT input ≡ input
  all_there g inside order w = take_short TEXT input (whole_short (take TEXT input) g inside order w)

  -- and an order's text is among the first bytes
  whole_first : (g : Geometry) → in_limits g ≡ true → (order : Order) → Whole input g order → Whole (take TEXT input) g order
  whole_first g inside order w =
      subst (λ (l : List ℕ). Whole l g order) (sym (take_all TEXT input (omega (arith, whole_short input g inside order w)))) w

pub read_first : (input : List ℕ) (k : ℕ) (order : Order) (z : ℕ) → Reads (take TEXT input) k order z → Reads input k order z
read_first input k order z (no_first_line f) = no_first_line (λ g b. f g (begins_first input g b))
read_first input k order z (outside g b i) = outside g (begins_input input g b) i
read_first input k order z (no_rest g b i f) = no_rest g (begins_input input g b) i (λ o w. f o (whole_first input g i o w))
read_first input k order z (singular g o b i w j) =
    subst (λ (l : List ℕ). Reads l 3 no_order (z_with 3 o)) (all_there input g i o w) (singular g o b i w j)
read_first input k order z (taken g o b i w j) = subst (λ (l : List ℕ). Reads l 0 o 0) (all_there input g i o w) (taken g o b i w j)
