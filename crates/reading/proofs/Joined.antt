-- Which reading follows from a first line and a rest? Assumes nothing.
use Rattle.std.specs.Prelude.{Some, None}
use mathlib.Core.Path.{◌≡◌, refl, sym, ap, subst, ◌∙◌}
use mathlib.Core.Bool.{true, false}
use mathlib.Core.List.{List, ◌++◌}
use Prim.Native.Nat.{ℕ}
use native.Mathlib.Omega.{arith}
use lib.ListN.{drop, take}
use Rattle.bank.specs.Geometry.{in_limits}
use Rattle.bank.specs.declared.Geometry.{Geometry}
use Rattle.algebra.specs.Matrix.{kernel}
use Rattle.algebra.proofs.Lists.{same_parts}
use Rattle.algebra.proofs.Singular.{kernel_regular, kernel-singular}
use Rattle.order.specs.declared.Order.{Order}
use Rattle.order.specs.Order.{matrix_of, z_with}
use Rattle.order.proofs.Judged.{singular_three, regular_none, z_three}
use Rattle.text.specs.Lines.{line, bits, row_lines}
use Rattle.reading.specs.OrderText.{first_line, order_text}
use Rattle.reading.specs.Reading.{Whole, Reads, no_order, no_first_line, outside, no_rest, singular as singular-read, taken}
use Rattle.reading.specs.Parsing.{first_line_at}
use Rattle.reading.specs.Found.{RestFound, NoRest}
use Rattle.reading.proofs.FirstLine.{FirstAt, first_line_forth, first_line_back}

-- the text of an order, from its geometry on
pub text_of : (order : Order) (g : Geometry) → order.geometry ≡ g
    → order_text order ≡ first_line g ++ (row_lines g.n (matrix_of order) ++ line (bits g.n order.complement))
unfolding order_text
text_of order g e = ap (λ (x : Geometry). first_line x ++ (row_lines x.n (matrix_of order) ++ line (bits x.n order.complement))) e

module _ (text : List ℕ) where
  pub reads_no_first_line : first_line_at text ≡ None → Reads text 8 no_order 0
  reads_no_first_line e = no_first_line (λ g b. let r = first_line_forth text g b in let y : ◌≡◌ {A = ℕ} 0 1 = cc r.1 in omega arith)

  module _ (g : Geometry) (e : ℕ) (Line-read : first_line_at text ≡ Some (g, e)) where
    first : FirstAt text g e
    first = first_line_back text g e Line-read

    pub reads_outside : in_limits g ≡ false → Reads text 1 no_order 0
    reads_outside out = outside g first.begins out

    module _ (inside : in_limits g ≡ true) where
      -- the rest of a whole text stands after the first line
      rest_there : (other : Order) → Whole text g other → drop e text ≡ row_lines g.n (matrix_of other) ++ line (bits g.n other.complement)
      rest_there other w = (same_parts (first_line g) (first_line g) (drop e text) _ refl (sym first.is ∙ w.is ∙ text_of other g w.geometry)).1

      pub reads_no_rest : NoRest text e g → Reads text 8 no_order 0
      reads_no_rest none = no_rest g first.begins inside (λ other w. none other w.geometry w.room (rest_there other w))

      module _ (order : Order) (r : RestFound text e g order) where
        -- the rest of an order, after the first line: the whole text
        whole : Whole text g order
        whole =
            record {
              geometry = r.geometry;
              room = r.room;
              form = r.form;
              is = first.is ∙ ap (λ (l : List ℕ). first_line g ++ l) r.is ∙ sym (text_of order g r.geometry);
            }

        inside_read : in_limits order.geometry ≡ true
        inside_read = ap in_limits r.geometry ∙ inside

        -- z is the least vector that A sends to zero
        pub reads_singular : (z : ℕ) → z ≡ kernel g.n (take g.n order.rows) → (z ≡ 0 → ⊥) → Reads text 3 no_order z
        reads_singular z is f =
            let s = kernel-singular g.n (take g.n order.rows) (λ e. f (is ∙ e)) in
            let this : z_with 3 order ≡ z = z_three order refl ∙ ap (λ (x : Geometry). kernel x.n (take x.n order.rows)) r.geometry ∙ sym is in
            subst (Reads text 3 no_order) this
            (singular-read g order first.begins inside whole (singular_three order inside_read r.form (rw r.geometry s)))

        pub reads_taken : kernel g.n (take g.n order.rows) ≡ 0 → Reads text 0 order 0
        reads_taken e =
            let s = kernel_regular g.n (take g.n order.rows) e in
            taken g order first.begins inside whole (regular_none order inside_read r.form (rw r.geometry s))
