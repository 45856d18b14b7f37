-- Does an order's rest follow the first line? Assumes nothing.
use Rattle.std.specs.Prelude.{Some, None}
use mathlib.Core.Path.{◌≡◌, refl, sym, ap, ◌∙◌}
use mathlib.Core.List.{List, [], ◌++◌, append-nil}
use Prim.Native.Nat.{ℕ, ◌<◌, ◌≤◌}
use native.Mathlib.Omega.{arith}
use lib.ListN.{length, drop, take, length-drop, drop_of_length-le}
use lib.Seq.{length-take-le}
use Rattle.bank.specs.Limits.{ROWS}
use Rattle.bank.specs.declared.Geometry.{Geometry}
use Rattle.algebra.proofs.Lists.{same_parts}
use Rattle.order.specs.declared.Order.{Order}
use Rattle.order.specs.Order.{matrix_of}
use Rattle.order.proofs.Judged.{good_form}
use Rattle.text.specs.Lines.{line, bits, row_lines}
use Rattle.reading.specs.Found.{RowAt, RowsFound, NoRows, RestFound, NoRest}
use Rattle.text.proofs.RowLines.{length-line, same_length}

-- ---- rows and a complement, and then nothing
pub rest_found : (s : List ℕ) (at : ℕ) (g : Geometry) (rows : List ℕ) (e c k : ℕ) → RowsFound s at g.n g.n rows e
    → RowAt s e g.n (Some (c, k)) → length s ≤ k → RestFound s at g (record { geometry = g; rows = rows; complement = c })
rest_found s at g rows e c k found row h =
    record {
      geometry = refl;
      room = found.room;
      form = good_form (record { geometry = g; rows = rows; complement = c }) found.below row.0 (λ i beyond l. found.spare i beyond);
      is = found.is ∙ rw (row.1, drop_of_length-le s h, append-nil (line (bits g.n c)));
    }

-- ---- where one of them is missing, or more follows, no order's rest stands there
module _ (s : List ℕ) (at : ℕ) (g : Geometry) (fits : g.n ≤ ROWS) where
  refusal : ((other : Order) → length (matrix_of other) ≡ g.n → drop at s ≡ row_lines g.n (matrix_of other) ++ line (bits g.n other.complement) → ⊥)
      → NoRest s at g
  refusal f other e room = f other (rw e (length-take-le g.n other.rows (omega arith)))

  pub no_rows : NoRows s at g.n → NoRest s at g
  no_rows none = refusal (λ other. none (matrix_of other) (line (bits g.n other.complement)))

  module _ (rows : List ℕ) (e : ℕ) (found : RowsFound s at g.n g.n rows e) where
    last_line : (other : Order) → length (matrix_of other) ≡ g.n → drop at s ≡ row_lines g.n (matrix_of other) ++ line (bits g.n other.complement)
        → drop e s ≡ line (bits g.n other.complement) ++ []
    last_line other long is =
        (same_parts (row_lines g.n (take g.n rows)) (row_lines g.n (matrix_of other)) (drop e s) (line (bits g.n other.complement))
        (same_length g.n (take g.n rows) (matrix_of other) (length-take-le g.n rows (omega (arith, found.room)) ∙ sym long))
        (sym found.is ∙ is)).1
        ∙ sym (append-nil (line (bits g.n other.complement)))

    pub no_complement : RowAt s e g.n None → NoRest s at g
    no_complement none = refusal (λ other long is. none other.complement [] (last_line other long is))

    pub more_follows : (c k : ℕ) → RowAt s e g.n (Some (c, k)) → k < length s → NoRest s at g
    more_follows c k row h =
        refusal (λ other long is.
        let same = length-line g.n c ∙ sym (length-line g.n other.complement) in
        let nothing : drop k s ≡ [] =
        (same_parts (line (bits g.n c)) (line (bits g.n other.complement)) (drop k s) [] same (sym row.1 ∙ last_line other long is)).1 in
        omega (arith, sym (length-drop k s) ∙ ap length nothing))
