-- `matrix::rows::apply` meets its contract. The loop's invariant: y is what the rows that it has passed, the last ones, send x to. Assumes nothing.
use mathlib.Core.Path.{◌∙◌, ◌≡◌, ap, ap₂, refl, sym}
use mathlib.Core.List.{List, [], ◌++◌, ◌∷◌}
use Prim.Native.Nat.{◌*◌, ◌+◌, ◌-◌, ◌<◌, ◌^◌, ◌≤◌, ℕ}
use native.Mathlib.Nat.{lt_of_lt_of_le}
use native.Mathlib.Omega.{arith}
use lib.ListN.{length, length-append}
use lib.Pow.{pow_mono}
use lib.Seq.{append_snoc}
use Rattle.std.proofs.lemmas.Grind.{common_steps}
use Rattle.std.proofs.lemmas.List.{append-nil}
use Rattle.algebra.specs.Matrix.{applied}
use Rattle.algebra.specs.Vector.{WORD}
use Rattle.algebra.proofs.Digits.{parity-lt}
use Rattle.algebra.proofs.Linear.{apply_lt}
use Rattle.matrix.proofs.rows.apply.Goals as goal

-- the rest of the rows ends with the one that comes next
module _ (rows rest ahead passed : List ℕ) (row : ℕ) (whole : rows ≡ rest ++ passed) (step : rest ≡ ahead ++ row ∷ []) where
  one_more : rows ≡ ahead ++ row ∷ passed
  one_more = whole ∙ ap (λ (l : List ℕ). l ++ passed) step ∙ append_snoc ahead row passed

  -- so there is room for one more bit
  room : (x : ℕ) → length rows ≤ WORD → applied passed x < 2 ^ (WORD - 1)
  room x h =
      let few : length passed ≤ WORD - 1 = omega (arith, simp length-append at (ap length one_more)) in
      lt_of_lt_of_le (apply_lt passed x) (pow_mono few)

pub loop-row-init : goal.loop-row-init
unfolding applied
loop-row-init c =
    let all : c.into_iter-row-iterator.result.iter.rest.now ≡ c.args.rows.now = grind (arith, common_steps) in
    ([], sym (append-nil _ ∙ all), refl)

pub overflow_mul-y : goal.overflow_mul-y
overflow_mul-y c =
    let l = c.loop-row in
    omega (arith, room _ _ _ _ _ l.invariant.1 c.in-Some.ensures.steps c.args.x c.requires, l.invariant.2)

pub overflow_add-y : goal.overflow_add-y
overflow_add-y c =
    let l = c.loop-row in
    let digit : c.parity.result < 2 = rw c.parity.ensures (parity-lt _) in
    omega (arith, room _ _ _ _ _ l.invariant.1 c.in-Some.ensures.steps c.args.x c.requires, l.invariant.2)

pub loop-row-preserved : goal.loop-row-preserved
unfolding applied
loop-row-preserved c =
    let l = c.loop-row in
    (_, one_more _ _ _ _ _ l.invariant.1 c.in-Some.ensures.steps, ap₂ (λ (u v : ℕ). u * 2 + v) l.invariant.2 c.parity.ensures)
