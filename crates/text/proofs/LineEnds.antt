-- Which line stands before the first LF? Assumes nothing.
use mathlib.Core.Path.{◌≡◌, refl, sym, ◌∙◌}
use mathlib.Core.List.{List, [], ◌∷◌, ◌++◌}
use Prim.Native.Nat.{ℕ, suc, ◌^◌, ◌<◌}
use native.Mathlib.Omega.{arith}
use lib.ListN.{length, get_or}
use lib.Seq.{append_snoc}
use Rattle.text.specs.Lines.{line, decimal}
use Rattle.text.proofs.Decimals.{decimal_digit, decimal_same}

-- no byte ends the line
abbrev pub Unended : List ℕ → Type 0
Unended l = (i : ℕ) → i < length l → get_or l i 0 ≡ 10 → ⊥

-- a text has one first line, and one rest after it
pub same_lines : (xs ys a b : List ℕ) → Unended xs → Unended ys → xs ++ (10 ∷ a) ≡ ys ++ (10 ∷ b) → (xs ≡ ys) × (a ≡ b)
same_lines [] [] a b f g e = (refl, cc)
same_lines [] (y ∷ ys) a b f g e = absurd (g 0 (omega arith) (cc))
same_lines (x ∷ xs) [] a b f g e = absurd (f 0 (omega arith) (cc))
same_lines (x ∷ xs) (y ∷ ys) a b f g e =
    let r = same_lines xs ys a b (λ i h. f (suc i) (omega arith)) (λ i h. g (suc i) (omega arith)) (cc) in
    (cc r.0, r.1)

-- ---- lines of decimals
pub decimal_unended : (v : ℕ) → v < 2 ^ 64 → Unended (decimal v)
decimal_unended v h i l e = omega (arith, decimal_digit v i h l)

pub same_decimals : (v w : ℕ) (a b : List ℕ) → v < 2 ^ 64 → w < 2 ^ 64 → line (decimal v) ++ a ≡ line (decimal w) ++ b → (v ≡ w) × (a ≡ b)
same_decimals v w a b h i e =
    let flat = sym (append_snoc (decimal v) 10 a) ∙ e ∙ append_snoc (decimal w) 10 b in
    let r = same_lines (decimal v) (decimal w) a b (decimal_unended v h) (decimal_unended w i) flat in
    (decimal_same v w h i r.0, r.1)
