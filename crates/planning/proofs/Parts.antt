-- What are the parts φ and δ of a product? Assumes nothing.
use mathlib.Core.Path.{◌∙◌, ◌≡◌, ap, ap₂, sym}
use mathlib.Core.List.{List}
use Prim.Native.Nat.{◌%◌, ◌*◌, ◌/◌, ◌<◌, ◌^◌, ℕ}
use native.Mathlib.Nat.{mod-lt}
use lib.Pow.{pow-lt, pow_pos}
use lib.ListN.{drop, get_or, take}
use lib.Bits.{bit_xor, xor_shr}
use Rattle.algebra.proofs.Digits.{parts_xor}
use Rattle.algebra.proofs.Linear.{comb-drop, comb_one, comb-take, comb-xor, linear_comb, lower_linear}
use Rattle.algebra.specs.Vector.{comb}
use Rattle.planning.specs.Columns.{delta, phi, zero_column}
use mathlib.Core.Bool.{true}
use borrow.Author.Tests.{eqb-true}

pub phi-comb : (m : ℕ) (cols : List ℕ) (s : ℕ) → s < 2 ^ m → comb (phi m cols) s ≡ comb cols s / 2 ^ m
unfolding phi
phi-comb m cols s h = sym (linear_comb (λ v. v / 2 ^ m) (lower_linear m) (take m cols) s) ∙ ap (λ (k : ℕ). k / 2 ^ m) (comb-take m cols s h)

pub delta-comb : (m : ℕ) (cols : List ℕ) (t : ℕ) → comb (delta m cols) t ≡ comb cols (t * 2 ^ m) / 2 ^ m
unfolding delta
delta-comb m cols t = sym (linear_comb (λ v. v / 2 ^ m) (lower_linear m) (drop m cols) t) ∙ ap (λ (k : ℕ). k / 2 ^ m) (comb-drop m cols t)

pub phi_at : (m : ℕ) (cols : List ℕ) (j : ℕ) → j < m → get_or (phi m cols) j 0 ≡ comb cols (2 ^ j) / 2 ^ m
phi_at m cols j h = sym (comb_one (phi m cols) j) ∙ phi-comb m cols (2 ^ j) (pow-lt h)

pub lower_parts : (m : ℕ) (cols : List ℕ) (x : ℕ) → comb cols x / 2 ^ m ≡ bit_xor (comb (phi m cols) (x % 2 ^ m)) (comb (delta m cols) (x / 2 ^ m))
lower_parts m cols x =
    ap (λ (k : ℕ). comb cols k / 2 ^ m) (sym (parts_xor m x)) ∙ ap (λ (k : ℕ). k / 2 ^ m) (comb-xor cols (x % 2 ^ m) (x / 2 ^ m * 2 ^ m))
    ∙ xor_shr (comb cols (x % 2 ^ m)) (comb cols (x / 2 ^ m * 2 ^ m)) m
    ∙ sym (ap₂ bit_xor (phi-comb m cols (x % 2 ^ m) (mod-lt x (pow_pos m))) (delta-comb m cols (x / 2 ^ m)))

pub zero_there : (part : List ℕ) (j : ℕ) → zero_column part j ≡ true → get_or part j 0 ≡ 0
unfolding zero_column
zero_there part j e = eqb-true (get_or part j 0) 0 e
