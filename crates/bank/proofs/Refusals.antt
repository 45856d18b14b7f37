-- What do the number and the z of a refusal tell? Assumes nothing.
use mathlib.Core.Path.{◌≡◌, refl, sym, ap₂, ◌∙◌}
use mathlib.Core.Bool.{cond}
use Prim.Native.Nat.{ℕ}
use native.Mathlib.Omega.{arith}
use lib.Dec.{eqb}
use Rattle.bank.specs.Refusal.{number_of, z_of}
use Rattle.bank.specs.declared.Address.{Address}
use Rattle.bank.specs.declared.refusal.Refusal.{Refusal}
use Rattle.bank.specs.declared.refusal.Refusal.TheVariants.{Geometry, Form, Singular, Length, Turn, End, Plan, Text, Beyond, Entries, NoOrder}

-- a refusal's number is neither 0 nor 9, with which nothing is refused
neither : (r : Refusal) → (number_of r ≡ 0 → ⊥) × (number_of r ≡ 9 → ⊥)
neither Geometry = (λ e. omega (arith, e), λ e. omega (arith, e))
neither Form = (λ e. omega (arith, e), λ e. omega (arith, e))
neither (Singular z) = (λ e. omega (arith, e), λ e. omega (arith, e))
neither Length = (λ e. omega (arith, e), λ e. omega (arith, e))
neither Turn = (λ e. omega (arith, e), λ e. omega (arith, e))
neither End = (λ e. omega (arith, e), λ e. omega (arith, e))
neither Plan = (λ e. omega (arith, e), λ e. omega (arith, e))
neither Text = (λ e. omega (arith, e), λ e. omega (arith, e))
neither Beyond = (λ e. omega (arith, e), λ e. omega (arith, e))
neither Entries = (λ e. omega (arith, e), λ e. omega (arith, e))
neither NoOrder = (λ e. omega (arith, e), λ e. omega (arith, e))

pub refuses : (r : Refusal) → number_of r ≡ 0 → ⊥
refuses r = (neither r).0

pub never_nine : (r : Refusal) → number_of r ≡ 9 → ⊥
never_nine r = (neither r).1

-- only 3 has a z
pub z_else : (r : Refusal) → (number_of r ≡ 3 → ⊥) → (z_of r).0 ≡ 0
z_else Geometry f = refl
z_else Form f = refl
z_else (Singular z) f = absurd (f refl)
z_else Length f = refl
z_else Turn f = refl
z_else End f = refl
z_else Plan f = refl
z_else Text f = refl
z_else Beyond f = refl
z_else Entries f = refl
z_else NoOrder f = refl

-- ---- a refusal is its number and z, and nothing else
-- the refusal of a number, and of z with 3; any other number is taken for 12
refusal_of : ℕ → Address → Refusal
refusal_of k z =
    cond (eqb k 1) Geometry (cond (eqb k 2) Form (cond (eqb k 3) (Singular z) (cond (eqb k 4) Length (cond (eqb k 5) Turn
    (cond (eqb k 6) End (cond (eqb k 7) Plan (cond (eqb k 8) Text (cond (eqb k 10) Beyond (cond (eqb k 11) Entries NoOrder)))))))))

again : (r : Refusal) → refusal_of (number_of r) (z_of r) ≡ r
unfolding refusal_of
again Geometry = refl
again Form = refl
again (Singular z) = refl
again Length = refl
again Turn = refl
again End = refl
again Plan = refl
again Text = refl
again Beyond = refl
again Entries = refl
again NoOrder = refl

pub one_refusal : (a b : Refusal) → number_of a ≡ number_of b → z_of a ≡ z_of b → a ≡ b
one_refusal a b e f = sym (again a) ∙ ap₂ refusal_of e f ∙ again b
