-- Which orders leave every record where it is, and which passes has an order? Assumes nothing.
use mathlib.Core.Path.{◌∙◌, ◌≡◌, ap, ap₂, refl, sym}
use mathlib.Core.Bool.{Bool, ◌&&◌, cond, false, true, true≢false}
use mathlib.Core.List.{List, []}
use mathlib.Core.Logic.{◌⊎◌, inl, inr}
use Prim.Native.Nat.{◌<◌, ◌^◌, ℕ}
use lib.Bits.{bit_xor, xor_zero_r}
use lib.Dec.{eqb}
use lib.ListN.{get_or, length}
use lib.Pow.{pow-lt, pow_pos}
use borrow.Author.Tests.{eq-eqb, eqb-true}
use Rattle.bank.specs.declared.Geometry.{Geometry}
use Rattle.algebra.proofs.Columns.{apply_identity, each_row, identity_at, identity-length, identity_rows}
use Rattle.algebra.proofs.Linear.{apply_zero, comb-identity}
use Rattle.algebra.proofs.Search.{and_both, and_l, and_r}
use Rattle.algebra.specs.Matrix.{applied, identity, is_identity, target}
use Rattle.planning.proofs.Run.{rows_back}
use Rattle.planning.specs.Making.{Still, passes_for, passes_made}
use Rattle.planning.specs.Pass.{Pass}

-- ---- an order that leaves every record where it is sends every address to itself ..
pub still_target : (n : ℕ) (rows : List ℕ) (c : ℕ) → Still n rows c → (x : ℕ) → x < 2 ^ n → target rows c x ≡ x
unfolding target
still_target n rows c s x h = ap₂ (λ (l : List ℕ) (k : ℕ). bit_xor (applied l x) k) s.0 s.1 ∙ xor_zero_r (applied (identity n) x) ∙ apply_identity n x h

-- .. and no other does
module _ (n : ℕ) (rows : List ℕ) (c : ℕ) (long : length rows ≡ n) (below : (i : ℕ) → i < n → get_or rows i 0 < 2 ^ n)
    (stays : (x : ℕ) → x < 2 ^ n → target rows c x ≡ x) where
  no_complement : c ≡ 0
  unfolding target
  no_complement = sym (ap (λ (k : ℕ). bit_xor k c) (apply_zero rows)) ∙ stays 0 (pow_pos n)

  applied_stays : (x : ℕ) → x < 2 ^ n → applied rows x ≡ x
  unfolding target
  applied_stays x h = sym (ap (bit_xor (applied rows x)) no_complement ∙ xor_zero_r (applied rows x)) ∙ stays x h

  pub target_still : Still n rows c
  target_still = (
    sym (rows_back n rows (identity n) long below (identity-length n) (λ j h. comb-identity n (2 ^ j) (pow-lt h) ∙ sym (applied_stays (2 ^ j) (pow-lt h))))
        ∙ rows_back n (identity n) (identity n) (identity-length n) (λ i h. rw (identity_at n i h) (pow-lt h)) (identity-length n)
        (λ j h. comb-identity n (2 ^ j) (pow-lt h) ∙ sym (apply_identity n (2 ^ j) (pow-lt h))),
    no_complement,
  )

-- ---- the passes of an order
module _ (g : Geometry) (rows : List ℕ) (c : ℕ) (long : length rows ≡ g.n) where
  -- the test is that for such an order
  test→still : is_identity g.n rows && eqb c 0 ≡ true → Still g.n rows c
  test→still e =
      (identity_rows g.n rows long (and_l (is_identity g.n rows) (eqb c 0) e), eqb-true c 0 (and_r (is_identity g.n rows) (eqb c 0) e))

  still→test : Still g.n rows c → is_identity g.n rows && eqb c 0 ≡ true
  still→test s =
      and_both (is_identity g.n rows) (eqb c 0)
      (each_row g.n rows (λ i h. ap (λ (l : List ℕ). get_or l i 0) s.0 ∙ identity_at g.n i h)) (eq-eqb c 0 s.1)

  -- what holds of no pass for such an order, and of the passes made for another, holds of the order's passes
  pub by_passes : (Q : List Pass → Type 0) → (Still g.n rows c → Q []) → ((Still g.n rows c → ⊥) → Q (passes_made g rows c)) → Q (passes_for g rows c)
  unfolding passes_for
  by_passes Q f h = go (is_identity g.n rows && eqb c 0) refl
    where
      go : (t : Bool) → is_identity g.n rows && eqb c 0 ≡ t → Q (cond t [] (passes_made g rows c))
      go true e = f (test→still e)
      go false e = h (λ s. true≢false (sym (still→test s) ∙ e))

  pub still_or : Still g.n rows c ⊎ (Still g.n rows c → ⊥)
  still_or = by_passes (λ ps. Still g.n rows c ⊎ (Still g.n rows c → ⊥)) inl inr

  pub still_passes : Still g.n rows c → passes_for g rows c ≡ []
  still_passes s = by_passes (λ ps. ps ≡ []) (λ s. refl) (λ f. absurd (f s))

  pub other_passes : (Still g.n rows c → ⊥) → passes_for g rows c ≡ passes_made g rows c
  other_passes f = by_passes (λ ps. ps ≡ passes_made g rows c) (λ s. absurd (f s)) (λ f. refl)
