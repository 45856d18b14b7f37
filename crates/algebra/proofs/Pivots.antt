-- What does one more entry change, and why are pivots apart? Assumes nothing.
use mathlib.Core.Path.{◌∙◌, ◌≡◌, ap, ap₂, refl, subst, sym}
use mathlib.Core.List.{List}
use Prim.Native.Nat.{◌<◌, ◌^◌, suc, zero, ℕ}
use native.Mathlib.Nat.{le_refl, le-suc, le_trans, lt_of_lt_of_le, not-suc-le-zero}
use native.Mathlib.Omega.{arith}
use lib.Pow.{pow-lt, pow_mono}
use lib.ListN.{get_or}
use lib.Bits.{bit_xor, xor_lt, xor_self}
use Rattle.algebra.proofs.Basis.{Basis, rest-rest, rest_same, solved, used_below}
use Rattle.algebra.proofs.Digits.{bit-lt, bit_unless, bit-xor, bit-zero, unless_lt, unless_one, unless_zero_lem, xor_cancel_r}
use Rattle.algebra.proofs.Linear.{comb_one, comb-xor}
use Rattle.algebra.proofs.Search.{below_suc}
use Rattle.algebra.specs.Elimination.{rest, used}
use Rattle.algebra.specs.Vector.{bit, comb, unless_zero}

module _ (cols : List ℕ) (j : ℕ) (ws qs ts : List ℕ) (k : ℕ) (b : Basis cols j ws qs ts k)
    (ws' qs' ts' : List ℕ)
    (hw : (i : ℕ) → i < k → get_or ws' i 0 ≡ get_or ws i 0) (hq : (i : ℕ) → i < k → get_or qs' i 0 ≡ get_or qs i 0)
    (ht : (i : ℕ) → i < k → get_or ts' i 0 ≡ get_or ts i 0)
    (nw : get_or ws' k 0 ≡ rest ws qs k (get_or cols j 0))
    (nq : bit (get_or ws' k 0) (get_or qs' k 0) ≡ 1)
    (nt : get_or ts' k 0 ≡ bit_xor (2 ^ j) (used ws qs ts k (get_or cols j 0))) where
  old : (x : ℕ) → rest ws qs k x ≡ 0 → rest ws' qs' (suc k) x ≡ 0
  unfolding rest unless_zero
  old x e =
      ap (λ (u : ℕ). bit_xor u (unless_zero (bit u (get_or qs' k 0)) (get_or ws' k 0))) (rest_same ws qs ws' qs' k x hw hq ∙ e)
      ∙ ap (λ (d : ℕ). unless_zero d (get_or ws' k 0)) (bit-zero (get_or qs' k 0))

  new : (x : ℕ) → rest ws qs k x ≡ get_or ws' k 0 → rest ws' qs' (suc k) x ≡ 0
  unfolding rest unless_zero
  new x e =
      ap (λ (u : ℕ). bit_xor u (unless_zero (bit u (get_or qs' k 0)) (get_or ws' k 0))) (rest_same ws qs ws' qs' k x hw hq ∙ e)
      ∙ ap (λ (d : ℕ). bit_xor (get_or ws' k 0) (unless_zero d (get_or ws' k 0))) nq ∙ xor_self (get_or ws' k 0)

  pub insert : Basis cols (suc j) ws' qs' ts' (suc k)
  insert = record {
    sum = below_suc (λ (i : ℕ). comb cols (get_or ts' i 0) ≡ get_or ws' i 0) k
        (λ i h. ap (comb cols) (ht i h) ∙ b.sum i h ∙ sym (hw i h))
        (ap (comb cols) nt ∙ comb-xor cols (2 ^ j) (used ws qs ts k (get_or cols j 0))
        ∙ ap₂ bit_xor (comb_one cols j ∙ sym (solved cols j ws qs ts k b (get_or cols j 0))) refl
        ∙ xor_cancel_r (rest ws qs k (get_or cols j 0)) (comb cols (used ws qs ts k (get_or cols j 0))) ∙ sym nw);
    tag_lt = below_suc (λ (i : ℕ). get_or ts' i 0 < 2 ^ suc j) k
        (λ i h. subst (λ (t : ℕ). t < 2 ^ suc j) (sym (ht i h)) (lt_of_lt_of_le (b.tag_lt i h) (pow_mono (le-suc j))))
        (subst (λ (t : ℕ). t < 2 ^ suc j) (sym nt)
        (xor_lt (suc j) (2 ^ j) (used ws qs ts k (get_or cols j 0)) (pow-lt (le_refl (suc j)))
        (lt_of_lt_of_le (used_below cols j ws qs ts k b (get_or cols j 0)) (pow_mono (le-suc j)))));
    own = below_suc (λ (i : ℕ). rest ws' qs' (suc k) (get_or ws' i 0) ≡ 0) k
        (λ i h. old (get_or ws' i 0) (ap (rest ws qs k) (hw i h) ∙ b.own i h))
        (new (get_or ws' k 0) (ap (rest ws qs k) nw ∙ rest-rest ws qs k (get_or cols j 0) b.own ∙ sym nw));
    span = below_suc (λ (i : ℕ). rest ws' qs' (suc k) (get_or cols i 0) ≡ 0) j (λ i h. old (get_or cols i 0) (b.span i h)) (new (get_or cols j 0) (sym nw));
  }

-- ---- pivots: each entry has its own bit, and none of the bits of the entries before it
pub record Pivots (ws qs : List ℕ) (k : ℕ) : Type 0 where
  pub on : (i : ℕ) → i < k → bit (get_or ws i 0) (get_or qs i 0) ≡ 1
  pub off : (m i : ℕ) → m < k → i < m → bit (get_or ws m 0) (get_or qs i 0) ≡ 0

fewer : {ws qs : List ℕ} (k : ℕ) → Pivots ws qs (suc k) → Pivots ws qs k
fewer k p = record { on = λ i h. p.on i (le_trans h (le-suc k)); off = λ m i h l. p.off m i (le_trans h (le-suc k)) l }

-- what is reduced has none of the pivots
pub rest_off : (ws qs : List ℕ) (k : ℕ) → Pivots ws qs k → (v i : ℕ) → i < k → bit (rest ws qs k v) (get_or qs i 0) ≡ 0
unfolding rest
rest_off ws qs zero p v = λ i h. absurd (not-suc-le-zero h)
rest_off ws qs (suc k) p v =
    let u = rest ws qs k v in
    let w = get_or ws k 0 in
    let d = bit u (get_or qs k 0) in
    let at : (q : ℕ) → bit (bit_xor u (unless_zero d w)) q ≡ bit_xor (bit u q) (unless_zero d (bit w q)) =
    λ q. bit-xor u (unless_zero d w) q ∙ ap (bit_xor (bit u q)) (bit_unless d w q) in
    below_suc (λ (i : ℕ). bit (bit_xor u (unless_zero d w)) (get_or qs i 0) ≡ 0) k
    (λ i h. at (get_or qs i 0)
    ∙ ap₂ (λ (x y : ℕ). bit_xor x (unless_zero d y)) (rest_off ws qs k (fewer k p) v i h) (p.off k i (le_refl (suc k)) h) ∙ unless_zero_lem d)
    (at (get_or qs k 0) ∙ ap (λ (x : ℕ). bit_xor d (unless_zero d x)) (p.on k (le_refl (suc k)))
    ∙ ap (bit_xor d) (unless_one d (bit-lt u (get_or qs k 0))) ∙ xor_self d)

pub pivots_insert : (ws qs ws' qs' : List ℕ) (k v : ℕ) → Pivots ws qs k
    → ((i : ℕ) → i < k → get_or ws' i 0 ≡ get_or ws i 0) → ((i : ℕ) → i < k → get_or qs' i 0 ≡ get_or qs i 0)
    → get_or ws' k 0 ≡ rest ws qs k v → bit (get_or ws' k 0) (get_or qs' k 0) ≡ 1 → Pivots ws' qs' (suc k)
pivots_insert ws qs ws' qs' k v p hw hq nw nq = record {
  on = below_suc (λ (i : ℕ). bit (get_or ws' i 0) (get_or qs' i 0) ≡ 1) k (λ i h. ap₂ bit (hw i h) (hq i h) ∙ p.on i h) nq;
  off = λ m i h l. below_suc (λ (m : ℕ). (i : ℕ) → i < m → bit (get_or ws' m 0) (get_or qs' i 0) ≡ 0) k
      (λ m h i l. ap₂ bit (hw m h) (hq i (omega arith)) ∙ p.off m i h l)
      (λ i l. ap₂ bit nw (hq i l) ∙ rest_off ws qs k p v i l) m h i l;
}

-- pivots are apart
pub pivots_apart : (ws qs : List ℕ) (k : ℕ) → Pivots ws qs k → (i m : ℕ) → m < k → i < m → get_or qs i 0 ≡ get_or qs m 0 → ⊥
pivots_apart ws qs k p i m h l e =
    let z : ◌≡◌ {A = ℕ} 0 1 = sym (p.off m i h l) ∙ ap (bit (get_or ws m 0)) e ∙ p.on m h in omega arith

pub rest_lt : (n : ℕ) (ws qs : List ℕ) (k v : ℕ) → ((i : ℕ) → i < k → get_or ws i 0 < 2 ^ n) → v < 2 ^ n → rest ws qs k v < 2 ^ n
unfolding rest
rest_lt n ws qs zero v h hv = hv
rest_lt n ws qs (suc k) v h hv =
    xor_lt n (rest ws qs k v) (unless_zero (bit (rest ws qs k v) (get_or qs k 0)) (get_or ws k 0)) (rest_lt n ws qs k v (λ i p. h i (le_trans p (le-suc k))) hv)
    (unless_lt n (bit (rest ws qs k v) (get_or qs k 0)) (get_or ws k 0) (h k (le_refl (suc k))))
