-- What do some of the rows of a matrix do? Assumes nothing.
use mathlib.Core.Path.{◌∙◌, ◌≡◌, ap, ap₂, sym}
use mathlib.Core.Bool.{false, true≢false}
use mathlib.Core.Logic.{⊎_elim}
use mathlib.Core.List.{List, [], ◌∷◌}
use Prim.Native.Nat.{◌%◌, ◌*◌, ◌+◌, ◌-◌, ◌/◌, ◌<◌, ◌^◌, suc, zero, ℕ}
use native.Mathlib.Nat.{div-one, mod-one, zero-div, zero-mod}
use native.Mathlib.Numerals.{add-one, one-add}
use lib.Arith.{digits_div, digits_mod}
use lib.Pow.{mod-pow-add, shr-shr}
use lib.ListN.{drop, take}
use lib.Bits.{bit_and}
use Rattle.algebra.proofs.Digits.{parity-lt}
use Rattle.algebra.proofs.Search.{same_or}
use Rattle.algebra.proofs.Spill.{Through, spill_witness, through→no_spill}
use Rattle.algebra.specs.Matrix.{applied, spills}
use Rattle.algebra.specs.Vector.{parity}

-- the rows from b on: the bits from b on
pub apply_drop : (rows : List ℕ) (b x : ℕ) → applied (drop b rows) x ≡ applied rows x / 2 ^ b
unfolding applied
apply_drop rows zero x = sym (div-one (applied rows x))
apply_drop [] (suc b) x = sym (zero-div (2 ^ suc b))
apply_drop (r ∷ rs) (suc b) x =
    apply_drop rs b x ∙ ap (λ (k : ℕ). k / 2 ^ b) (sym (digits_div (applied rs x) (parity-lt (bit_and r x))))
    ∙ shr-shr (applied rs x * 2 + parity (bit_and r x)) 1 b ∙ ap (λ (k : ℕ). (applied rs x * 2 + parity (bit_and r x)) / 2 ^ k) (one-add b)

-- the first k rows: the low k bits
pub apply_take : (rows : List ℕ) (k x : ℕ) → applied (take k rows) x ≡ applied rows x % 2 ^ k
unfolding applied
apply_take rows zero x = sym (mod-one (applied rows x))
apply_take [] (suc k) x = sym (zero-mod (2 ^ suc k))
apply_take (r ∷ rs) (suc k) x =
    ap (λ (u : ℕ). u * 2 + parity (bit_and r x)) (apply_take rs k x)
    ∙ sym (ap (λ (j : ℕ). (applied rs x * 2 + parity (bit_and r x)) % 2 ^ j) (sym (add-one k))
    ∙ mod-pow-add (applied rs x * 2 + parity (bit_and r x)) k 1
    ∙ ap₂ (λ (u v : ℕ). u % 2 ^ k * 2 + v) (digits_div (applied rs x) (parity-lt (bit_and r x))) (digits_mod (applied rs x) (parity-lt (bit_and r x))))

-- bits b..m-1 of A z
middle_is : (b m : ℕ) (rows : List ℕ) (z : ℕ) → applied (take (m - b) (drop b rows)) z ≡ applied rows z / 2 ^ b % 2 ^ (m - b)
middle_is b m rows z = apply_take (drop b rows) (m - b) z ∙ ap (λ (k : ℕ). k % 2 ^ (m - b)) (apply_drop rows b z)

pub dry_by_bits : (b m : ℕ) (rows : List ℕ)
    → ((z : ℕ) → z < 2 ^ m → applied rows z / 2 ^ b % 2 ^ (m - b) ≡ 0 → applied rows z / 2 ^ m ≡ 0) → spills b m rows ≡ false
unfolding Through
dry_by_bits b m rows f = through→no_spill b m rows (λ z h e. apply_drop rows m z ∙ f z h (sym (middle_is b m rows z) ∙ e))

-- the meaning of "does not spill", in numbers
pub dry_means : (b m : ℕ) (rows : List ℕ) → spills b m rows ≡ false
    → (z : ℕ) → z < 2 ^ m → applied rows z / 2 ^ b % 2 ^ (m - b) ≡ 0 → applied rows z / 2 ^ m ≡ 0
dry_means b m rows dry z h e =
    ⊎_elim (λ q. q)
    (λ q. absurd (true≢false (sym (spill_witness b m rows z h (middle_is b m rows z ∙ e) (λ r. q (sym (apply_drop rows m z) ∙ r))) ∙ dry)))
    (same_or (applied rows z / 2 ^ m) 0)
