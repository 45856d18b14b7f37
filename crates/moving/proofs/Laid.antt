-- What does a buffer hold after runs of bytes were laid in it, one after the other? Assumes nothing.
use mathlib.Core.Path.{◌≡◌, refl, ap, ◌∙◌}
use mathlib.Core.Logic.{⊎_elim}
use mathlib.Core.List.{List}
use Prim.Native.Nat.{ℕ, ◌+◌, ◌-◌, ◌≤◌, ◌<◌}
use native.Mathlib.Omega.{arith}
use borrow.Author.Tests.{lt-ltb, le-ltb}
use lib.ListN.{length, get_or}
use Rattle.algebra.proofs.Search.{le_or_lt}
use Rattle.moving.proofs.Bytes.{each-each, is_each, length-each}
use Rattle.moving.specs.Laid.{laid, within}

-- ---- a byte, before, in and after a run

module _ (a k i v x : ℕ) where
  pub within_before : i < a → within a k i v x ≡ x
  unfolding within
  within_before h = rw (lt-ltb i a h)

  pub within_in : a ≤ i → i < a + k → within a k i v x ≡ v
  unfolding within
  within_in h l = rw (le-ltb i a h, lt-ltb i (a + k) l)

  pub within-after : a + k ≤ i → within a k i v x ≡ x
  unfolding within
  within-after h = rw (le-ltb i a (omega arith), le-ltb i (a + k) h)

-- what is shown before, in and after the run is shown
pub by_run : (a k i : ℕ) {P : Type 0} → (i < a → P) → (a ≤ i → i < a + k → P) → (a + k ≤ i → P) → P
by_run a k i b n f = ⊎_elim (λ h. ⊎_elim f (n h) (le_or_lt (a + k) i)) b (le_or_lt a i)

-- a run depends on its values inside alone
pub within_ap : (a k n i v w x : ℕ) → k ≡ n → (a ≤ i → i < a + n → v ≡ w) → within a k i v x ≡ within a n i w x
within_ap a k n i v w x e h =
    by_run a n i
    (λ l. simp within_before)
    (λ l m. let m' : i < a + k = omega arith in simp within_in (h l m))
    (λ l. let l' : a + k ≤ i = omega arith in simp within-after)

-- a run after a run is one run
within_join : (a p k i v w x : ℕ) → (a + p ≤ i → i < a + p + k → v ≡ w) → within (a + p) k i v (within a p i w x) ≡ within a (p + k) i w x
within_join a p k i v w x e =
    by_run a (p + k) i
    (λ h. let h' : i < a + p = omega arith in simp within_before)
    (λ h l. by_run (a + p) k i
    (λ l'. simp (within_before (a + p), within_in))
    (λ h' l'. simp within_in (e h' l'))
    (λ h'. omega arith))
    (λ h. let h' : a + p + k ≤ i = omega arith in let h'' : a + p ≤ i = omega arith in simp within-after)

-- ---- runs that are laid one after the other

pub length-laid : (d : List ℕ) (a k : ℕ) (s : List ℕ) (f : ℕ) → length (laid d a k s f) ≡ length d
unfolding laid
length-laid d a k s f = length-each (λ i x. within a k i (get_or s (f + (i - a)) 0) x) d

pub laid_none : (d s : List ℕ) (a f : ℕ) → d ≡ laid d a 0 s f
unfolding laid
laid_none d s a f =
    is_each (λ i x. within a 0 i (get_or s (f + (i - a)) 0) x) d d refl
    (λ i b. by_run a 0 i (λ h. rw within_before) (λ h l. omega arith) (λ h. rw within-after))

-- the next k bytes of the same source. m is what the iterations before left
pub laid_join : (d s m : List ℕ) (a p k f : ℕ) → m ≡ laid d a p s f → laid m (a + p) k s (f + p) ≡ laid d a (p + k) s f
unfolding laid
laid_join d s m a p k f e =
    ap (λ (l : List ℕ). laid l (a + p) k s (f + p)) e
    ∙ each-each (λ i x. within a p i (get_or s (f + (i - a)) 0) x) (λ i x. within (a + p) k i (get_or s (f + p + (i - (a + p))) 0) x)
    (λ i x. within a (p + k) i (get_or s (f + (i - a)) 0) x) d
    (λ i b. within_join a p k i (get_or s (f + p + (i - (a + p))) 0) (get_or s (f + (i - a)) 0) (get_or d i 0)
    (λ h l. ap (λ (j : ℕ). get_or s j 0) (omega arith)))
