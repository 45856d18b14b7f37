-- What does a buffer hold after a part of it was lent, and what does a part hold? Assumes nothing.
use mathlib.Core.Path.{◌≡◌, refl, ap, ◌∙◌}
use mathlib.Core.List.{List, ◌++◌}
use Prim.Native.Nat.{ℕ, ◌+◌, ◌-◌, ◌≤◌, ◌<◌}
use native.Mathlib.Nat.{zero-add}
use native.Mathlib.Omega.{arith}
use lib.ListN.{length, get_or, take, drop, length-append, length-drop, get_or-append}
use lib.Seq.{get_or-append-add, length-take-le, get_or-take, get_or-drop}
use Rattle.moving.proofs.Bytes.{each_ext, get_or-each, is_each}
use Rattle.moving.proofs.Laid.{by_run, within-after, within_ap, within_before, within_in}
use Rattle.moving.specs.Bytes.{each}
use Rattle.moving.specs.Laid.{cleared, laid, within}

-- ---- a part that was lent, and came back as ys

module _ (a k : ℕ) (xs ys : List ℕ) (fits : a + k ≤ length xs) (long : length ys ≡ k) where
  abbrev rest : List ℕ
  rest = drop k (drop a xs)

  head_len : length (take a xs) ≡ a
  head_len = length-take-le a xs (omega arith)

  get_or_back : (i : ℕ) → get_or (take a xs ++ (ys ++ rest)) i 0 ≡ within a k i (get_or ys (i - a) 0) (get_or xs i 0)
  get_or_back i =
      by_run a k i
      (λ h. rw within_before (get_or-append (take a xs) (ys ++ rest) 0 i (omega (arith, head_len)) ∙ get_or-take a xs i 0 h))
      (λ h l. rw within_in (past h ∙ get_or-append ys rest 0 (i - a) (omega arith)))
      (λ h. rw within-after
      (past (omega arith)
      ∙ ap (λ (n : ℕ). get_or (ys ++ rest) n 0) (omega arith) ∙ get_or-append-add ys rest (i - (a + k)) 0
      ∙ get_or-drop k (drop a xs) (i - (a + k)) 0 ∙ get_or-drop a xs (k + (i - (a + k))) 0
      ∙ ap (λ (n : ℕ). get_or xs n 0) (omega arith)))
    where
      past : a ≤ i → get_or (take a xs ++ (ys ++ rest)) i 0 ≡ get_or (ys ++ rest) (i - a) 0
      past h = ap (λ (n : ℕ). get_or (take a xs ++ (ys ++ rest)) n 0) (omega (arith, head_len)) ∙ get_or-append-add (take a xs) (ys ++ rest) (i - a) 0

  -- so it is `each f xs`, where f says the same at each index
  pub back_each : (f : ℕ → ℕ → ℕ) → ((i : ℕ) → i < length xs → within a k i (get_or ys (i - a) 0) (get_or xs i 0) ≡ f i (get_or xs i 0))
      → take a xs ++ (ys ++ drop k (drop a xs)) ≡ each f xs
  back_each f h =
      is_each f xs (take a xs ++ (ys ++ rest)) (simp (length-append, length-drop) (omega (arith, head_len))) (λ i b. get_or_back i ∙ h i b)

-- ---- a part that is lent as `&`, from o up to e

abbrev pub part : ℕ → ℕ → List ℕ → List ℕ
part o e s = take (e - o) (drop o s)

pub length_part : (o e : ℕ) (s : List ℕ) → e ≤ length s → length (part o e s) ≡ e - o
length_part o e s h = length-take-le (e - o) (drop o s) (simp length-drop (omega arith))

pub get_d_part : (o e : ℕ) (s : List ℕ) (j : ℕ) → j < e - o → get_or (part o e s) j 0 ≡ get_or s (o + j) 0
get_d_part o e s j h = get_or-take (e - o) (drop o s) j 0 h ∙ get_or-drop o s j 0

-- laid from its start on
pub laid-lent : (d s : List ℕ) (a k f : ℕ) → f + k ≤ length s → laid d a (length (part f (f + k) s)) (part f (f + k) s) 0 ≡ laid d a k s f
unfolding laid
laid-lent d s a k f h =
    let y = part f (f + k) s in
    ap (λ (n : ℕ). laid d a n y 0) (length_part f (f + k) s h ∙ omega arith)
    ∙ each_ext (λ i x. within a k i (get_or y (0 + (i - a)) 0) x) (λ i x. within a k i (get_or s (f + (i - a)) 0) x) d
    (λ i b. within_ap a k k i (get_or y (0 + (i - a)) 0) (get_or s (f + (i - a)) 0) (get_or d i 0) refl
    (λ l m. ap (λ (j : ℕ). get_or y j 0) (zero-add (i - a)) ∙ get_d_part f (f + k) s (i - a) (omega arith)))

-- what is laid from a part that was cleared is zero
pub laid-cleared : (d m : List ℕ) (a k o : ℕ) → o + k ≤ length m → laid d a k (cleared m o k) o ≡ cleared d a k
unfolding laid cleared
laid-cleared d m a k o fits =
    let zero_in : ℕ → ℕ → ℕ = λ i x. within o k i 0 x in
    each_ext (λ i x. within a k i (get_or (each zero_in m) (o + (i - a)) 0) x) (λ i x. within a k i 0 x) d
    (λ i b. within_ap a k k i (get_or (each zero_in m) (o + (i - a)) 0) 0 (get_or d i 0) refl
    (λ l n. get_or-each zero_in m (o + (i - a)) (omega arith)
    ∙ within_in o k (o + (i - a)) 0 (get_or m (o + (i - a)) 0) (omega arith) (omega arith)))
