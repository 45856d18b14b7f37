-- What are the bytes and records of a buffer after a move? Assumes nothing.
use mathlib.Core.Path.{◌∙◌, ◌≡◌, ap, refl, subst, sym}
use mathlib.Core.Logic.{⊎_elim}
use mathlib.Core.Bool.{Bool, ◌||◌, cond, false, true}
use mathlib.Core.List.{List, [], ◌∷◌}
use Prim.Native.Nat.{◌%◌, ◌*◌, ◌+◌, ◌/◌, ◌<◌, ◌≤◌, suc, zero, ℕ}
use native.Mathlib.Nat.{le_of_suc-le-suc, not-suc-le-zero, zero-add}
use native.Mathlib.Omega.{arith}
use lib.ListN.{get_or-eq_default, drop, get_or, length, length-drop, length-take}
use lib.Seq.{ext_get_or, get_or-drop, get_or-take}
use Rattle.algebra.proofs.Digits.{share}
use Rattle.algebra.proofs.Search.{le_or_lt}
use Rattle.moving.specs.Bytes.{copied, each, each_from, record_of, zeroed}

-- ---- each

length_from : (f : ℕ → ℕ → ℕ) (k : ℕ) (l : List ℕ) → length (each_from f k l) ≡ length l
unfolding each_from
length_from f k [] = refl
length_from f k (x ∷ xs) = ap suc (length_from f (suc k) xs)

pub length-each : (f : ℕ → ℕ → ℕ) (l : List ℕ) → length (each f l) ≡ length l
unfolding each
length-each f l = length_from f zero l

get_or_from : (f : ℕ → ℕ → ℕ) (k : ℕ) (l : List ℕ) (i : ℕ) → i < length l → get_or (each_from f k l) i 0 ≡ f (k + i) (get_or l i 0)
unfolding each_from
get_or_from f k [] i h = absurd (not-suc-le-zero h)
get_or_from f k (x ∷ xs) zero h = ap (λ (n : ℕ). f n x) (omega arith)
get_or_from f k (x ∷ xs) (suc i) h =
    get_or_from f (suc k) xs i (le_of_suc-le-suc h) ∙ ap (λ (n : ℕ). f n (get_or xs i 0)) (omega arith)

pub get_or-each : (f : ℕ → ℕ → ℕ) (l : List ℕ) (i : ℕ) → i < length l → get_or (each f l) i 0 ≡ f i (get_or l i 0)
unfolding each
get_or-each f l i h = get_or_from f zero l i h ∙ ap (λ (n : ℕ). f n (get_or l i 0)) (zero-add i)

-- a list is `each f l` where it is as long and each entry is what f says
pub is_each : (f : ℕ → ℕ → ℕ) (l m : List ℕ) → length m ≡ length l → ((i : ℕ) → i < length l → get_or m i 0 ≡ f i (get_or l i 0)) → m ≡ each f l
is_each f l m e h =
    ext_get_or 0 m (each f l) (e ∙ sym (length-each f l))
    (λ i b. h i (subst (λ (n : ℕ). i < n) e b) ∙ sym (get_or-each f l i (subst (λ (n : ℕ). i < n) e b)))

pub each-each : (f g h : ℕ → ℕ → ℕ) (l : List ℕ) → ((i : ℕ) → i < length l → g i (f i (get_or l i 0)) ≡ h i (get_or l i 0)) → each g (each f l) ≡ each h l
each-each f g h l e =
    is_each h l (each g (each f l)) (length-each g (each f l) ∙ length-each f l)
    (λ i b. get_or-each g (each f l) i (omega (arith, length-each f l)) ∙ ap (g i) (get_or-each f l i b) ∙ e i b)

pub each_ext : (f g : ℕ → ℕ → ℕ) (l : List ℕ) → ((i : ℕ) → i < length l → f i (get_or l i 0) ≡ g i (get_or l i 0)) → each f l ≡ each g l
each_ext f g l h = is_each g l (each f l) (length-each f l) (λ i b. get_or-each f l i b ∙ h i b)

-- ---- copied

module _ (from : ℕ → ℕ) (r : ℕ) (src dst : List ℕ) where
  -- byte i, which is x before
  abbrev byte_by : (ℕ → Bool) → ℕ → ℕ → ℕ
  byte_by chosen i x = cond (chosen (i / r)) (get_or src (from (i / r) * r + i % r) 0) x

  -- what is chosen counts, and not how
  pub copied_ext : (c k : ℕ → Bool) → ((y : ℕ) → c y ≡ k y) → copied c from r src dst ≡ copied k from r src dst
  unfolding copied
  copied_ext c k e = each_ext (byte_by c) (byte_by k) dst (λ i b. rw (e (i / r)))

  pub copied_none : (c : ℕ → Bool) → ((y : ℕ) → c y ≡ false) → dst ≡ copied c from r src dst
  unfolding copied
  copied_none c e = is_each (byte_by c) dst dst refl (λ i b. rw (e (i / r)))

module _ (chosen : ℕ → Bool) (from : ℕ → ℕ) (r : ℕ) (src dst : List ℕ) where
  abbrev byte_of : ℕ → ℕ → ℕ
  byte_of = byte_by from r src dst chosen

  pub length-copied : length (copied chosen from r src dst) ≡ length dst
  unfolding copied
  length-copied = length-each byte_of dst

  module _ (i : ℕ) (h : i < length dst) where
    pub get_or-copied : get_or (copied chosen from r src dst) i 0 ≡ cond (chosen (i / r)) (get_or src (from (i / r) * r + i % r) 0) (get_or dst i 0)
    unfolding copied
    get_or-copied = get_or-each byte_of dst i h

    pub get_or-chosen : chosen (i / r) ≡ true → get_or (copied chosen from r src dst) i 0 ≡ get_or src (from (i / r) * r + i % r) 0
    get_or-chosen e = rw e at get_or-copied

    pub get_or_left : chosen (i / r) ≡ false → get_or (copied chosen from r src dst) i 0 ≡ get_or dst i 0
    get_or_left e = rw e at get_or-copied

  -- a move done again changes nothing more
  pub copied-again : copied chosen from r src (copied chosen from r src dst) ≡ copied chosen from r src dst
  unfolding copied
  copied-again = each-each byte_of byte_of byte_of dst (λ i b. twice (chosen (i / r)) (get_or src (from (i / r) * r + i % r) 0) (get_or dst i 0))
    where
      twice : (t : Bool) (w x : ℕ) → cond t w (cond t w x) ≡ cond t w x
      twice true w x = refl
      twice false w x = refl

-- zero bytes are those of a buffer that holds none
pub zeroed-copied : (chosen : ℕ → Bool) (from : ℕ → ℕ) (r : ℕ) (dst : List ℕ) → zeroed chosen r dst ≡ copied chosen from r [] dst
unfolding zeroed copied
zeroed-copied chosen from r dst = refl

module _ (chosen : ℕ → Bool) (r : ℕ) (dst : List ℕ) where
  pub length-zeroed : length (zeroed chosen r dst) ≡ length dst
  unfolding zeroed
  length-zeroed = length-each (λ i x. cond (chosen (i / r)) 0 x) dst

  pub zeroed-again : zeroed chosen r (zeroed chosen r dst) ≡ zeroed chosen r dst
  unfolding zeroed copied
  zeroed-again = copied-again chosen (λ y. y) r [] dst

  module _ (i : ℕ) (h : i < length dst) where
    pub get_or-zeroed : get_or (zeroed chosen r dst) i 0 ≡ cond (chosen (i / r)) 0 (get_or dst i 0)
    unfolding zeroed
    get_or-zeroed = get_or-each (λ i x. cond (chosen (i / r)) 0 x) dst i h

    pub get_or-zero : chosen (i / r) ≡ true → get_or (zeroed chosen r dst) i 0 ≡ 0
    get_or-zero e = rw e at get_or-zeroed

    pub get_or_stays : chosen (i / r) ≡ false → get_or (zeroed chosen r dst) i 0 ≡ get_or dst i 0
    get_or_stays e = rw e at get_or-zeroed

  -- what isn't chosen stays, past the end too
  pub get_or_spared : (i : ℕ) → chosen (i / r) ≡ false → get_or (zeroed chosen r dst) i 0 ≡ get_or dst i 0
  get_or_spared i e =
      ⊎_elim
      (λ (h : length dst ≤ i).
      get_or-eq_default (zeroed chosen r dst) 0 {n = i} (omega (arith, length-zeroed)) ∙ sym (get_or-eq_default dst 0 {n = i} h))
      (λ (h : i < length dst). get_or_stays i h e)
      (le_or_lt (length dst) i)

module _ (r : ℕ) (dst : List ℕ) where
  -- what is chosen counts, and not how
  pub zeroed_ext : (c k : ℕ → Bool) → ((x : ℕ) → c x ≡ k x) → zeroed c r dst ≡ zeroed k r dst
  zeroed_ext c k e = zeroed-copied c (λ y. y) r dst ∙ copied_ext (λ y. y) r [] dst c k e ∙ sym (zeroed-copied k (λ y. y) r dst)

  -- where none is chosen, all stays
  pub zeroed_none : (c : ℕ → Bool) → ((x : ℕ) → c x ≡ false) → dst ≡ zeroed c r dst
  zeroed_none c e = copied_none (λ y. y) r [] dst c e ∙ sym (zeroed-copied c (λ y. y) r dst)

  -- some records zeroed, and then more
  pub zeroed_more : (more c all : ℕ → Bool) → ((x : ℕ) → more x || c x ≡ all x) → zeroed more r (zeroed c r dst) ≡ zeroed all r dst
  unfolding zeroed
  zeroed_more more c all e =
      each-each (byte c) (byte more) (byte all) dst
      (λ i b. by (more (i / r)) (c (i / r)) (get_or dst i 0) ∙ ap (λ (t : Bool). cond t 0 (get_or dst i 0)) (e (i / r)))
    where
      byte : (ℕ → Bool) → ℕ → ℕ → ℕ
      byte c i x = cond (c (i / r)) 0 x

      by : (s t : Bool) (x : ℕ) → cond s 0 (cond t 0 x) ≡ cond (s || t) 0 x
      by true t x = refl
      by false t x = refl

-- two buffers have the same record where they have its bytes
pub same_record : (r : ℕ) (l k : List ℕ) (N y x : ℕ) → length l ≡ N * r → length k ≡ N * r → y < N → x < N
    → ((j : ℕ) → j < r → get_or l (y * r + j) 0 ≡ get_or k (x * r + j) 0) → record_of r l y ≡ record_of r k x
same_record r l k N y x el ek hy hx h =
    ext_get_or 0 (record_of r l y) (record_of r k x) (long l y el hy ∙ sym (long k x ek hx))
    (λ i b. let q : i < r = subst (λ (n : ℕ). i < n) (long l y el hy) b in
    get_or-take r (drop (y * r) l) i 0 q ∙ get_or-drop (y * r) l i 0 ∙ h i q ∙ sym (get_or-take r (drop (x * r) k) i 0 q ∙ get_or-drop (x * r) k i 0))
  where
    long : (l : List ℕ) (y : ℕ) → length l ≡ N * r → y < N → length (record_of r l y) ≡ r
    long l y e h = simp (length-take, length-drop) (omega (arith, share y N r h, e))
