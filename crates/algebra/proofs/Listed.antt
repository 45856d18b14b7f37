-- Which numbers does a search list, and what does a list made number by number hold? Assumes nothing.
use mathlib.Core.Path.{◌∙◌, ◌≡◌, ap, ap₂, refl, subst, sym}
use mathlib.Core.Bool.{Bool, false, false≢true, not, true, cond}
use mathlib.Core.Logic.{⊎_elim}
use mathlib.Core.List.{List, [], ◌++◌, ◌∷◌, map}
use Prim.Native.Nat.{◌+◌, ◌-◌, ◌<◌, ◌≤◌, suc, zero, ℕ}
use native.Mathlib.Nat.{add_comm, add-suc, add-zero, eq-or-lt_of_le, le_of_suc-le-suc, le_refl, not-suc-le-zero, suc-add, zero-add}
use native.Mathlib.Numerals.{add-one}
use native.Mathlib.Omega.{arith}
use lib.ListN.{get_or, length, length-append, set}
use lib.Seq.{set-append_left}
use Rattle.algebra.proofs.Lists.{All, Asc, all_mono}
use Rattle.algebra.proofs.Search.{le_or_lt}
use Rattle.algebra.specs.Search.{listed, which}

-- ---- lists made number by number
module _ {A : Type 0} where
  pub listed_length : (f : ℕ → A) (k j : ℕ) → length (listed f k j) ≡ k
  unfolding listed
  listed_length f zero j = refl
  listed_length f (suc k) j = ap suc (listed_length f k (suc j))

  pub listed_at : (d : A) (f : ℕ → A) (n k i : ℕ) → i < n → get_or (listed f n k) i d ≡ f (k + i)
  unfolding listed
  listed_at d f zero k i h = absurd (not-suc-le-zero h)
  listed_at d f (suc n) k zero h = ap f (sym (add-zero k))
  listed_at d f (suc n) k (suc i) h = listed_at d f n (suc k) i (le_of_suc-le-suc h) ∙ ap f (omega arith)

pub listed_same : (f g : ℕ → ℕ) (n k : ℕ) → ((j : ℕ) → k ≤ j → j < k + n → f j ≡ g j) → listed f n k ≡ listed g n k
unfolding listed
listed_same f g zero k h = refl
listed_same f g (suc n) k h =
    ap₂ (λ (x : ℕ) (l : List ℕ). x ∷ l) (h k (omega arith) (omega arith))
    (listed_same f g n (suc k) (λ j a b. h j (omega arith) (omega arith)))

-- one place stored
listed_set : (f g : ℕ → ℕ) (n k x v : ℕ) → x < n → v ≡ g (k + x)
    → ((j : ℕ) → k ≤ j → j < k + n → (j ≡ k + x → ⊥) → f j ≡ g j) → set (listed f n k) x v ≡ listed g n k
unfolding listed
listed_set f g zero k x v l e h = absurd (not-suc-le-zero l)
listed_set f g (suc n) k zero v l e h =
    ap₂ (λ (x : ℕ) (l : List ℕ). x ∷ l) (e ∙ ap g (add-zero k)) (listed_same f g n (suc k) (λ j a b. h j (omega arith) (omega arith) (λ q. omega arith)))
listed_set f g (suc n) k (suc x) v l e h =
    let at : k + suc x ≡ suc k + x = omega arith in
    ap₂ (λ (x : ℕ) (l : List ℕ). x ∷ l) (h k (omega arith) (omega arith) (λ q. omega arith))
    (listed_set f g n (suc k) x v (le_of_suc-le-suc l) (e ∙ ap g at) (λ j a b c. h j (omega arith) (omega arith) (λ q. c (q ∙ at))))

-- .. in an array with room for more
pub room_set : (f g : ℕ → ℕ) (n x v : ℕ) (r : List ℕ) → x < n → v ≡ g x
    → ((j : ℕ) → j < n → (j ≡ x → ⊥) → f j ≡ g j) → set (listed f n 0 ++ r) x v ≡ listed g n 0 ++ r
room_set f g n x v r l e h =
    set-append_left (listed f n 0) r x v (omega (arith, listed_length f n 0))
    ∙ ap (λ (t : List ℕ). t ++ r) (listed_set f g n 0 x v l (e ∙ ap g (sym (zero-add x))) (λ j a b c. h j (omega arith) (λ q. c (q ∙ sym (zero-add x)))))

-- ---- the places that pass a test
pub which-all : (p : ℕ → Bool) (k j : ℕ) → All (λ x. (j ≤ x) × (x < j + k)) (which p k j)
unfolding which
which-all p zero j = tt
which-all p (suc k) j =
    go (p j) (all_mono (λ x. (suc j ≤ x) × (x < suc j + k)) (λ x. (j ≤ x) × (x < j + suc k)) (λ x h. (omega (arith, h.0), omega (arith, h.1)))
    (which p k (suc j)) (which-all p k (suc j)))
  where
    go : (b : Bool) → All (λ x. (j ≤ x) × (x < j + suc k)) (which p k (suc j))
        → All (λ x. (j ≤ x) × (x < j + suc k)) (cond b (j ∷ which p k (suc j)) (which p k (suc j)))
    go true h = ((omega arith, omega arith), h)
    go false h = h

pub which_asc : (p : ℕ → Bool) (k j : ℕ) → Asc (which p k j)
unfolding which
which_asc p zero j = tt
which_asc p (suc k) j =
    go (p j) (which_asc p k (suc j))
    (all_mono (λ x. (suc j ≤ x) × (x < suc j + k)) (λ x. j < x) (λ x h. h.0) (which p k (suc j)) (which-all p k (suc j)))
  where
    go : (b : Bool) → Asc (which p k (suc j)) → All (λ x. j < x) (which p k (suc j)) → Asc (cond b (j ∷ which p k (suc j)) (which p k (suc j)))
    go true h a = (a, h)
    go false h a = h

pub which_holds : (p : ℕ → Bool) (k j : ℕ) → All (λ x. p x ≡ true) (which p k j)
unfolding which
which_holds p zero j = tt
which_holds p (suc k) j = go (p j) refl (which_holds p k (suc j))
  where
    go : (b : Bool) → p j ≡ b → All (λ x. p x ≡ true) (which p k (suc j)) → All (λ x. p x ≡ true) (cond b (j ∷ which p k (suc j)) (which p k (suc j)))
    go true e h = (e, h)
    go false e h = h

-- what holds of every listed place holds of every place that passes
pub which_member : (P : ℕ → Type 0) (p : ℕ → Bool) (k j : ℕ) → All P (which p k j) → (i : ℕ) → j ≤ i → i < j + k → p i ≡ true → P i
unfolding which
which_member P p zero j h i a b e = absurd (omega arith)
which_member P p (suc k) j h i a b e = go (p j) refl h (which_member P p k (suc j))
  where
    go : (q : Bool) → p j ≡ q → All P (cond q (j ∷ which p k (suc j)) (which p k (suc j)))
        → (All P (which p k (suc j)) → (i : ℕ) → suc j ≤ i → i < suc j + k → p i ≡ true → P i) → P i
    go true f h ih = ⊎_elim (λ (l : i ≤ j). subst P (omega arith) h.0) (λ (l : j < i). ih h.1 i l (omega arith) e) (le_or_lt i j)
    go false f h ih = ⊎_elim (λ (l : i ≤ j). absurd (false≢true (sym f ∙ ap p (omega arith) ∙ e))) (λ (l : j < i). ih h i l (omega arith) e) (le_or_lt i j)

-- tests that agree on the range list the same places
pub which_ext : (p q : ℕ → Bool) (k j : ℕ) → ((i : ℕ) → j ≤ i → i < j + k → p i ≡ q i) → which p k j ≡ which q k j
unfolding which
which_ext p q zero j h = refl
which_ext p q (suc k) j h =
    ap₂ (λ (b : Bool) (l : List ℕ). cond b (j ∷ l) l) (h j (le_refl j) (omega arith)) (which_ext p q k (suc j) (λ i a b. h i (omega arith) (omega arith)))

pub which_none : (p : ℕ → Bool) (k j : ℕ) → ((i : ℕ) → j ≤ i → i < j + k → p i ≡ false) → which p k j ≡ []
unfolding which
which_none p zero j h = refl
which_none p (suc k) j h =
    ap₂ (λ (b : Bool) (l : List ℕ). cond b (j ∷ l) l) (h j (le_refl j) (omega arith)) (which_none p k (suc j) (λ i a b. h i (omega arith) (omega arith)))

-- places in two parts
pub which-append : (p : ℕ → Bool) (a c j : ℕ) → which p (a + c) j ≡ which p a j ++ which p c (j + a)
unfolding which
which-append p zero c j = ap₂ (λ (x y : ℕ). which p x y) (zero-add c) (sym (add-zero j))
which-append p (suc a) c j =
    ap (λ (x : ℕ). which p x j) (suc-add a c) ∙ go (p j) (which-append p a c (suc j) ∙ ap (λ (x : ℕ). which p a (suc j) ++ which p c x) (omega arith))
  where
    go : (b : Bool) → which p (a + c) (suc j) ≡ which p a (suc j) ++ which p c (j + suc a)
        → ◌≡◌ {A = List ℕ} (cond b (j ∷ which p (a + c) (suc j)) (which p (a + c) (suc j)))
        (cond b (j ∷ which p a (suc j)) (which p a (suc j)) ++ which p c (j + suc a))
    go true e = ap (λ (l : List ℕ). j ∷ l) e
    go false e = e

-- how many there are in two parts
pub which_split : (p : ℕ → Bool) (a c j : ℕ) → length (which p (a + c) j) ≡ length (which p a j) + length (which p c (j + a))
which_split p a c j = ap length (which-append p a c j) ∙ length-append (which p a j) (which p c (j + a))

-- and how many pass or fail
pub which_not : (p : ℕ → Bool) (k j : ℕ) → length (which p k j) + length (which (λ i. not (p i)) k j) ≡ k
unfolding which
which_not p zero j = refl
which_not p (suc k) j = go (p j) (which_not p k (suc j))
  where
    go : (b : Bool) → length (which p k (suc j)) + length (which (λ i. not (p i)) k (suc j)) ≡ k
        → length {A = ℕ} (cond b (j ∷ which p k (suc j)) (which p k (suc j)))
        + length {A = ℕ} (cond (not b) (j ∷ which (λ i. not (p i)) k (suc j)) (which (λ i. not (p i)) k (suc j))) ≡ suc k
    go true h = omega arith
    go false h = omega arith

-- one more at the end: the place j, where b says so
abbrev pub one_place : Bool → ℕ → List ℕ
one_place b j = cond b (j ∷ []) []

pub which_snoc : (p : ℕ → Bool) (k j : ℕ) → which p (suc k) j ≡ which p k j ++ one_place (p (j + k)) (j + k)
unfolding which
which_snoc p k j = ap (λ (n : ℕ). which p n j) (sym (add-one k)) ∙ which-append p k 1 j

-- places before which none passes
pub which_skip : (p : ℕ → Bool) (k a j : ℕ) → ((i : ℕ) → j ≤ i → i < j + a → p i ≡ false) → which p (k + a) j ≡ which p k (j + a)
which_skip p k a j h =
    ap (λ (n : ℕ). which p n j) (add_comm k a) ∙ which-append p a k j ∙ ap (λ (l : List ℕ). l ++ which p k (j + a)) (which_none p a j h)

pub which_shift : (q : ℕ → Bool) (m k j : ℕ) → which q k (m + j) ≡ map (λ u. m + u) (which (λ u. q (m + u)) k j)
unfolding which
which_shift q m zero j = refl
which_shift q m (suc k) j = go (q (m + j)) (ap (which q k) (sym (add-suc m j)) ∙ which_shift q m k (suc j))
  where
    go : (b : Bool) → which q k (suc (m + j)) ≡ map (λ u. m + u) (which (λ u. q (m + u)) k (suc j))
        → ◌≡◌ {A = List ℕ} (cond b ((m + j) ∷ which q k (suc (m + j))) (which q k (suc (m + j))))
        (map (λ u. m + u) (cond b (j ∷ which (λ u. q (m + u)) k (suc j)) (which (λ u. q (m + u)) k (suc j))))
    go true e = ap (λ (l : List ℕ). (m + j) ∷ l) e
    go false e = e

pub which_yes : (p : ℕ → Bool) (k j : ℕ) → p j ≡ true → which p (suc k) j ≡ j ∷ which p k (suc j)
unfolding which
which_yes p k j e = ap (λ (x : Bool). cond x (j ∷ which p k (suc j)) (which p k (suc j))) e

pub which_no : (p : ℕ → Bool) (k j : ℕ) → p j ≡ false → which p (suc k) j ≡ which p k (suc j)
unfolding which
which_no p k j e = ap (λ (x : Bool). cond x (j ∷ which p k (suc j)) (which p k (suc j))) e

-- the first place that passes, and the others
pub which_first : (p q : ℕ → Bool) (t k j : ℕ) → j ≤ t → t < j + k → ((i : ℕ) → i < t → p i ≡ false) → p t ≡ true → q t ≡ false
    → ((i : ℕ) → (i ≡ t → ⊥) → p i ≡ q i) → which p k j ≡ t ∷ which q k j
which_first p q t zero j a b low on off other = absurd (omega arith)
which_first p q t (suc k) j a b low on off other =
    ⊎_elim
    (λ (e : j ≡ t).
    which_yes p k j (ap p e ∙ on)
    ∙ ap₂ (λ (x : ℕ) (l : List ℕ). x ∷ l) e
    (which_ext p q k (suc j) (λ i l h. other i (λ s. omega (arith, s))) ∙ sym (which_no q k j (ap q e ∙ off))))
    (λ (l : j < t).
    which_no p k j (low j l) ∙ which_first p q t k (suc j) l (omega arith) low on off other
    ∙ ap (λ (x : List ℕ). t ∷ x) (sym (which_no q k j (sym (other j (λ s. omega (arith, s))) ∙ low j l))))
    (eq-or-lt_of_le a)

-- below a, and from a on
pub which_parts : (p : ℕ → Bool) (a k : ℕ) → a ≤ k → length (which p k 0) ≡ length (which p a 0) + length (which p (k - a) a)
which_parts p a k h =
    ap (λ (u : ℕ). length (which p u 0)) (omega arith) ∙ which_split p a (k - a) 0
    ∙ ap (λ (u : ℕ). length (which p a 0) + length (which p (k - a) u)) (zero-add a)

-- one more that passes
pub which_flip : (p q : ℕ → Bool) (k x : ℕ) → x < k → ((i : ℕ) → i < k → (i ≡ x → ⊥) → p i ≡ q i) → p x ≡ false → q x ≡ true
    → suc (length (which p k 0)) ≡ length (which q k 0)
which_flip p q k x l h e f =
    let d = k - suc x in
    let d-is : k - x ≡ suc d = omega arith in
    let same : which p x 0 ≡ which q x 0 = which_ext p q x 0 (λ i u v. h i (omega arith) (λ r. omega arith)) in
    let rest : which p d (suc x) ≡ which q d (suc x) = which_ext p q d (suc x) (λ i u v. h i (omega arith) (λ r. omega arith)) in
    let no : which p (k - x) x ≡ which p d (suc x) = ap (λ (u : ℕ). which p u x) d-is ∙ which_no p d x e in
    let yes : which q (k - x) x ≡ x ∷ which q d (suc x) = ap (λ (u : ℕ). which q u x) d-is ∙ which_yes q d x f in
    omega (arith, which_parts p x k (omega arith), which_parts q x k (omega arith), ap length same, ap length rest, ap length no, ap length yes)

-- where the listed numbers lie, and which are not among them
pub which_from : (p : ℕ → Bool) (k j : ℕ) → All (λ x. j ≤ x) (which p k j)
which_from p k j = all_mono (λ x. (j ≤ x) × (x < j + k)) (λ x. j ≤ x) (λ x h. h.0) (which p k j) (which-all p k j)

pub which_upto : (p : ℕ → Bool) (k j n : ℕ) → j + k ≤ n → All (λ x. x < n) (which p k j)
which_upto p k j n l = all_mono (λ x. (j ≤ x) × (x < j + k)) (λ x. x < n) (λ x h. omega arith) (which p k j) (which-all p k j)

pub which_off : (p : ℕ → Bool) (k j i : ℕ) → p i ≡ false → All (λ x. i ≡ x → ⊥) (which p k j)
which_off p k j i e =
    all_mono (λ x. p x ≡ true) (λ x. i ≡ x → ⊥) (λ x t q. false≢true (sym e ∙ ap p q ∙ t)) (which p k j) (which_holds p k j)
