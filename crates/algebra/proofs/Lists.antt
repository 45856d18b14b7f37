-- What do lists hold, place by place? Assumes nothing.
use mathlib.Core.Path.{◌∙◌, ◌≡◌, ap, refl, sym}
use mathlib.Core.List.{List, [], ◌++◌, ◌∷◌, map}
use Prim.Native.Nat.{◌+◌, ◌-◌, ◌<◌, ◌≤◌, suc, zero, ℕ}
use native.Mathlib.Nat.{le_of_suc-le-suc, not-suc-le-zero}
use native.Mathlib.Omega.{arith}
use borrow.Author.Count.{below_more}
use lib.ListN.{get_or-append, drop, get_or, length, length-drop, replicate, set, take}
use lib.Seq.{drop-append_seam, drop_at, ext_get_or, get_or-append-add, get_or-drop, get_or-set_other, get_or-set_same, get_or-take, length_paste_head}
use lib.Seq.{length-take-le, paste, take-append_seam, take_at}

-- ---- what holds of every element
module _ {A : Type 0} where
  abbrev pub All : (A → Type 0) → List A → Type 0
  All P [] = Unit {0}
  All P (x ∷ xs) = P x × All P xs

  pub all_at : (d : A) (P : A → Type 0) (xs : List A) → All P xs → (i : ℕ) → i < length xs → P (get_or xs i d)
  all_at d P [] a i h = absurd (not-suc-le-zero h)
  all_at d P (x ∷ xs) a zero h = a.0
  all_at d P (x ∷ xs) a (suc i) h = all_at d P xs a.1 i (le_of_suc-le-suc h)

  pub at_all : (d : A) (P : A → Type 0) (xs : List A) → ((i : ℕ) → i < length xs → P (get_or xs i d)) → All P xs
  at_all d P [] f = tt
  at_all d P (x ∷ xs) f = (f 0 (omega arith), at_all d P xs (λ i h. f (suc i) (omega arith)))

-- each below all that follow
abbrev pub Asc : List ℕ → Type 0
Asc [] = Unit {0}
Asc (x ∷ xs) = All (λ y. x < y) xs × Asc xs

pub all_mono : (P Q : ℕ → Type 0) → ((x : ℕ) → P x → Q x) → (l : List ℕ) → All P l → All Q l
all_mono P Q f [] h = tt
all_mono P Q f (x ∷ xs) h = (f x h.0, all_mono P Q f xs h.1)

pub all_map : (P : ℕ → Type 0) (f : ℕ → ℕ) (l : List ℕ) → All (λ u. P (f u)) l → All P (map f l)
all_map P f [] h = tt
all_map P f (x ∷ xs) h = (h.0, all_map P f xs h.1)

pub all_unmap : (P : ℕ → Type 0) (f : ℕ → ℕ) (l : List ℕ) → All P (map f l) → All (λ u. P (f u)) l
all_unmap P f [] h = tt
all_unmap P f (x ∷ xs) h = (h.0, all_unmap P f xs h.1)

pub asc_shift : (m : ℕ) (l : List ℕ) → Asc l → Asc (map (λ u. m + u) l)
asc_shift m [] h = tt
asc_shift m (x ∷ xs) h =
    (all_map (λ y. m + x < y) (λ u. m + u) xs (all_mono (λ y. x < y) (λ y. m + x < m + y) (λ y l. omega (arith, l)) xs h.0), asc_shift m xs h.1)

-- ---- zeros
pub get_or_zeros : (k i : ℕ) → get_or {A = ℕ} (replicate k 0) i 0 ≡ 0
get_or_zeros zero i = refl
get_or_zeros (suc k) zero = refl
get_or_zeros (suc k) (suc i) = get_or_zeros k i

-- zeros after a list change none of its elements
pub padded_at : (l : List ℕ) (k i : ℕ) → get_or (l ++ replicate k 0) i 0 ≡ get_or l i 0
padded_at [] k i = get_or_zeros k i
padded_at (x ∷ l) k zero = refl
padded_at (x ∷ l) k (suc i) = padded_at l k i

-- ---- what a list holds after a copy of n elements of s to the place at
module _ (d s : List ℕ) (at n : ℕ) (room : at + n ≤ length d) (long : n ≤ length s) where
  pub paste_before : (q : ℕ) → q < at → get_or (paste d at s n) q 0 ≡ get_or d q 0
  paste_before q h =
      let front : length (take at d) ≡ at = length-take-le at d (omega arith) in
      get_or-append (take at d ++ take n s) (drop (at + n) d) 0 q (omega (arith, length_paste_head d at s n (omega arith) long))
      ∙ get_or-append (take at d) (take n s) 0 q (omega arith)
      ∙ get_or-take at d q 0 h

  pub paste_in : (i : ℕ) → i < n → get_or (paste d at s n) (at + i) 0 ≡ get_or s i 0
  paste_in i h =
      let front : length (take at d) ≡ at = length-take-le at d (omega arith) in
      get_or-append (take at d ++ take n s) (drop (at + n) d) 0 (at + i) (omega (arith, length_paste_head d at s n (omega arith) long))
      ∙ ap (λ (k : ℕ). get_or (take at d ++ take n s) (k + i) 0) (sym front)
      ∙ get_or-append-add (take at d) (take n s) i 0
      ∙ get_or-take n s i 0 h

  pub paste_after : (q : ℕ) → at + n ≤ q → get_or (paste d at s n) q 0 ≡ get_or d q 0
  paste_after q h =
      let head : length (take at d ++ take n s) ≡ at + n = length_paste_head d at s n (omega arith) long in
      let e : length (take at d ++ take n s) + (q - (at + n)) ≡ q = omega arith in
      let f : at + n + (q - (at + n)) ≡ q = omega arith in
      ap (λ (k : ℕ). get_or (paste d at s n) k 0) (sym e)
      ∙ get_or-append-add (take at d ++ take n s) (drop (at + n) d) (q - (at + n)) 0
      ∙ get_or-drop (at + n) d (q - (at + n)) 0
      ∙ ap (λ (k : ℕ). get_or d k 0) f

-- ---- one list in two parts, the first as long as the other's: the parts are the same
pub same_parts : (a b x y : List ℕ) → length a ≡ length b → a ++ x ≡ b ++ y → (a ≡ b) × (x ≡ y)
same_parts a b x y h e = (
  sym (take_at a x (length b) h) ∙ ap (take (length b)) e ∙ take-append_seam b y,
  sym (drop_at a x (length b) h) ∙ ap (drop (length b)) e ∙ drop-append_seam b y,
)

-- what is below all of a list, or above, isn't in it
pub off_above : (x b : ℕ) (l : List ℕ) → x < b → All (λ z. b ≤ z) l → All (λ z. x ≡ z → ⊥) l
off_above x b l h = all_mono (λ z. b ≤ z) (λ z. x ≡ z → ⊥) (λ z p e. omega arith) l

pub off_below : (x b : ℕ) (l : List ℕ) → b ≤ x → All (λ z. z < b) l → All (λ z. x ≡ z → ⊥) l
off_below x b l h = all_mono (λ z. z < b) (λ z. x ≡ z → ⊥) (λ z p e. omega arith) l

-- ---- a part of a mapped list, with anything after it
pub part_map : (f : ℕ → ℕ) (b d : ℕ) (l z : List ℕ) → b + d ≤ length l → take d (drop b (map f l ++ z)) ≡ map f (take d (drop b l))
part_map f zero zero l z h = refl
part_map f zero (suc d) [] z h = absurd (omega arith)
part_map f zero (suc d) (x ∷ l) z h = ap (λ (k : List ℕ). f x ∷ k) (part_map f zero d l z (omega arith))
part_map f (suc b) d [] z h = absurd (omega arith)
part_map f (suc b) d (x ∷ l) z h = part_map f b d l z (omega arith)
