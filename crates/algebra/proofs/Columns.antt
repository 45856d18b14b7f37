-- What are the columns of a matrix, and what matrix has given columns? Assumes nothing.
use mathlib.Core.Path.{◌∙◌, ◌≡◌, ap, refl, subst, sym}
use mathlib.Core.Bool.{Bool, false, not, true}
use mathlib.Core.List.{List, [], ◌∷◌, map}
use Prim.Native.Nat.{◌+◌, ◌<◌, ◌^◌, ◌≤◌, suc, zero, ℕ}
use native.Mathlib.Nat.{add-zero, le_of_suc-le-suc, lt_of_lt_of_le, not-suc-le-zero, zero-add}
use native.Mathlib.Omega.{arith}
use lib.Pow.{pow_mono}
use lib.ListN.{drop, get_or, length, length-map, get_or-map, take}
use lib.Bits.{and_comm, bit_and}
use lib.Dec.{eqb}
use lib.Seq.{ext_get_or}
use borrow.Author.Tests.{eq-eqb, eqb-true, ne_eqb, not-false, not-true}
use Rattle.algebra.proofs.Digits.{bits_same}
use Rattle.algebra.proofs.Linear.{apply_bit, apply_lt, apply_zero, comb-lt, comb_one, dot_comb, dot_unit, listed_units}
use Rattle.algebra.proofs.Listed.{listed_at, listed_length}
use Rattle.algebra.proofs.Search.{any_intro, none_elim, none_intro}
use Rattle.algebra.specs.Matrix.{applied, columns, identity, is_identity}
use Rattle.algebra.specs.Search.{any_below}
use Rattle.algebra.specs.Vector.{bit, comb, parity, unit_vectors}

-- ---- a column of a matrix of at most n rows
pub columns-lt : (n : ℕ) (rows : List ℕ) (i : ℕ) → length rows ≤ n → get_or (columns n rows) i 0 < 2 ^ n
unfolding columns
columns-lt n rows i h =
    subst (λ (k : ℕ). k < 2 ^ n)
    (sym (ap (get_or (map (applied rows) (unit_vectors n 0)) i) (sym (apply_zero rows)) ∙ get_or-map (applied rows) (unit_vectors n 0) i 0))
    (lt_of_lt_of_le (apply_lt rows (get_or (unit_vectors n 0) i 0)) (pow_mono h))

-- what stands at a place
pub map_at : (f : ℕ → ℕ) (l : List ℕ) (i : ℕ) → i < length l → get_or (map f l) i 0 ≡ f (get_or l i 0)
map_at f [] i h = absurd (not-suc-le-zero h)
map_at f (x ∷ l) zero h = refl
map_at f (x ∷ l) (suc i) h = map_at f l i (le_of_suc-le-suc h)

pub unit_vectors-length : (n j : ℕ) → length (unit_vectors n j) ≡ n
unit_vectors-length n j = ap length (sym (listed_units n j)) ∙ listed_length (λ i. 2 ^ i) n j

pub identity-length : (n : ℕ) → length (identity n) ≡ n
unfolding identity
identity-length n = unit_vectors-length n 0

pub identity_at : (n i : ℕ) → i < n → get_or (identity n) i 0 ≡ 2 ^ i
unfolding identity
identity_at n i h =
    ap (λ (l : List ℕ). get_or l i 0) (sym (listed_units n 0)) ∙ listed_at 0 (λ j. 2 ^ j) n 0 i h ∙ ap (λ (k : ℕ). 2 ^ k) (zero-add i)

-- ---- which rows are the identity's
module _ (n : ℕ) (rows : List ℕ) where
  -- row i is another than the identity's
  abbrev other : ℕ → Bool
  other i = not (eqb (get_or rows i 0) (get_or (identity n) i 0))

  pub other_row : (i : ℕ) → i < n → (get_or rows i 0 ≡ 2 ^ i → ⊥) → is_identity n rows ≡ false
  unfolding is_identity
  other_row i h f =
      ap not (any_intro other n i h (ap not (ne_eqb (get_or rows i 0) (get_or (identity n) i 0) (λ e. f (e ∙ identity_at n i h)))))

  pub each_row : ((i : ℕ) → i < n → get_or rows i 0 ≡ 2 ^ i) → is_identity n rows ≡ true
  unfolding is_identity
  each_row f =
      ap not (none_intro other n (λ i h. ap not (eq-eqb (get_or rows i 0) (get_or (identity n) i 0) (f i h ∙ sym (identity_at n i h)))))

  pub identity_rows : length rows ≡ n → is_identity n rows ≡ true → rows ≡ identity n
  unfolding is_identity
  identity_rows long e =
      ext_get_or 0 rows (identity n) (long ∙ sym (identity-length n))
      (λ i h. eqb-true (get_or rows i 0) (get_or (identity n) i 0)
      (not-false (eqb (get_or rows i 0) (get_or (identity n) i 0)) (none_elim other n i (not-true (any_below other n) e) (omega (arith, long)))))

pub map_unit : (f : ℕ → ℕ) (n i : ℕ) → i < n → get_or (map f (unit_vectors n 0)) i 0 ≡ f (2 ^ i)
unfolding identity
map_unit f n i h = map_at f (identity n) i (omega (arith, identity-length n)) ∙ ap f (identity_at n i h)

pub columns_at : (n : ℕ) (rows : List ℕ) (i : ℕ) → i < n → get_or (columns n rows) i 0 ≡ applied rows (2 ^ i)
unfolding columns
columns_at n rows i h = map_unit (applied rows) n i h

pub columns-length : (n : ℕ) (rows : List ℕ) → length (columns n rows) ≡ n
unfolding columns identity
columns-length n rows = length-map (unit_vectors n 0) (applied rows) ∙ identity-length n

-- ---- n rows send x to the number whose bits are their parities with x
rows_give : (n : ℕ) (rows : List ℕ) (x v : ℕ) → length rows ≡ n → v < 2 ^ n
    → ((i : ℕ) → i < n → parity (bit_and (get_or rows i 0) x) ≡ bit v i) → applied rows x ≡ v
rows_give n rows x v l h f =
    bits_same n (applied rows x) v (subst (λ (k : ℕ). applied rows x < 2 ^ k) l (apply_lt rows x)) h (λ i q. apply_bit rows x i ∙ f i q)

pub apply_identity : (n x : ℕ) → x < 2 ^ n → applied (identity n) x ≡ x
apply_identity n x h =
    rows_give n (identity n) x x (identity-length n) h (λ i l. ap (λ (r : ℕ). parity (bit_and r x)) (identity_at n i l) ∙ dot_unit i x)

-- the columns of a list of columns are the rows
pub apply_transpose : (cols : List ℕ) (m x : ℕ) → comb cols x < 2 ^ m → applied (columns m cols) x ≡ comb cols x
apply_transpose cols m x h =
    rows_give m (columns m cols) x (comb cols x) (columns-length m cols) h
    (λ i l. ap (λ (r : ℕ). parity (bit_and r x)) (columns_at m cols i l) ∙ ap parity (and_comm (applied cols (2 ^ i)) x)
    ∙ sym (dot_comb cols x (2 ^ i)) ∙ ap parity (and_comm (comb cols x) (2 ^ i)) ∙ dot_unit i (comb cols x))

-- the columns of the columns are the rows
pub columns_twice : (n : ℕ) (rows : List ℕ) → length rows ≡ n → ((i : ℕ) → i < n → get_or rows i 0 < 2 ^ n) → columns n (columns n rows) ≡ rows
columns_twice n rows long below =
    let twice = columns-length n (columns n rows) in
    ext_get_or 0 (columns n (columns n rows)) rows (twice ∙ sym long)
    (λ i h. let hi : i < n = omega arith in
    columns_at n (columns n rows) i hi
    ∙ apply_transpose rows n (2 ^ i) (comb-lt n rows (2 ^ i) (λ j l. below j (omega arith)))
    ∙ comb_one rows i)

-- ---- d of m unit vectors, from the b-th on
pub part_units : (b d m j : ℕ) → b + d ≤ m → take d (drop b (unit_vectors m j)) ≡ unit_vectors d (j + b)
unfolding unit_vectors
part_units zero zero m j h = refl
part_units zero (suc d) zero j h = absurd (omega arith)
part_units zero (suc d) (suc m) j h =
    rw add-zero (ap (λ (l : List ℕ). 2 ^ j ∷ l) (part_units zero d m (suc j) (omega arith) ∙ ap (unit_vectors d) (add-zero (suc j))))
part_units (suc b) d zero j h = absurd (omega arith)
part_units (suc b) d (suc m) j h = part_units b d m (suc j) (omega arith) ∙ ap (unit_vectors d) (omega arith)
