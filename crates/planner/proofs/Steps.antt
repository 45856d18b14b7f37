-- Which columns do steps 1 and 2 have, in terms of what code has at hand? Assumes nothing.
use mathlib.Core.Path.{◌∙◌, ◌≡◌, ap, ap₂, refl, sym}
use mathlib.Core.Bool.{Bool, false, not, true}
use mathlib.Core.Logic.{⊎_elim}
use mathlib.Core.List.{List, ◌++◌, map}
use Prim.Native.Nat.{◌+◌, ◌-◌, ◌/◌, ◌<◌, ◌^◌, ◌≤◌, ℕ}
use native.Mathlib.Nat.{add-zero, le_refl, sub-zero, zero-add}
use native.Mathlib.Omega.{arith}
use lib.Bits.{bit_xor}
use lib.Dec.{eqb}
use lib.ListN.{get_or-append, get_or-eq_default, drop, get_or, length, length-append, length-drop, length-map, take}
use lib.Seq.{length-take-le, take_all, take_at}
use lib.Pow.{pow_pos}
use Rattle.algebra.proofs.Columns.{columns-length}
use Rattle.algebra.proofs.Digits.{bit_shr, unless_no}
use Rattle.algebra.proofs.Linear.{comb_one, after-length}
use Rattle.algebra.proofs.Listed.{which_ext, which_shift, which_skip}
use Rattle.algebra.proofs.Loops.{unless_not}
use Rattle.algebra.proofs.Search.{by_test, le_or_lt}
use Rattle.algebra.specs.Elimination.{Echelon, built}
use Rattle.algebra.specs.Matrix.{columns, marked, one_if, after}
use Rattle.algebra.specs.Search.{which}
use Rattle.algebra.specs.Vector.{WORD, bit, unless_zero}
use Rattle.planning.proofs.Acts.{adding_at, adding-length}
use Rattle.planning.proofs.Bridges.{reached-marked, summands-used, used_in}
use Rattle.planning.proofs.Step2.{summands_high, summands-marked}
use Rattle.planning.specs.Columns.{adding, delta, phi}
use Rattle.planning.specs.Making.{chosen, partner, operations, reached, step1, step2, summands, unmarked}
use Rattle.planner.specs.Marks.{bare, mask_of, places_of}
use Rattle.planner.proofs.Marked.{marked_front}
use Rattle.planner.proofs.Masks.{bare_high, bare_in, bare_low, mask_bit, one_if_is}

-- ---- columns added
pub adding_column : (g : ℕ → ℕ) (n j : ℕ) → j < n → get_or (adding g n) j 0 ≡ bit_xor (2 ^ j) (g j)
adding_column g n j h = sym (comb_one (adding g n) j) ∙ adding_at g n j h

-- the first n of an array that begins with a list of n
front : (n : ℕ) (x l z : List ℕ) → length l ≡ n → x ≡ l ++ z → take n x ≡ l
front n x l z h e = ap (take n) e ∙ take_at l z n h

-- ---- how many columns the lower parts have
phi-length : (m : ℕ) (cols : List ℕ) → m ≤ length cols → length (phi m cols) ≡ m
unfolding phi
phi-length m cols h = length-map (take m cols) (λ v. v / 2 ^ m) ∙ length-take-le m cols h

delta-length : (m : ℕ) (cols : List ℕ) → length (delta m cols) ≡ length cols - m
unfolding delta
delta-length m cols = length-map (drop m cols) (λ v. v / 2 ^ m) ∙ length-drop m cols

one_if_not : (b : Bool) → eqb (one_if b) 0 ≡ not b
one_if_not true = refl
one_if_not false = refl

-- ---- step 1: the set holds the marked columns of δ, and behind them those of φ that are marked behind δ's
module _ (n m : ℕ) (hm : m ≤ n) (cols : List ℕ) (hd : length (delta m cols) ≡ n - m) (hf : length (phi m cols) ≡ m) (set : ℕ)
    (is : set ≡ mask_of (marked (delta m cols ++ phi m cols)) n) where
  at : (i : ℕ) → i < n → bit set i ≡ one_if (marked (delta m cols ++ phi m cols) i)
  at i h =
      ap (λ (s : ℕ). bit s i) is ∙ mask_bit (marked (delta m cols ++ phi m cols)) n i h

  set-delta : (u : ℕ) → u < n - m → bit set u ≡ one_if (marked (delta m cols) u)
  set-delta u h = at u (omega arith) ∙ ap one_if (marked_front (delta m cols) (phi m cols) u (omega arith))

  set-phi : (i : ℕ) → i < m → bit set (n - m + i) ≡ one_if (not (reached n m cols i))
  set-phi i h = at (n - m + i) (omega arith) ∙ ap one_if (sym (reached-marked n m hm cols hd i h))

  chosen_places : chosen n m cols ≡ places_of m (set / 2 ^ (n - m))
  unfolding chosen places_of
  chosen_places =
      which_ext (λ i. not (reached n m cols i)) (λ i. eqb (bit (set / 2 ^ (n - m)) i) 1) m 0
      (λ i l u. sym (ap (λ (d : ℕ). eqb d 1) (bit_shr set (n - m) i ∙ set-phi i (omega arith)) ∙ one_if_is (not (reached n m cols i))))

  unmarked-bare : unmarked n m cols ≡ which (bare set m n) n 0
  unfolding unmarked
  unmarked-bare =
      let whole : n ≡ n - m + m = omega arith in
      sym (ap (λ (k : ℕ). which (bare set m n) k 0) whole ∙ which_skip (bare set m n) (n - m) m 0 (λ i l u. bare_low set m n i (omega arith))
      ∙ ap (which (bare set m n) (n - m)) (zero-add m ∙ sym (add-zero m)) ∙ which_shift (bare set m n) m (n - m) 0
      ∙ ap (map (λ u. m + u)) (which_ext (λ u. bare set m n (m + u)) (λ u. not (marked (delta m cols) u)) (n - m) 0 test))
    where
      test : (u : ℕ) → 0 ≤ u → u < 0 + (n - m) → bare set m n (m + u) ≡ not (marked (delta m cols) u)
      test u l h =
          let back : m + u - m ≡ u = omega arith in
          bare_in set m n (m + u) (omega arith) (omega arith) ∙ ap (λ (k : ℕ). eqb (bit set k) 0) back
          ∙ ap (λ (d : ℕ). eqb d 0) (set-delta u (omega arith)) ∙ one_if_not (marked (delta m cols) u)

  step1_paired : step1 n m cols ≡ adding (partner (which (bare set m n) n 0) (places_of m (set / 2 ^ (n - m)))) n
  unfolding step1
  step1_paired = ap₂ (λ (us ws : List ℕ). adding (partner us ws) n) unmarked-bare chosen_places

-- the same of arrays: δ and φ with something after them, and one behind the other
pub step1_code : (m : ℕ) (cols : List ℕ) → m ≤ length cols → (d zd f zf both zb : List ℕ) (set : ℕ)
    → d ≡ map (λ v. v / 2 ^ m) (take (length cols - m) (drop m cols)) ++ zd → f ≡ map (λ v. v / 2 ^ m) (take m cols) ++ zf → both ≡ (take (length cols - m) d ++ take m f) ++ zb
    → set ≡ mask_of (marked (take (length cols) both)) (length (take (length cols) both))
    → step1 (length cols) m cols
    ≡ adding (partner (which (bare set m (length cols)) (length cols) 0) (places_of m (set / 2 ^ (length cols - m)))) (length cols)
unfolding delta phi
step1_code m cols hm d zd f zf both zb set ed ef eb es =
    let n = length cols in
    let D = delta m cols in
    let F = phi m cols in
    let ld = delta-length m cols in
    let lf = phi-length m cols hm in
    let long : length (D ++ F) ≡ n = omega (arith, length-append D F, ld, lf) in
    let rest : take (n - m) (drop m cols) ≡ drop m cols = take_all (n - m) (drop m cols) (omega (arith, length-drop m cols)) in
    let lower : d ≡ D ++ zd = ed ∙ ap (λ (l : List ℕ). map (λ v. v / 2 ^ m) l ++ zd) rest in
    let is = front n both (D ++ F) zb long (eb ∙ ap₂ (λ (a b : List ℕ). (a ++ b) ++ zb) (front (n - m) d D zd ld lower) (front m f F zf lf ef)) in
    step1_paired n m hm cols ld lf set (es ∙ ap (λ (l : List ℕ). mask_of (marked l) (length l)) is ∙ ap (mask_of (marked (D ++ F))) long)

-- ---- step 2: the set holds the marked columns of φ, and the entries are those of φ
module _ (room n m : ℕ) (hm : m ≤ room) (cols : List ℕ) (hf : length (phi m cols) ≡ m) (tail part : List ℕ) (hp : part ≡ phi m cols ++ tail)
    (hc : (i : ℕ) → get_or part i 0 < 2 ^ WORD) (set : ℕ) (is : set ≡ mask_of (marked (phi m cols)) m) (e : Echelon) (he : e ≡ built room (phi m cols) m) where
  part_at : (j : ℕ) → j < m → get_or part j 0 ≡ get_or (phi m cols) j 0
  part_at j h = ap (λ (l : List ℕ). get_or l j 0) hp ∙ get_or-append (phi m cols) tail 0 j (omega arith)

  set_is : (j : ℕ) → j < m → bit set j ≡ one_if (marked (phi m cols) j)
  set_is j h =
      ap (λ (s : ℕ). bit s j) is ∙ mask_bit (marked (phi m cols)) m j h

  small : (i : ℕ) → get_or (phi m cols) i 0 < 2 ^ WORD
  small i =
      ⊎_elim (λ (h : m ≤ i). rw (get_or-eq_default (phi m cols) 0 {n = i} (omega arith)) (pow_pos WORD))
      (λ (h : i < m). rw (part_at i h) at (hc i)) (le_or_lt m i)

  summands_code : (j : ℕ) → unless_zero (one_if (bare set 0 m j)) (used_in e (get_or part j 0)) ≡ summands m cols j
  summands_code j = ⊎_elim high low (le_or_lt m j)
    where
      x : ℕ
      x = used_in e (get_or part j 0)

      high : m ≤ j → unless_zero (one_if (bare set 0 m j)) x ≡ summands m cols j
      high h = ap (λ (b : Bool). unless_zero (one_if b) x) (bare_high set 0 m j (omega arith) h) ∙ unless_no 0 x refl ∙ sym (summands_high m cols j h)

      test : j < m → bare set 0 m j ≡ not (marked (phi m cols) j)
      test h =
          bare_in set 0 m j (omega arith) h ∙ ap (λ (k : ℕ). eqb (bit set k) 0) (sub-zero j) ∙ ap (λ (d : ℕ). eqb d 0) (set_is j h)
          ∙ one_if_not (marked (phi m cols) j)

      low : j < m → unless_zero (one_if (bare set 0 m j)) x ≡ summands m cols j
      low h =
          by_test (marked (phi m cols) j)
          (λ q. ap (λ (b : Bool). unless_zero (one_if b) x) (test h ∙ ap not q) ∙ unless_no 0 x refl ∙ sym (summands-marked m cols j q))
          (λ q. ap (λ (b : Bool). unless_zero (one_if b) x) (test h ∙ ap not q) ∙ sym (unless_not 1 x (λ z. omega (arith, z)))
          ∙ ap₂ used_in he (part_at j h) ∙ summands-used room m cols WORD (le_refl WORD) hm small j h q)

pub step2-length : (n m : ℕ) (cols : List ℕ) → length (step2 n m cols) ≡ n
unfolding step2
step2-length n m cols = adding-length (summands m cols) n

-- the same of arrays: φ with something after it
pub step2_code : (room m : ℕ) (cols : List ℕ) → m ≤ room → m ≤ length cols → (f zf : List ℕ) (set : ℕ) (e : Echelon) → ((i : ℕ) → get_or f i 0 < 2 ^ WORD)
    → f ≡ map (λ v. v / 2 ^ m) (take m cols) ++ zf → set ≡ mask_of (marked (take m f)) (length (take m f))
    → e ≡ built room (take m f) (length (take m f)) → (j : ℕ) → j < length cols
    → bit_xor (2 ^ j) (unless_zero (one_if (bare set 0 m j)) (used_in e (get_or f j 0))) ≡ get_or (step2 (length cols) m cols) j 0
unfolding step2 phi
step2_code room m cols hr hm f zf set e hc ef es ee j h =
    let F = phi m cols in
    let lf = phi-length m cols hm in
    let is = front m f F zf lf ef in
    let marks = es ∙ ap (λ (l : List ℕ). mask_of (marked l) (length l)) is ∙ ap (mask_of (marked F)) lf in
    let entries = ee ∙ ap (λ (l : List ℕ). built room l (length l)) is ∙ ap (built room F) lf in
    ap (bit_xor (2 ^ j)) (summands_code room (length cols) m hr cols lf zf f ef hc set marks e entries j)
    ∙ sym (adding_column (summands m cols) (length cols) j h)

-- ---- P and A P
step1-length : (n m : ℕ) (cols : List ℕ) → length (step1 n m cols) ≡ n
unfolding step1
step1-length n m cols = adding-length (partner (unmarked n m cols) (chosen n m cols)) n

pub operate_code : (n m : ℕ) (rows a za s1 z1 b zb s2 z2 p zp q zq : List ℕ) → a ≡ columns n rows ++ za → s1 ≡ step1 (length (take n a)) m (take n a) ++ z1
    → b ≡ after (take n a) (take n s1) ++ zb → s2 ≡ step2 (length (take n b)) m (take n b) ++ z2 → p ≡ after (take n s1) (take n s2) ++ zp
    → q ≡ after (take n a) (take n p) ++ zq
    → (q ≡ after (columns n rows) (operations n m (columns n rows)) ++ zq) × (p ≡ operations n m (columns n rows) ++ zp)
unfolding operations
operate_code n m rows a za s1 z1 b zb s2 z2 p zp q zq ea e1 eb e2 ep eq =
    let A = columns n rows in
    let S = step1 n m A in
    let la = columns-length n rows in
    let ta = front n a A za la ea in
    let t1 =
    front n s1 S z1 (step1-length n m A) (e1 ∙ ap (λ (l : List ℕ). step1 (length l) m l ++ z1) ta ∙ ap (λ (k : ℕ). step1 k m A ++ z1) la) in
    let B = after A S in
    let lb = after-length A S ∙ step1-length n m A in
    let tb = front n b B zb lb (eb ∙ ap₂ (λ (x y : List ℕ). after x y ++ zb) ta t1) in
    let T = step2 n m B in
    let t2 =
    front n s2 T z2 (step2-length n m B) (e2 ∙ ap (λ (l : List ℕ). step2 (length l) m l ++ z2) tb ∙ ap (λ (k : ℕ). step2 k m B ++ z2) lb) in
    let pp : p ≡ after S T ++ zp = ep ∙ ap₂ (λ (x y : List ℕ). after x y ++ zp) t1 t2 in
    let tp = front n p (after S T) zp (after-length S T ∙ step2-length n m B) pp in
    (eq ∙ ap₂ (λ (x y : List ℕ). after x y ++ zq) ta tp, pp)
