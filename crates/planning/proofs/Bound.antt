-- How few passes can make an order? Assumes nothing.
use mathlib.Core.Path.{◌∙◌, ◌≡◌, ap, ap₂, refl, subst, sym}
use mathlib.Core.Bool.{false, true≢false}
use mathlib.Core.Logic.{⊎_elim}
use mathlib.Core.List.{List, [], ◌++◌, ◌∷◌, map}
use Prim.Native.Nat.{◌%◌, ◌*◌, ◌+◌, ◌-◌, ◌/◌, ◌<◌, ◌^◌, ◌≤◌, suc, ℕ}
use native.Mathlib.Nat.{div-eq_of_lt, div-lt_iff_lt-mul, le_antisymm, le_refl, le_trans, lt_of_lt_of_le, mod-lt, mul_comm, mul-suc, pow-suc}
use native.Mathlib.Omega.{arith}
use lib.Arith.{digits_div, digits_lt, digits_mod}
use lib.Pow.{pow_mono, pow_pos}
use lib.Dec.{lit<}
use lib.ListN.{drop, length, length-append, length-map, length-take, take}
use lib.Seq.{take-append_seam}
use lib.Bits.{bit_xor, xor_lt, xor_self, xor_zero_r}
use Rattle.algebra.proofs.Digits.{parts_xor, xor_assoc, xor_cancel_r, xor-eq, unless_no}
use Rattle.algebra.proofs.Linear.{Linear, apply_columns, apply_linear, apply_lt, apply_xor, apply_zero}
use Rattle.algebra.proofs.Linear.{comb-take, comb-xor, linear_after, linear_comb, lower_linear, shl_linear}
use Rattle.algebra.proofs.Lists.{All}
use Rattle.algebra.proofs.Parts.{apply_drop}
use Rattle.algebra.proofs.Search.{le_or_lt}
use Rattle.algebra.proofs.Spill.{spill_witness}
use Rattle.algebra.specs.Matrix.{applied, columns, marked, rank, spills, target}
use Rattle.algebra.specs.Search.{which}
use Rattle.algebra.specs.Vector.{comb, unless_zero}
use Rattle.planning.proofs.Dimension.{powers, rank_span, spread, spread_all}
use Rattle.planning.proofs.Marks.{marks_span}
use Rattle.planning.proofs.Parts.{phi-comb}
use Rattle.planning.specs.Columns.{phi}
use Rattle.planning.specs.Making.{divided_up}
use Rattle.planning.specs.Pass.{Pass, performed}
use Rattle.algebra.proofs.Rank.{rank-which}

-- x is a sum of the listed vectors
abbrev InSpan : List ℕ → ℕ → Type 0
InSpan vs x = (s : ℕ) × (s < 2 ^ length vs) × (comb vs s ≡ x)

span_xor : (vs : List ℕ) (x y : ℕ) → InSpan vs x → InSpan vs y → InSpan vs (bit_xor x y)
span_xor vs x y a b = (bit_xor a.0 b.0, xor_lt (length vs) a.0 b.0 a.1 b.1, comb-xor vs a.0 b.0 ∙ ap₂ bit_xor a.2 b.2)

span_first : (u v : List ℕ) (x : ℕ) → InSpan u x → InSpan (u ++ v) x
span_first u v x a = (
  a.0,
  lt_of_lt_of_le a.1 (pow_mono (omega (arith, length-append u v))),
  sym (comb-take (length u) (u ++ v) a.0 a.1) ∙ ap (λ (l : List ℕ). comb l a.0) (take-append_seam u v) ∙ a.2,
)

span_second : (u v : List ℕ) (x : ℕ) → InSpan v x → InSpan (u ++ v) x
unfolding comb
span_second [] v x a = a
span_second (w ∷ u) v x a =
    let t = span_second u v x a in (
      t.0 * 2 + 0,
      subst (λ (k : ℕ). t.0 * 2 + 0 < k) (sym (pow-suc 2 (length (u ++ v)))) (digits_lt t.1 (lit< tt)),
      ap₂ (λ (p q : ℕ). bit_xor (unless_zero p w) (comb (u ++ v) q)) (digits_mod t.0 (lit< tt)) (digits_div t.0 (lit< tt))
          ∙ ap (λ (k : ℕ). bit_xor k (comb (u ++ v) t.0)) (unless_no 0 w refl) ∙ t.2,
    )

-- ---- one pass that does not spill: the lower part of what it makes of numbers below 2 ^ m is spanned by m - b vectors
module _ (b m : ℕ) (p : List ℕ) (dry : spills b m p ≡ false) where
  mid : List ℕ
  mid = take (m - b) (drop b p)

  M : List ℕ
  M = columns m mid

  f : ℕ → ℕ
  f x = applied p x / 2 ^ m

  f_linear : Linear f
  unfolding f
  f_linear = linear_after (λ v. v / 2 ^ m) (applied p) (lower_linear m) (apply_linear p)

  -- what the middle rows send to zero, the lower rows do
  through : (z : ℕ) → z < 2 ^ m → applied mid z ≡ 0 → f z ≡ 0
  unfolding f mid
  through z h e = ⊎_elim (λ (q : applied p z / 2 ^ m ≤ 0). le_antisymm q (omega arith))
      (λ (q : 0 < applied p z / 2 ^ m). absurd (true≢false (sym (spill_witness b m p z h e (λ r. omega (arith, q, apply_drop p m z, r))) ∙ dry)))
      (le_or_lt (applied p z / 2 ^ m) 0)

  abbrev picks : List ℕ
  picks = powers (which (marked M) m 0)

  vectors : List ℕ
  vectors = map f picks

  mid_lt : (z : ℕ) → applied mid z < 2 ^ (m - b)
  unfolding mid
  mid_lt z = lt_of_lt_of_le (apply_lt mid z) (pow_mono (simp length-take (omega arith)))

  vectors_few : length vectors ≤ m - b
  unfolding vectors M
  vectors_few =
      let few = rank_span M m (m - b) (λ s. s) (λ z h. (comb M z, rw (apply_columns m mid z h) (mid_lt z), refl)) in
      omega (arith, length-map picks f, length-map (which (marked M) m 0) (λ i. 2 ^ i), rank-which M m, few)

  vectors_span : (z : ℕ) → z < 2 ^ m → InSpan vectors (applied p z / 2 ^ m)
  unfolding vectors M f
  vectors_span z h =
      let y = marks_span M m m z (le_refl m) h in
      let w = spread_all (marked M) m y.0 y.1 y.2 in
      let zero-mid : applied mid (bit_xor z y.0) ≡ 0
      = apply_xor mid z y.0 ∙ ap₂ bit_xor (sym (apply_columns m mid z h)) (sym (apply_columns m mid y.0 y.1) ∙ y.3) ∙ xor_self (comb M z) in
      let same : f z ≡ f y.0
      = xor-eq (f z) (f y.0) (sym (f_linear.sum z y.0) ∙ through (bit_xor z y.0) (xor_lt m z y.0 h y.1) zero-mid) in (
        w.0,
        subst (λ (k : ℕ). w.0 < 2 ^ k) (sym (length-map picks f ∙ length-map (which (marked M) m 0) (λ i. 2 ^ i))) w.1,
        sym (linear_comb f f_linear picks w.0) ∙ ap f (is_spread w.0 ∙ w.2) ∙ sym same,
      )
    where
      is_spread : (w : ℕ) → comb picks w ≡ spread (marked M) m w
      is_spread w = unfold spread in refl

-- ---- passes one after the other
carried : List Pass → ℕ → ℕ
carried [] x = x
carried (p ∷ ps) x = carried ps (applied p.rows x)

carried_xor : (ps : List Pass) (x y : ℕ) → carried ps (bit_xor x y) ≡ bit_xor (carried ps x) (carried ps y)
unfolding carried
carried_xor [] x y = refl
carried_xor (p ∷ ps) x y = ap (carried ps) (apply_xor p.rows x y) ∙ carried_xor ps (applied p.rows x) (applied p.rows y)

carried_zero : (ps : List Pass) → carried ps 0 ≡ 0
unfolding carried
carried_zero [] = refl
carried_zero (p ∷ ps) = ap (carried ps) (apply_zero p.rows) ∙ carried_zero ps

carried_linear : (ps : List Pass) → Linear (carried ps)
carried_linear ps = record { none = carried_zero ps; sum = carried_xor ps }

-- complements only add what they make of 0
performed_is : (ps : List Pass) (x : ℕ) → performed ps x ≡ bit_xor (carried ps x) (performed ps 0)
unfolding performed carried target
performed_is [] x = sym (xor_zero_r x)
performed_is (p ∷ ps) x =
    let y = applied p.rows x in
    let c = p.complement in
    performed_is ps (bit_xor y c) ∙ ap (λ (k : ℕ). bit_xor k (performed ps 0)) (carried_xor ps y c) ∙ xor_assoc (carried ps y) (carried ps c) (performed ps 0)
    ∙ ap (bit_xor (carried ps y)) (sym (ap (λ (k : ℕ). performed ps (bit_xor k c)) (apply_zero p.rows) ∙ performed_is ps c))

-- the lower part of what k passes make of numbers below 2 ^ m is spanned by (m - b) * k vectors
passes_span : (b m : ℕ) (ps : List Pass) → All (λ p. spills b m p.rows ≡ false) ps
    → (vs : List ℕ) × (length vs ≤ (m - b) * length ps) × ((z : ℕ) → z < 2 ^ m → InSpan vs (carried ps z / 2 ^ m))
unfolding carried comb
passes_span b m [] d = ([], omega arith, λ z h. (0, pow_pos 0, sym (div-eq_of_lt h)))
passes_span b m (p ∷ ps) d =
    let ih = passes_span b m ps d.1 in
    let us = vectors b m p.rows d.0 in
    let h : ℕ → ℕ = λ v. carried ps (v * 2 ^ m) / 2 ^ m in (
      map h us ++ ih.0,
      omega (arith, length-append (map h us) ih.0, length-map us h, vectors_few b m p.rows d.0, ih.1, mul-suc (m - b) (length ps)),
      λ z l.
          let y = applied p.rows z in
          let s = vectors_span b m p.rows d.0 z l in
          subst (InSpan (map h us ++ ih.0)) (sym (low_high y))
          (span_xor (map h us ++ ih.0) (carried ps (y % 2 ^ m) / 2 ^ m) (carried ps (y / 2 ^ m * 2 ^ m) / 2 ^ m)
          (span_second (map h us) ih.0 (carried ps (y % 2 ^ m) / 2 ^ m) (ih.2 (y % 2 ^ m) (mod-lt y (pow_pos m))))
          (span_first (map h us) ih.0 (carried ps (y / 2 ^ m * 2 ^ m) / 2 ^ m)
          (s.0, subst (λ (k : ℕ). s.0 < 2 ^ k) (sym (length-map us h)) s.1, sym (linear_comb h h_linear us s.0) ∙ ap h s.2))),
    )
  where
    h_linear : Linear (λ v. carried ps (v * 2 ^ m) / 2 ^ m)
    h_linear =
        linear_after (λ v. v / 2 ^ m) (λ v. carried ps (v * 2 ^ m)) (lower_linear m)
        (linear_after (carried ps) (λ v. v * 2 ^ m) (carried_linear ps) (shl_linear m))

    low_high : (y : ℕ) → carried ps y / 2 ^ m ≡ bit_xor (carried ps (y % 2 ^ m) / 2 ^ m) (carried ps (y / 2 ^ m * 2 ^ m) / 2 ^ m)
    low_high y =
        ap (λ (k : ℕ). carried ps k / 2 ^ m) (sym (parts_xor m y))
        ∙ (linear_after (λ v. v / 2 ^ m) (carried ps) (lower_linear m) (carried_linear ps)).sum (y % 2 ^ m) (y / 2 ^ m * 2 ^ m)

-- ---- the bound, for any passes that do not spill and take every x to Ax xor c
module _ (n b m : ℕ) (hb : b < m) (hm : m ≤ n) (rows : List ℕ) (c : ℕ) (ps : List Pass)
    (dry : All (λ p. spills b m p.rows ≡ false) ps) (moves : (x : ℕ) → x < 2 ^ n → performed ps x ≡ target rows c x) where
  -- without complements they make A
  carried_is : (x : ℕ) → x < 2 ^ n → carried ps x ≡ applied rows x
  unfolding target
  carried_is x h =
      let k : performed ps 0 ≡ c = moves 0 (pow_pos n) ∙ ap (λ (u : ℕ). bit_xor u c) (apply_zero rows) in
      sym (xor_cancel_r (carried ps x) c) ∙ ap (λ (u : ℕ). bit_xor u c) (sym (performed_is ps x ∙ ap (bit_xor (carried ps x)) k) ∙ moves x h)
      ∙ xor_cancel_r (applied rows x) c

  rank_bound : rank (phi m (columns n rows)) m ≤ (m - b) * length ps
  rank_bound =
      let v = passes_span b m ps dry in
      let F = phi m (columns n rows) in
      let up : (z : ℕ) → z < 2 ^ m → z < 2 ^ n = λ z h. lt_of_lt_of_le h (pow_mono hm) in
      let low : (z : ℕ) → z < 2 ^ m → carried ps z / 2 ^ m ≡ comb F z
      = λ z h. ap (λ (u : ℕ). u / 2 ^ m) (carried_is z (up z h) ∙ sym (apply_columns n rows z (up z h))) ∙ sym (phi-comb m (columns n rows) z h) in
      le_trans (rank_span F m (length v.0) (comb v.0) (λ z h. let t = v.2 z h in (t.0, t.1, t.2 ∙ low z h))) v.1

  -- at least rank φ divided by m - b passes, rounded up
  pub passes_bound : divided_up (rank (phi m (columns n rows)) m) (m - b) ≤ length ps
  unfolding divided_up
  passes_bound =
      let r = rank (phi m (columns n rows)) m in
      let k = m - b in
      let q : (r + (k - 1)) / k < suc (length ps)
      = (div-lt_iff_lt-mul {k = k} {x = r + (k - 1)} {y = suc (length ps)} (omega arith)).1
      (omega (arith, rank_bound, mul_comm (suc (length ps)) k, mul-suc k (length ps))) in
      omega (arith, q)
