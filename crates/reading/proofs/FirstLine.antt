-- Which first line does a reader find? Assumes nothing.
use Rattle.std.specs.Prelude.{Option, Some, None}
use mathlib.Core.Path.{◌≡◌, refl, sym, ap, ◌∙◌, subst}
use mathlib.Core.Bool.{Bool, true, false, cond}
use mathlib.Core.List.{List, [], ◌∷◌, ◌++◌, append_assoc}
use Prim.Native.Nat.{ℕ, suc, ◌+◌, ◌<◌}
use native.Mathlib.Omega.{arith}
use native.Mathlib.Numerals.{add-one}
use borrow.Author.Tests.{lt-ltb, eq-eqb, ltb-true, eqb-true}
use lib.Dec.{ltb, eqb}
use lib.ListN.{length, get_or, drop, length-drop}
use lib.Seq.{drop-cons, drop-drop, drop-append_seam}
use Rattle.bank.specs.declared.Geometry.{Geometry}
use Rattle.text.specs.Lines.{decimal}
use Rattle.reading.specs.OrderText.{first_line}
use Rattle.reading.specs.Reading.{Begins}
use Rattle.reading.specs.Parsing.{number_at, ended, field_at, if_read, up_to_r, up_to_m, up_to_d, up_to_b, first_line_at}
use Rattle.reading.proofs.Numbers.{NumberAt, NumberIf, number_if, number_forth}

-- ---- a field: a number and the byte that ends it
record FieldAt (s : List ℕ) (at end v k : ℕ) : Type 0 where
  pub short : v < 1000
  pub is : drop at s ≡ decimal v ++ (end ∷ drop k s)

abbrev FieldIf : List ℕ → ℕ → ℕ → Option (ℕ × ℕ) → Type 0
FieldIf s at end (Some (v, k)) = FieldAt s at end v k
FieldIf s at end None = Unit {0}

module _ (s : List ℕ) (at end : ℕ) where
  by_tests : (v j : ℕ) → NumberAt s at v j → (t u : Bool) → ltb j (length s) ≡ t → eqb (get_or s j 0) end ≡ u
      → FieldIf s at end (cond t (cond u (Some (v, j + 1)) None) None)
  by_tests v j r false u p q = tt
  by_tests v j r true false p q = tt
  by_tests v j r true true p q =
      record { short = r.short; is = r.is ∙ rw (drop-cons s j 0 (ltb-true j (length s) p), eqb-true (get_or s j 0) end q, add-one j) }

  by_number : (p : Option (ℕ × ℕ)) → NumberIf s at p → FieldIf s at end (ended s end p)
  by_number None r = tt
  by_number (Some (v, j)) r = by_tests v j r (ltb j (length s)) (eqb (get_or s j 0) end) refl refl

  field_if : FieldIf s at end (field_at s at end)
  unfolding field_at
  field_if = by_number (number_at s at) (number_if s at)

-- a field read, and what is left from there on
record FieldRead (s : List ℕ) (at end v : ℕ) (rest : List ℕ) : Type 0 where
  pub past : ℕ
  pub read : field_at s at end ≡ Some (v, past)
  pub left : drop past s ≡ rest

field_forth : (s : List ℕ) (at end v : ℕ) (rest : List ℕ) → v < 1000 → end < 48 → drop at s ≡ decimal v ++ (end ∷ rest) → FieldRead s at end v rest
unfolding field_at
field_forth s at end v rest short low is =
    let k = at + length (decimal v) in
    let there : drop k s ≡ end ∷ rest =
    sym (drop-drop (length (decimal v)) at s) ∙ ap (drop (length (decimal v))) is ∙ drop-append_seam (decimal v) (end ∷ rest) in
    let inside : k < length s = omega (arith, sym (length-drop k s) ∙ ap length there) in
    let cons : get_or s k 0 ∷ drop (suc k) s ≡ end ∷ rest = sym (drop-cons s k 0 inside) ∙ there in
    record {
      past = k + 1;
      read = rw (number_forth s at v end rest low is short, lt-ltb k (length s) inside, eq-eqb (get_or s k 0) end (cc));
      left = rw (add-one k) (cc);
    }

-- ---- the first line, field by field
spaced : (a y t l : List ℕ) → y ++ t ≡ l → (a ++ (32 ∷ y)) ++ t ≡ a ++ (32 ∷ l)
spaced a y t l e = append_assoc a (32 ∷ y) t ∙ ap (λ (z : List ℕ). a ++ (32 ∷ z)) e

first_line_is : (g : Geometry) (rest : List ℕ) → first_line g ++ rest
    ≡ decimal g.n ++ (32 ∷ (decimal g.b ++ (32 ∷ (decimal g.d ++ (32 ∷ (decimal g.m ++ (32 ∷ (decimal g.r ++ (10 ∷ rest)))))))))
unfolding first_line
first_line_is g rest =
    append_assoc (decimal g.n ++ _) (10 ∷ []) rest
    ∙ spaced (decimal g.n) _ _ _ (spaced (decimal g.b) _ _ _ (spaced (decimal g.d) _ _ _ (spaced (decimal g.m) _ _ _ refl)))

pub first_line_forth : (text : List ℕ) (g : Geometry) → Begins text g → (e : ℕ) × (first_line_at text ≡ Some (g, e))
unfolding first_line_at
first_line_forth text g begins =
    let e = begins.is ∙ first_line_is g begins.rest in
    let f1 = field_forth text 0 32 g.n _ begins.n_short (omega arith) e in
    let f2 = field_forth text f1.past 32 g.b _ begins.b_short (omega arith) f1.left in
    let f3 = field_forth text f2.past 32 g.d _ begins.d_short (omega arith) f2.left in
    let f4 = field_forth text f3.past 32 g.m _ begins.m_short (omega arith) f3.left in
    let f5 = field_forth text f4.past 10 g.r _ begins.r_short (omega arith) f4.left in
    (f5.past, simp (f1.read, f2.read, f3.read, f4.read, f5.read))

-- a first line read stands there, and what is left follows it
pub record FirstAt (text : List ℕ) (g : Geometry) (e : ℕ) : Type 0 where
  pub begins : Begins text g
  pub is : text ≡ first_line g ++ drop e text

-- five fields, one after the other
five_fields : (text : List ℕ) (n b d m r i j k l e : ℕ) → FieldAt text 0 32 n i → FieldAt text i 32 b j → FieldAt text j 32 d k
    → FieldAt text k 32 m l → FieldAt text l 10 r e → FirstAt text (record { n = n; b = b; d = d; m = m; r = r }) e
five_fields text n b d m r i j k l e f1 f2 f3 f4 f5 =
    let g : Geometry = record { n = n; b = b; d = d; m = m; r = r } in
    let is : text ≡ first_line g ++ drop e text = f1.is ∙ rw (f2.is, f3.is, f4.is, f5.is) (sym (first_line_is g (drop e text))) in
    record {
      begins = record { n_short = f1.short; b_short = f2.short; d_short = f3.short; m_short = f4.short; r_short = f5.short; rest = drop e text; is = is };
      is = is;
    }

abbrev FirstIf : List ℕ → Option (Geometry × ℕ) → Type 0
FirstIf text (Some (g, e)) = FirstAt text g e
FirstIf text None = Unit {0}

-- a line is as each field that it may go on from would have it
by_field : (text : List ℕ) (at end : ℕ) (f : ℕ → ℕ → Option (Geometry × ℕ)) → ((v k : ℕ) → FieldAt text at end v k → FirstIf text (f v k))
    → FirstIf text (if_read (field_at text at end) f)
by_field text at end f some = go (field_at text at end) (field_if text at end)
  where
    go : (p : Option (ℕ × ℕ)) → FieldIf text at end p → FirstIf text (if_read p f)
    go None r = tt
    go (Some (v, k)) r = some v k r

first_line_if : (text : List ℕ) → FirstIf text (first_line_at text)
unfolding first_line_at
first_line_if text =
    by_field text 0 32 (up_to_b text) (λ n i f1.
    by_field text i 32 (up_to_d text n) (λ b j f2.
    by_field text j 32 (up_to_m text n b) (λ d k f3.
    by_field text k 32 (up_to_r text n b d) (λ m l f4.
    by_field text l 10 (λ r e. Some (record { n = n; b = b; d = d; m = m; r = r }, e)) (λ r e f5.
    five_fields text n b d m r i j k l e f1 f2 f3 f4 f5)))))

pub first_line_back : (text : List ℕ) (g : Geometry) (e : ℕ) → first_line_at text ≡ Some (g, e) → FirstAt text g e
first_line_back text g e h = subst (FirstIf text) h (first_line_if text)

-- one first line only
pub one_first_line : (text : List ℕ) (g h : Geometry) → Begins text g → Begins text h → g ≡ h
one_first_line text g h p q =
    let a = first_line_forth text g p in
    let b = first_line_forth text h q in
    let e : ◌≡◌ {A = Geometry × ℕ} (g, a.0) (h, b.0) = cc (a.1, b.1) in
    ap (λ (r : Geometry × ℕ). r.0) e
