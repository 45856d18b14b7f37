-- What is answered to an address question? Assumes nothing.
use mathlib.Core.Path.{◌≡◌, refl, sym, ap, ap₂, subst, ◌∙◌}
use mathlib.Core.Bool.{Bool, true, false, cond, true≢false}
use mathlib.Core.List.{[], ◌∷◌}
use Prim.Native.Nat.{ℕ, zero, suc, ◌%◌, ◌≤◌, ◌<◌, ◌^◌}
use native.Mathlib.Nat.{lt_of_lt_of_le, mod-eq_of_lt, mod-lt}
use native.Mathlib.Omega.{arith}
use borrow.Author.Tests.{le-leb, leb-false, lt-leb}
use lib.Dec.{leb}
use lib.ListN.{length-take}
use lib.Pow.{pow_mono, pow_pos}
use Rattle.bank.specs.Limits.{ROWS}
use Rattle.bank.proofs.Limits.{limits→allowed}
use Rattle.bank.specs.Geometry.{records}
use Rattle.bank.specs.Checks.{refuse, or_later, handed}
use Rattle.bank.specs.Refusal.{number_of, z_of}
use Rattle.bank.specs.declared.refusal.Refusal.{Refusal}
use Rattle.bank.specs.declared.refusal.Refusal.TheVariants.{Singular, Beyond}
use Rattle.bank.proofs.Refusals.{refuses, z_else}
use Rattle.std.specs.Prelude.{Result, Ok, Err}
use Rattle.std.specs.Result.{is_err}
use Rattle.algebra.specs.Matrix.{target, source, singular}
use Rattle.algebra.specs.Vector.{WORD}
use Rattle.algebra.proofs.Inverse.{target-lt}
use Rattle.elimination.specs.Solved.{solved_for}
use Rattle.order.specs.Order.{matrix_of, form_number, judgement, verdict, with_z, z_with}
use Rattle.addresses.specs.Address.{question_number, sent_to, target_of, meaning_of, found_for}
use Rattle.addresses.specs.Address.Source.{From, Refused}
use Rattle.addresses.specs.Answered.{answer_of}
use Rattle.order.proofs.Judged.{form_other, formed_z, z_other, form_z, or_later_none, or_later_refuse, or_later_stops, form_none, judgement_form, judgement_formed, refuse_none}
use Rattle.order.proofs.Accepted.{judgement→accepted, complement_below}
use Rattle.order.specs.declared.Order.{Order}
use Rattle.order.specs.declared.Verdict.{Verdict}
use Rattle.addresses.specs.declared.Target.{Target}

-- an address of n bits is a word
pub in_word : (n x : ℕ) → n ≤ ROWS → x < 2 ^ n → x < 2 ^ WORD
in_word n x few h = lt_of_lt_of_le h (pow_mono {i = n} {j = WORD} (omega arith))

-- a refusal hands back the other thing
handed_refused : {A : Type 0} (k : ℕ) (result other : A) → (k ≡ 0 → ⊥) → handed k result other ≡ other
handed_refused zero result other f = absurd (f refl)
handed_refused (suc k) result other f = refl

-- 10, or none
ten_not_three : (far : Bool) → refuse far 10 0 ≡ 3 → ⊥
ten_not_three true e = omega (arith, e)
ten_not_three false e = omega (arith, e)

module _ (order : Order) (x : ℕ) where
  -- ---- the number
  pub number_order : (judgement order ≡ 0 → ⊥) → question_number order x ≡ judgement order
  unfolding question_number
  number_order f = or_later_stops (judgement order) (refuse (leb (records order.geometry) x) 10 0) f

  pub number_taken : judgement order ≡ 0 → question_number order x ≡ refuse (leb (records order.geometry) x) 10 0
  unfolding question_number
  number_taken e = rw e

  pub number_ten : judgement order ≡ 0 → records order.geometry ≤ x → question_number order x ≡ 10
  number_ten e h = number_taken e ∙ ap (λ (t : Bool). refuse t 10 0) (le-leb (records order.geometry) x h)

  pub number_none : judgement order ≡ 0 → x < records order.geometry → question_number order x ≡ 0
  number_none e h = number_taken e ∙ ap (λ (t : Bool). refuse t 10 0) (lt-leb (records order.geometry) x h)

  pub number_form : (form_number order ≡ 0 → ⊥) → question_number order x ≡ form_number order
  number_form f = number_order (λ z. f (sym (judgement_form order f) ∙ z)) ∙ judgement_form order f

  number_formed : form_number order ≡ 0
      → question_number order x ≡ refuse (singular order.geometry.n (matrix_of order)) 3 (refuse (leb (records order.geometry) x) 10 0)
  unfolding question_number
  number_formed e =
      let far = refuse (leb (records order.geometry) x) 10 0 in
      ap (λ (k : ℕ). or_later k far) (judgement_formed order e) ∙ or_later_refuse (singular order.geometry.n (matrix_of order)) 2 far

  -- ---- the number and z: the order's own, or else no z
  pub question_judged : (judgement order ≡ 0 → ⊥) → verdict order ≡ with_z (question_number order x) order
  question_judged f = ap (λ (k : ℕ). with_z k order) (sym (number_order f))

  pub question_taken : (k : ℕ) → judgement order ≡ 0 → k ≡ refuse (leb (records order.geometry) x) 10 0
      → ◌≡◌ {A = Verdict} (record { number = k; z = record { 0 = 0 } }) (with_z (question_number order x) order)
  question_taken k e q =
      let number = q ∙ sym (number_taken e) in
      let none = z_other order (λ t. ten_not_three (leb (records order.geometry) x) (sym (number_taken e) ∙ t)) in
      ap₂ {C = Verdict} (λ (k z : ℕ). record { number = k; z = record { 0 = z } }) number (sym none)

  pub question_three : question_number order x ≡ 3 → judgement order ≡ 3
  unfolding question_number
  question_three e = go (judgement order) refl e
    where
      go : (k : ℕ) → judgement order ≡ k → or_later k (refuse (leb (records order.geometry) x) 10 0) ≡ 3 → judgement order ≡ 3
      go zero j e = absurd (ten_not_three (leb (records order.geometry) x) e)
      go (suc k) j e = j ∙ e

  -- nothing is refused exactly where the order is taken and the address is below N
  none_means : question_number order x ≡ 0 → (judgement order ≡ 0) × (x < records order.geometry)
  unfolding question_number
  none_means e =
      let far = leb (records order.geometry) x in
      let o = or_later_none (judgement order) (refuse far 10 0) e in
      (o.0, leb-false (records order.geometry) x (refuse_none far 9 0 o.1).0)

  -- what A is applied to, once nothing is refused
  pub settled : question_number order x ≡ 0 → (order.geometry.n ≤ ROWS) × (x < 2 ^ order.geometry.n)
  settled e =
      let m = none_means e in
      ((limits→allowed order.geometry (judgement→accepted order m.0).inside).n_high, m.1)

  -- and what it gives: an address below N
  pub sent_below : question_number order x ≡ 0 → sent_to order x < 2 ^ order.geometry.n
  sent_below e =
      let a = judgement→accepted order (none_means e).0 in
      target-lt order.geometry.n (matrix_of order) a.regular (omega (arith, length-take order.geometry.n order.rows)) order.complement x
      (complement_below order a.form)

  -- ---- the answers, by the number
  pub target-refused : (v : Verdict) → v ≡ with_z (question_number order x) order → (v.number ≡ 0 → ⊥)
      → ◌≡◌ {A = Target} (record { number = v.number; address = record { 0 = 0 }; z = v.z }) (target_of order x)
  unfolding target_of
  target-refused v e f =
      let number = ap (λ (v : Verdict). v.number) e in
      ap (λ (v : Verdict). record { number = v.number; address = record { 0 = 0 }; z = v.z }) e
      ∙ rw (handed_refused (question_number order x) (sent_to order x) 0 (λ z. f (number ∙ z)))

  pub target_given : (y : ℕ) → question_number order x ≡ 0 → y ≡ target (matrix_of order) order.complement x
      → ◌≡◌ {A = Target} (record { number = 0; address = record { 0 = y }; z = record { 0 = 0 } }) (target_of order x)
  unfolding target_of z_with
  target_given y e q = rw e (ap (λ (k : ℕ). record { number = 0; address = record { 0 = k }; z = record { 0 = 0 } }) q)

  -- read off an answer
  module _ (t : Target) (answer : t ≡ target_of order x) where
    pub target_number : t.number ≡ question_number order x
    unfolding target_of
    target_number = ap (λ (t : Target). t.number) answer

    pub target_address : question_number order x ≡ 0 → t.address.0 ≡ sent_to order x
    unfolding target_of
    target_address e = ap (λ (t : Target). t.address.0) answer ∙ rw e

  pub source-refused : (k z : ℕ) → k ≡ question_number order x → z ≡ z_with (question_number order x) order → (k ≡ 0 → ⊥)
      → meaning_of (Refused k (record { 0 = z })) ≡ found_for order x
  unfolding meaning_of found_for
  source-refused k z e w f = rw (w, ← e, handed_refused k (source order.geometry.n (matrix_of order) order.complement x ∷ []) [] f)

  pub source_given : (y : ℕ) → question_number order x ≡ 0 → y ≡ source order.geometry.n (matrix_of order) order.complement x
      → meaning_of (From (record { 0 = y })) ≡ found_for order x
  unfolding meaning_of found_for z_with
  source_given y e q = rw e (ap (λ (k : ℕ). record { number = 0; z = 0; sources = k ∷ [] }) q)

  -- a refusal by the form's number
  pub source_formless : (r : Refusal) → number_of r ≡ form_number order → meaning_of (answer_of (Err r)) ≡ found_for order x
  source_formless r e =
      let number = number_form (λ z. refuses r (e ∙ z)) in
      let none = ap (λ (k : ℕ). z_with k order) number ∙ form_z order in
      source-refused (number_of r) (z_of r).0 (e ∙ sym number) (z_else r (λ t. form_other order (sym e ∙ t)) ∙ sym none) (refuses r)

-- ---- what one elimination answers
answered : Result ℕ ℕ → ℕ
answered (Ok y) = y
answered (Err z) = z

solved_regular : (t : Bool) (y k s : ℕ) → Ok y ≡ cond t (Err k) (Ok s) → (t ≡ false) × (y ≡ s)
unfolding answered
solved_regular true y k s e = absurd (true≢false (sym (ap is_err e)))
solved_regular false y k s e = (refl, ap answered e)

solved_singular : (t : Bool) (z k s : ℕ) → Err z ≡ cond t (Err k) (Ok s) → (t ≡ true) × (z ≡ k)
unfolding answered
solved_singular true z k s e = (refl, ap answered e)
solved_singular false z k s e = absurd (true≢false (ap is_err e))

-- ---- an order in good form, and the low n bits of x, of which one elimination tells whether A is singular, and the source
module _ (order : Order) (x size : ℕ) (is : size ≡ records order.geometry) (form : form_number order ≡ 0) where
  pub solvable : (order.geometry.n ≤ ROWS) × (order.complement < 2 ^ order.geometry.n) × (x % size < 2 ^ order.geometry.n)
  solvable =
      let f = form_none order form in (
        (limits→allowed order.geometry f.0).n_high,
        complement_below order f.1,
        subst (λ (k : ℕ). x % k < records order.geometry) (sym is) (mod-lt x (pow_pos order.geometry.n)),
      )

  pub singular_solved : (z : ℕ) → Err z ≡ solved_for order.geometry.n (matrix_of order) order.complement (x % size)
      → meaning_of (answer_of (Err (Singular (record { 0 = z })))) ≡ found_for order x
  unfolding solved_for
  singular_solved z answer =
      let far = leb (records order.geometry) x in
      let s = solved_singular _ _ _ _ answer in
      let number = number_formed order x form in
      source-refused order x 3 z (sym (number ∙ ap (λ (t : Bool). refuse t 3 (refuse far 10 0)) s.0))
      (s.1 ∙ sym (ap (λ (k : ℕ). z_with k order) number ∙ formed_z order (refuse far 10 0) (ten_not_three far))) (λ e. omega (arith, e))

  module _ (y : ℕ) (answer : Ok y ≡ solved_for order.geometry.n (matrix_of order) order.complement (x % size)) where
    solved : (singular order.geometry.n (matrix_of order) ≡ false) × (y ≡ source order.geometry.n (matrix_of order) order.complement (x % size))
    unfolding solved_for
    solved = solved_regular _ _ _ _ answer

    taken : judgement order ≡ 0
    taken = judgement_formed order form ∙ ap (λ (t : Bool). refuse t 3 0) solved.0

    pub far_solved : size ≤ x → meaning_of (answer_of (Err Beyond)) ≡ found_for order x
    far_solved h =
        let number = number_ten order x taken (subst (λ (k : ℕ). k ≤ x) is h) in
        source-refused order x 10 0 (sym number) (sym (z_other order (λ e. absurd (omega (arith, sym number ∙ e))))) (λ e. omega (arith, e))

    pub source_solved : x < size → meaning_of (answer_of (Ok (record { 0 = y }))) ≡ found_for order x
    source_solved h =
        let below = subst (λ (k : ℕ). x < k) is h in
        let low : x % size ≡ x = ap (λ (k : ℕ). x % k) is ∙ mod-eq_of_lt below in
        source_given order x y (number_none order x taken below)
        (solved.1 ∙ ap (λ (k : ℕ). source order.geometry.n (matrix_of order) order.complement k) low)
