-- Which orders does our mover take, and where does it send an address? Our mover has demand 2. Assumes nothing.
use mathlib.Core.Path.{◌≡◌, refl, sym, ap, ◌∙◌, subst}
use mathlib.Core.Bool.{Bool, true, false, cond, true≢false}
use mathlib.Core.Logic.{◌↔◌, ◌⊎◌, inl, inr}
use Prim.Native.Nat.{ℕ, ◌<◌, ◌≤◌}
use native.Mathlib.Omega.{arith}
use lib.Dec.{eqb}
use lib.ListN.{length}
use Rattle.algebra.proofs.Search.{le_or_lt, same_or}
use Rattle.algebra.specs.Matrix.{singular}
use Rattle.bank.specs.Geometry.{in_limits, records}
use Rattle.bank.specs.Limits.{ROWS}
use Rattle.order.specs.declared.Order.{Order}
use Rattle.addresses.specs.Address.{Source}
use Rattle.order.specs.Order.{bad_form, judgement, matrix_of}
use Rattle.addresses.specs.Address.{Found, found_for, meaning_of, question_number, target_of}
use Rattle.addresses.proofs.Asked.{number_none, number_order, number_ten, target_number}
use Rattle.order.proofs.Judged.{formless, outside_limits, regular_none, singular_three, word_form}
use Rattle.order.proofs.Main.{shared_target→three, three→shared_target}
use Rattle.addresses.proofs.Main.{comes, sends}
use Rattle.demands.specs.Ours.{ours}
use Rattle.demands.specs.Numbers.{Refusal}
use Rattle.demands.specs.Sends.{Formed, OnlySource, Sends, SharedTarget}
use Rattle.demands.proofs.Numbers.{exactly}

module _ (order : Order) where
  -- ---- the number of an order
  abbrev Formless : Type 0
  Formless = (in_limits order.geometry ≡ true) × (bad_form order ≡ true)

  abbrev order_due : ℕ → Type 0
  order_due j =
      cond (eqb j 1) (in_limits order.geometry ≡ false)
      (cond (eqb j 2) Formless
      (cond (eqb j 3) (Formed order × SharedTarget order)
      (cond (eqb j 0) (Formed order × (SharedTarget order → ⊥)) ⊥)))

  shared_three : Formed order × SharedTarget order → judgement order ≡ 3
  shared_three d =
      let s = d.1.2 in
      shared_target→three order d.0.0 d.0.1
      (record { x = d.1.0; y = d.1.1; x_lt = s.x_below; y_lt = s.y_below; apart = s.different; same = s.shared })

  three_shares : Formed order → judgement order ≡ 3 → SharedTarget order
  three_shares f e =
      let k = three→shared_target order f.0 f.1 e in
      (k.x, k.y, record { x_below = k.x_lt; y_below = k.y_lt; different = k.apart; shared = k.same })

  -- an order in good form is judged 3 or 0
  formed_judged : Formed order → (judgement order ≡ 3) ⊎ (judgement order ≡ 0)
  formed_judged f = go (singular order.geometry.n (matrix_of order)) refl
    where
      go : (s : Bool) → singular order.geometry.n (matrix_of order) ≡ s → (judgement order ≡ 3) ⊎ (judgement order ≡ 0)
      go true e = inl (singular_three order f.0 f.1 e)
      go false e = inr (regular_none order f.0 f.1 e)

  apart_taken : Formed order × (SharedTarget order → ⊥) → judgement order ≡ 0
  apart_taken d = go (formed_judged d.0)
    where
      go : (judgement order ≡ 3) ⊎ (judgement order ≡ 0) → judgement order ≡ 0
      go (inl e) = absurd (d.1 (three_shares d.0 e))
      go (inr e) = e

  order_due_lem : order_due (judgement order)
  order_due_lem = go (in_limits order.geometry) (bad_form order) refl refl
    where
      formed : Formed order → (judgement order ≡ 3) ⊎ (judgement order ≡ 0) → order_due (judgement order)
      formed f (inl e) = subst order_due (sym e) (f, three_shares f e)
      formed f (inr e) = subst order_due (sym e) (f, λ s. omega (arith, e, shared_three (f, s)))

      go : (l b : Bool) → in_limits order.geometry ≡ l → bad_form order ≡ b → order_due (judgement order)
      go false b p q = subst order_due (sym (outside_limits order p)) p
      go true true p q = subst order_due (sym (formless order p q)) (p, q)
      go true false p q = formed (p, q) (formed_judged (p, q))

  -- ---- the number of a question
  module _ (x : ℕ) where
    abbrev Far : Type 0
    Far = (judgement order ≡ 0) × (records order.geometry ≤ x)

    ten_far : question_number order x ≡ 10 → Far
    ten_far e = go (same_or (judgement order) 0) (le_or_lt (records order.geometry) x)
      where
        go : (judgement order ≡ 0) ⊎ (judgement order ≡ 0 → ⊥) → (records order.geometry ≤ x) ⊎ (x < records order.geometry) → Far
        go (inl t) (inl h) = (t, h)
        go (inl t) (inr h) = absurd (omega (arith, e, number_none order x t h))
        go (inr f) s = absurd (subst order_due (sym (number_order order x f) ∙ e) order_due_lem)

    module _ (number : ℕ) (is : number ≡ question_number order x) where
      asked_judged : Refusal (judgement order) → number ≡ judgement order
      asked_judged f = is ∙ number_order order x f

      asked_10 : (number ≡ 10) ↔ Far
      asked_10 = (λ e. ten_far (sym is ∙ e), λ d. is ∙ number_ten order x d.0 d.1)

  source_number : (y : ℕ) (a : Source) → meaning_of a ≡ found_for order y → (meaning_of a).number ≡ question_number order y
  unfolding found_for
  source_number y a p = ap (λ (f : Found). f.number) p

  -- ---- asked backwards
  only_source : length order.rows ≡ ROWS → judgement order ≡ 0 → (y : ℕ) → y < records order.geometry → OnlySource ours order y
  only_source room taken y h =
      let k = comes order room taken y h in
      record { x = k.from; given = λ answer p. p ∙ k.answer; below = k.below; goes = k.goes; only = k.only }

pub ours-sends : Sends ours
ours-sends order room =
    let gives = exactly (order_due order) refl (order_due_lem order) in
    let gives_2 = gives 2 (λ d. formless order d.0 d.1) in
    record {
      sends = sends order room;
      returns = only_source order room;
      gives_3 = gives 3 (shared_three order);
      gives_1 = gives 1 (outside_limits order);
      gives_2 = gives_2;
      gives_0 = gives 0 (apart_taken order);
      never_2 = λ w n e. true≢false (sym (gives_2.0 e).1 ∙ word_form order w n);
      asks_judged = λ x. asked_judged order x (target_of order x).number (target_number order x (target_of order x) refl);
      asks_10 = λ x. asked_10 order x (target_of order x).number (target_number order x (target_of order x) refl);
      back_judged = λ y a p. asked_judged order y (meaning_of a).number (source_number order y a p);
      back_10 = λ y a p. asked_10 order y (meaning_of a).number (source_number order y a p);
    }
