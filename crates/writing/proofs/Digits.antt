-- Which digits of a number stand in the room, when they are written from the last on? Assumes nothing.
use mathlib.Core.Path.{◌≡◌, refl, sym, ap, ◌∙◌}
use mathlib.Core.List.{List, [], ◌∷◌, ◌++◌, append_assoc, append-nil}
use Prim.Native.Nat.{ℕ, ◌+◌, ◌-◌, ◌/◌, ◌%◌, ◌^◌, ◌<◌, ◌≤◌}
use native.Mathlib.Omega.{arith}
use borrow.Author.Tests.{ltb-false, ltb-true}
use borrow.Table.Steps.{cases}
use lib.Dec.{ltb}
use lib.ListN.{length, set, length-append}
use Rattle.text.specs.Lines.{decimal}
use Rattle.text.proofs.Decimals.{decimal_one, decimal_more, decimal_longer}
use Rattle.writing.specs.Written.{put}
use Rattle.writing.proofs.Put.{put_nil, put_before}

-- ---- the digits are written from the last on: those from place i on stand there, and x is what is left of v
pub record Partly (room : List ℕ) (at v : ℕ) (after : List ℕ) (i x : ℕ) : Type 0 where
  pub low : x ≤ v
  pub front : List ℕ
  pub back : List ℕ
  pub split : decimal v ≡ front ++ back
  pub place : i ≡ at + length front
  pub left : at < i → front ≡ decimal x
  pub is : after ≡ put room i back

pub partly_none : (room : List ℕ) (at v end : ℕ) → end ≡ at + length (decimal v) → Partly room at v room end v
partly_none room at v end e =
    record {
      low = omega arith;
      front = decimal v;
      back = [];
      split = sym (append-nil (decimal v));
      place = e;
      left = λ h. refl;
      is = sym (put_nil room end);
    }

module _ {room : List ℕ} {at v : ℕ} {after : List ℕ} {i x : ℕ} (p : Partly room at v after i x) (fits : at + length (decimal v) ≤ length room) where
  partly_fits : i + length p.back ≡ at + length (decimal v)
  partly_fits = omega (arith, p.place, ap length p.split, length-append p.front p.back)

  -- the digit before place i is the last one of x
  pub partly_more : v < 2 ^ 64 → at < i → Partly room at v (set after (i - 1) (48 + x % 10)) (i - 1) (x / 10)
  partly_more wide h = cases (ltb x 10) (λ e. last (ltb-true x 10 e)) (λ e. more (ltb-false x 10 e))
    where
      digit : ℕ
      digit = 48 + x % 10

      one : i ≡ i - 1 + 1
      one = omega arith

      written : set after (i - 1) digit ≡ put room (i - 1) (digit ∷ p.back)
      written =
          ap (λ (l : List ℕ). set l (i - 1) digit) (p.is ∙ ap (λ (k : ℕ). put room k p.back) one)
          ∙ put_before room (i - 1) digit p.back (omega (arith, partly_fits))

      more : 10 ≤ x → Partly room at v (set after (i - 1) digit) (i - 1) (x / 10)
      more g =
          let e = decimal_more x g (omega (arith, p.low)) in
          let long = decimal_longer x g (omega (arith, p.low)) in
          record {
            low = omega (arith, p.low);
            front = decimal (x / 10);
            back = digit ∷ p.back;
            split = p.split ∙ rw (p.left h, e) (append_assoc (decimal (x / 10)) (digit ∷ []) p.back);
            place = omega (arith, p.place, ap length (p.left h));
            left = λ k. refl;
            is = written;
          }

      last : x < 10 → Partly room at v (set after (i - 1) digit) (i - 1) (x / 10)
      last g =
          let e : decimal x ≡ digit ∷ [] = decimal_one x g ∙ ap (λ (k : ℕ). (48 + k) ∷ []) (omega arith) in
          let first : i - 1 ≡ at = omega (arith, p.place, ap length (p.left h ∙ e)) in
          record {
            low = omega (arith, p.low);
            front = [];
            back = digit ∷ p.back;
            split = p.split ∙ rw (p.left h, e);
            place = omega arith;
            left = λ k. absurd (omega arith);
            is = written;
          }
