-- What is a room after several texts were written, one after the other? Assumes nothing.
use mathlib.Core.Path.{◌≡◌, refl, sym, ap, ◌∙◌}
use mathlib.Core.List.{List, [], ◌∷◌, ◌++◌, append_assoc}
use Prim.Native.Nat.{ℕ, suc, ◌+◌, ◌-◌, ◌≤◌, ◌<◌}
use native.Mathlib.Omega.{arith}
use native.Mathlib.Numerals.{add-one}
use borrow.Rule.Slice.PartMut.{put_mid}
use lib.ListN.{length, set, take, drop, length-append, take-append-drop}
use lib.Seq.{length-take-le, take-length, drop-drop, set-append_left, set_split, take-set-lt, take-suc-set, append_snoc}
use lib.Seq.{paste, length-paste, take-paste, drop-paste}
use Rattle.text.specs.Lines.{line, decimal}
use Rattle.writing.specs.Written.{put, Wrote}

pub put_nil : (room : List ℕ) (at : ℕ) → put room at [] ≡ room
unfolding put
put_nil room at = let z : at + 0 ≡ at = omega arith in rw z (take-append-drop at room)

module _ (room : List ℕ) (at : ℕ) (t : List ℕ) (fits : at + length t ≤ length room) where
  -- the whole text, copied in
  pasted : put room at t ≡ paste room at t (length t)
  unfolding put
  pasted = rw (take-length t) (sym (append_assoc (take at room) t (drop (at + length t) room)))

  pub length-put : length (put room at t) ≡ length room
  length-put = ap length pasted ∙ length-paste room at t (length t) fits (omega arith)

  -- one text after the other
  put-put : (u : List ℕ) → put (put room at t) (at + length t) u ≡ put room at (t ++ u)
  unfolding put
  put-put u =
      let k = at + length t in
      let longer : k + length u ≡ at + length (t ++ u) = omega (arith, length-append t u) in
      let front : take k (put room at t) ≡ take at room ++ t =
      ap (take k) pasted ∙ take-paste room at t (length t) (omega arith) (omega arith) ∙ rw (take-length t) in
      let back : drop k (put room at t) ≡ drop k room = ap (drop k) pasted ∙ drop-paste room at t (length t) (omega arith) (omega arith) in
      let beyond : drop (k + length u) (put room at t) ≡ drop (at + length (t ++ u)) room =
      sym (drop-drop (length u) k (put room at t)) ∙ ap (drop (length u)) back ∙ drop-drop (length u) k room
      ∙ ap (λ (i : ℕ). drop i room) longer in
      rw (front, beyond) (simp append_assoc)

-- a byte
put_byte : (room : List ℕ) (at x : ℕ) → at < length room → set room at x ≡ put room at (x ∷ [])
unfolding put
put_byte room at x h = set_split room at x h ∙ rw (add-one at)

-- a byte before a text
pub put_before : (room : List ℕ) (at x : ℕ) (t : List ℕ) → at + 1 + length t ≤ length room → set (put room (at + 1) t) at x ≡ put room at (x ∷ t)
unfolding put
put_before room at x t fits =
    let front : set (take (at + 1) room) at x ≡ take at room ++ (x ∷ []) =
    rw (add-one at) (sym (take-set-lt (suc at) room at x (omega arith)) ∙ take-suc-set room at x (omega arith)) in
    let beyond : at + 1 + length t ≡ at + suc (length t) = omega arith in
    set-append_left (take (at + 1) room) (t ++ drop (at + 1 + length t) room) at x (omega (arith, length-take-le (at + 1) room (omega arith)))
    ∙ rw (front, beyond) (append_snoc (take at room) x (t ++ drop (at + suc (length t)) room))

-- a text copied to its place
pub copied : (room : List ℕ) (at : ℕ) (t copy : List ℕ) → copy ≡ t → Wrote room at t (put_mid at (at + length t - at) room copy) (at + length t)
unfolding put
copied room at t copy e =
    let k = at + length t - at in
    let past : at + k ≡ at + length t = omega arith in
    let beyond : drop k (drop at room) ≡ drop (at + length t) room = drop-drop k at room ∙ ap (λ (i : ℕ). drop i room) past in
    record { place = refl; is = rw (e, beyond) }

-- ---- what was written, and then more
pub wrote_none : (room : List ℕ) (at : ℕ) → Wrote room at [] room at
wrote_none room at = record { place = omega arith; is = sym (put_nil room at) }

module _ {room : List ℕ} {at : ℕ} {t after : List ℕ} {past : ℕ} (w : Wrote room at t after past) where
  pub wrote_length : at + length t ≤ length room → length after ≡ length room
  wrote_length fits = ap length w.is ∙ length-put room at t fits

  -- room for more after it
  pub wrote_fits : (k : ℕ) → at + (length t + k) ≤ length room → past + k ≤ length after
  wrote_fits k h = omega (arith, w.place, wrote_length (omega arith))

  pub wrote_more : {u later : List ℕ} {end : ℕ} → Wrote after past u later end → at + length t ≤ length room → Wrote room at (t ++ u) later end
  wrote_more {u} v fits =
      record {
        place = omega (arith, w.place, v.place, length-append t u);
        is = v.is ∙ rw (w.is, w.place) (put-put room at t fits u);
      }

  pub wrote_byte : (x : ℕ) → at + length t < length room → Wrote room at (t ++ (x ∷ [])) (set after past x) (past + 1)
  wrote_byte x fits =
      wrote_more (record { place = refl; is = put_byte after past x (omega (arith, w.place, wrote_length (omega arith))) }) (omega arith)

-- three texts
pub wrote_three : {room : List ℕ} {at : ℕ} {t a : List ℕ} {i : ℕ} {u b : List ℕ} {j : ℕ} {v after : List ℕ} {past : ℕ}
    → Wrote room at t a i → Wrote a i u b j → Wrote b j v after past → at + (length t + length u) ≤ length room → Wrote room at (t ++ (u ++ v)) after past
wrote_three {u = u} x y z h = wrote_more x (wrote_more y z (wrote_fits x (length u) h)) (omega arith)

-- ---- a line of a word and a number, by what the number is
pub same_size : (w : List ℕ) {u v : ℕ} → u ≡ v → length (line (w ++ decimal u)) ≡ length (line (w ++ decimal v))
same_size w e = rw e

pub wrote_as : (w : List ℕ) (v : ℕ) {room : List ℕ} {at u : ℕ} {after : List ℕ} {past : ℕ}
    → Wrote room at (line (w ++ decimal u)) after past → u ≡ v → Wrote room at (line (w ++ decimal v)) after past
wrote_as w v h e = rw e at h
