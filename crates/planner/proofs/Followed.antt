-- What does an array of zeros hold, when one list is copied to its front and another one behind it? Assumes nothing.
use mathlib.Core.Path.{◌∙◌, ◌≡◌, ap, ap₂, refl, sym}
use mathlib.Core.List.{List, ◌++◌, append_assoc}
use Prim.Native.Nat.{◌+◌, ◌-◌, ◌≤◌, ℕ}
use native.Mathlib.Omega.{arith}
use borrow.Rule.Slice.PartMut.{put_mid}
use lib.ListN.{drop, length, replicate}
use lib.Seq.{drop_at, take_at}
use Rattle.std.proofs.lemmas.List.{drop-replicate}

pub followed_is : (room : ℕ) (first second u v : List ℕ) → length first + length second ≤ room → u ≡ first → v ≡ second
    → put_mid (length first) (length first + length second - length first) (u ++ drop (length first) (replicate room 0)) v
    ≡ (first ++ second) ++ replicate (room - (length first + length second)) 0
followed_is room first second u v h eu ev =
    let n = length first in
    let k = n + length second - n in
    let zeros : List ℕ = replicate room 0 in
    let left : drop k (drop n zeros) ≡ replicate (room - (n + length second)) 0 =
    ap (drop k) (drop-replicate n room 0) ∙ drop-replicate k (room - n) 0 ∙ ap (λ (m : ℕ). replicate m 0) (omega arith) in
    ap₂ (λ (a b : List ℕ). put_mid n k (a ++ drop n zeros) b) eu ev
    ∙ ap₂ (λ (a b : List ℕ). a ++ (second ++ drop k b)) (take_at first (drop n zeros) n refl) (drop_at first (drop n zeros) n refl)
    ∙ ap (λ (b : List ℕ). first ++ (second ++ b)) left ∙ sym (append_assoc first second (replicate (room - (n + length second)) 0))
