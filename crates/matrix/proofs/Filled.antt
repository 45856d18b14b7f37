-- What does an array hold that a loop fills from the front, with zeros in the places after? Assumes nothing.
use mathlib.Core.Path.{◌∙◌, ◌≡◌, ap, ap₂, sym}
use mathlib.Core.List.{List, ◌++◌}
use Prim.Native.Nat.{◌+◌, ◌-◌, ◌<◌, ◌≤◌, suc, ℕ}
use native.Mathlib.Numerals.{add-one}
use native.Mathlib.Omega.{arith}
use lib.ListN.{get_or, length, replicate, set, take}
use lib.Seq.{append_snoc, length-take-le, set_at, take_all, take-suc}

-- the first j numbers of a list, and zeros up to the array's room
abbrev pub filled : ℕ → List ℕ → ℕ → List ℕ
filled room list j = take j list ++ replicate (room - j) 0

module _ (room : ℕ) (list : List ℕ) (fits : length list ≤ room) where
  pub filled_next : (j v : ℕ) (array : List ℕ) → j < length list → array ≡ filled room list j → v ≡ get_or list j 0 → set array j v ≡ filled room list (j + 1)
  filled_next j v array h e p =
      let more : room - j ≡ suc (room - suc j) = omega arith in
      ap₂ (λ (a : List ℕ) (x : ℕ). set a j x) (e ∙ ap (λ (k : ℕ). take j list ++ replicate k 0) more) p
      ∙ set_at (take j list) 0 (replicate (room - suc j) 0) (get_or list j 0) j (length-take-le j list (omega arith))
      ∙ sym (append_snoc (take j list) (get_or list j 0) (replicate (room - suc j) 0))
      ∙ ap (λ (a : List ℕ). a ++ replicate (room - suc j) 0) (sym (take-suc list j 0 h))
      ∙ ap (filled room list) (sym (add-one j))

  pub filled_all : (n j : ℕ) (array : List ℕ) → length list ≡ n → j ≡ n → array ≡ filled room list j → array ≡ list ++ replicate (room - n) 0
  filled_all n j array l q e = e ∙ ap₂ (λ (a : List ℕ) (k : ℕ). a ++ replicate (room - k) 0) (take_all j list (omega arith)) q
