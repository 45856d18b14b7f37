-- How is the difference of a whole list made up of those of its parts? Assumes nothing.
use mathlib.Core.Path.{◌≡◌, sym, ap, ap₂, subst, ◌∙◌}
use mathlib.Core.List.{List, ◌++◌}
use Prim.Native.Nat.{ℕ, ◌+◌, ◌-◌, ◌*◌, ◌/◌, ◌%◌, ◌<◌, ◌≤◌, ◌^◌}
use native.Mathlib.Nat.{mod-lt, suc-mul, zero-add}
use native.Mathlib.Numerals.{add-one}
use native.Mathlib.Omega.{arith}
use lib.Arith.{digits_div, digits_mod}
use lib.Bits.{bit_or, bit_xor}
use lib.ListN.{get_or, length, take, drop, length-append, length-drop}
use lib.Pow.{pow_pos}
use lib.Seq.{drop-drop, drop_at, get_or-drop, get_or-take, length-take-le, take-add, take_all, take_at}
use Rattle.algebra.specs.Search.{listed}
use Rattle.algebra.specs.Vector.{comb}
use Rattle.algebra.specs.Carry.{place_by}
use Rattle.algebra.proofs.Digits.{xor_assoc}
use Rattle.algebra.proofs.Linear.{comb-append}
use Rattle.algebra.proofs.Listed.{listed_at, listed_length}
use Rattle.lists.specs.Apart.{all_bits, apart_at}
use Rattle.lists.proofs.AllBits.{all-bits-append, all-bits_ext}

-- what entry x differs by from its low target with the change of its part
abbrev pub apart_in : List ℕ → List ℕ → List ℕ → ℕ → ℕ
apart_in list low high x = bit_xor (get_or list x 0) (bit_xor (get_or low (x % length low) 0) (comb high (x / length low)))

-- part q of a list, and what is left of the list after it
module _ (list low high part rest : List ℕ) (q : ℕ) (cut : drop (q * length low) list ≡ part ++ rest) (full : length part ≡ length low)
    (there : q * length low ≤ length list) where
  -- where the next part begins
  next : q * length low + length low ≡ (q + 1) * length low
  next = sym (ap (λ (k : ℕ). k * length low) (add-one q) ∙ suc-mul q (length low))

  pub next_there : (q + 1) * length low ≤ length list
  next_there =
      omega (arith, next, there, full, length-drop (q * length low) list, ap length cut, length-append part rest)

  pub next_rest : rest ≡ drop ((q + 1) * length low) list
  next_rest =
      sym (ap (λ (k : ℕ). drop k list) (sym next) ∙ sym (drop-drop (length low) (q * length low) list) ∙ ap (drop (length low)) cut
      ∙ drop_at part rest (length low) full)

  entry_is : (i : ℕ) → i < length low → get_or part i 0 ≡ get_or list (q * length low + i) 0
  entry_is i h =
      ap (λ (l : List ℕ). get_or l i 0) (sym (take_at part rest (length low) full) ∙ ap (take (length low)) (sym cut))
      ∙ get_or-take (length low) (drop (q * length low) list) i 0 h ∙ get_or-drop (q * length low) list i 0

  -- entry i of part q, and what it differs by
  in_part : (change i : ℕ) → change ≡ comb high q → i < length low
      → bit_xor (get_or part i 0) (bit_xor (get_or low i 0) change) ≡ apart_in list low high (q * length low + i)
  in_part change i c h =
      ap₂ (λ (u v : ℕ). bit_xor u v) (entry_is i h)
      (ap₂ (λ (k v : ℕ). bit_xor (get_or low k 0) v) (sym (digits_mod q h)) (c ∙ ap (comb high) (sym (digits_div q h))))

  -- part q is added to the parts before it
  pub part_once : (off change here : ℕ) → off ≡ all_bits (apart_in list low high) (q * length low) → change ≡ comb high q
      → here ≡ all_bits (λ i. bit_xor (get_or part i 0) (bit_xor (get_or low i 0) change)) (length part)
      → bit_or off here ≡ all_bits (apart_in list low high) ((q + 1) * length low)
  part_once off change here f c h =
      let differs : ℕ → ℕ = λ i. bit_xor (get_or part i 0) (bit_xor (get_or low i 0) change) in
      ap₂ bit_or f (h ∙ ap (all_bits differs) full
      ∙ all-bits_ext differs (λ i. apart_in list low high (q * length low + i)) (length low) (λ i l. in_part change i c l))
      ∙ all-bits-append (apart_in list low high) (q * length low) (length low) ∙ ap (all_bits (apart_in list low high)) next

-- a list of whole parts, of which less than one is left, is at its end
pub at_end : (q k long : ℕ) → q * k ≤ long → long - q * k < k → long % k ≡ 0 → q * k ≡ long
at_end q k long there short whole =
    let rest : q * k + (long - q * k) ≡ long = omega arith in
    let none : long - q * k ≡ 0 = sym (digits_mod q short) ∙ ap (λ (l : ℕ). l % k) rest ∙ whole in
    omega arith

-- the low targets are those of the columns u, and the changes those of the columns v after them
split_whole : (list low u v : List ℕ) (base : ℕ) → length low ≡ 2 ^ length u → ((i : ℕ) → i < length low → get_or low i 0 ≡ place_by base u i) → (x : ℕ)
    → apart_in list low v x ≡ apart_at list base (u ++ v) x
split_whole list low u v base long at x =
    let some : 0 < length low = subst (λ (k : ℕ). 0 < k) (sym long) (pow_pos (length u)) in
    ap (bit_xor (get_or list x 0))
    (ap (λ (k : ℕ). bit_xor k (comb v (x / length low))) (at (x % length low) (mod-lt x some))
    ∙ xor_assoc base (comb u (x % length low)) (comb v (x / length low))
    ∙ ap (bit_xor base) (ap (λ (k : ℕ). bit_xor (comb u (x % k)) (comb v (x / k))) long ∙ sym (comb-append u v x)))

-- the low targets are those of the first h columns
module _ (cols low : List ℕ) (base h k : ℕ) (upto : h ≤ length cols) (so-many : k ≡ 2 ^ h) (is : low ≡ listed (place_by base (take h cols)) k 0) where
  pub low_long : length low ≡ 2 ^ h
  low_long = ap length is ∙ listed_length (place_by base (take h cols)) k 0 ∙ so-many

  -- with the changes of the other columns they are the targets of all
  pub parts_whole : (list : List ℕ) (x : ℕ) → apart_in list low (take (length cols - h) (drop h cols)) x ≡ apart_at list base cols x
  parts_whole list x =
      let whole : h + (length cols - h) ≡ length cols = omega arith in
      let width : length (take h cols) ≡ h = length-take-le h cols upto in
      split_whole list low (take h cols) (take (length cols - h) (drop h cols)) base (low_long ∙ ap (λ (k : ℕ). 2 ^ k) (sym width))
      (λ i l. ap (λ (v : List ℕ). get_or v i 0) is
      ∙ listed_at 0 (place_by base (take h cols)) k 0 i (omega (arith, low_long)) ∙ ap (place_by base (take h cols)) (zero-add i)) x
      ∙ ap (λ (l : List ℕ). apart_at list base l x)
      (sym (take-add h (length cols - h) cols) ∙ ap (λ (k : ℕ). take k cols) whole ∙ take_all (length cols) cols (omega arith))
