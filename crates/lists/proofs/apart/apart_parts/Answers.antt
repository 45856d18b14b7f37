-- `lists::apart::apart_parts` meets its contract: the parts before q are looked at, and the change is part q's. Assumes nothing.
use mathlib.Core.Path.{◌≡◌, sym, ap, ap₂, subst, ◌∙◌}
use mathlib.Core.List.{List, ◌++◌}
use Prim.Native.Nat.{ℕ, ◌+◌, ◌-◌, ◌*◌, ◌≤◌, ◌<◌, ◌^◌}
use native.Mathlib.Nat.{zero-mul}
use native.Mathlib.Omega.{arith}
use lib.Bits.{bit_or, bit_xor, xor_lt}
use lib.Dec.{lit<}
use lib.ListN.{get_or, length, length-drop, drop}
use Rattle.std.specs.Iterator.Adapters.{enumerate_source, enumerate_count}
use Rattle.std.specs.Slice.Iter.{chunks_exact_rest, chunks_exact_size}
use Rattle.algebra.specs.Vector.{WORD}
use Rattle.algebra.specs.Carry.{flips, place_by}
use Rattle.algebra.proofs.Carry.{place_next, place_zero}
use Rattle.lists.specs.Apart.{all_bits}
use Rattle.lists.proofs.Parts.{apart_in, at_end, next_rest, next_there, part_once}
use Rattle.lists.proofs.apart.apart_parts.Goals as goal

-- the invariant, at a place q
abbrev before : List ℕ → List ℕ → List ℕ → ℕ → ℕ → List ℕ → ℕ → ℕ → Type 0
before list low high size q rest off change =
    (size ≡ length low) × (rest ≡ drop (q * length low) list) × (q * length low ≤ length list)
    × (off ≡ all_bits (apart_in list low high) (q * length low)) × (change < 2 ^ WORD) × (change ≡ place_by 0 high q)

at_start : (list low high : List ℕ) (size q : ℕ) (rest : List ℕ) → size ≡ length low → rest ≡ list → q ≡ 0 → before list low high size q rest 0 0
unfolding all_bits
at_start list low high size q rest s r z =
    let none : q * length low ≡ 0 = ap (λ (k : ℕ). k * length low) z ∙ zero-mul (length low) in (
      s,
      r ∙ ap (λ (k : ℕ). drop k list) (sym none),
      omega arith,
      ap (all_bits (apart_in list low high)) (sym none),
      lit< tt,
      place_zero 0 high ∙ ap (place_by 0 high) (sym z),
    )

one_more : (list low high part rest : List ℕ) (size q off change here turn : ℕ) → before list low high size q (part ++ rest) off change
    → length part ≡ size → here ≡ all_bits (λ i. bit_xor (get_or part i 0) (bit_xor (get_or low i 0) change)) (length part)
    → turn ≡ flips high q → turn < 2 ^ WORD → before list low high size (q + 1) rest (bit_or off here) (bit_xor change turn)
one_more list low high part rest size q off change here turn b full h t word =
    let cut = sym b.1 in
    let whole = full ∙ b.0 in (
      b.0,
      next_rest list low high part rest q cut whole b.2,
      next_there list low high part rest q cut whole b.2,
      part_once list low high part rest q cut whole b.2 off change here b.3 b.5 h,
      xor_lt WORD change turn b.4 word,
      ap₂ bit_xor b.5 t ∙ place_next 0 high q,
    )

pub loop-q-init : goal.loop-q-init
loop-q-init c =
    let a = c.args in
    at_start a.list.now a.low.now a.high.now _ _ _ (cc) (cc) (cc)

pub loop-q-preserved : goal.loop-q-preserved
loop-q-preserved c =
    let a = c.args in
    let l = c.loop-q in
    let b = l.invariant in
    let d = c.in-Some.ensures.steps in
    let part = c.in-Some.part.now in
    let after = enumerate_source c.next.new.self in
    let here = c.apart_here-off.ensures
    ∙ ap (λ (k : ℕ). all_bits (λ i. bit_xor (get_or part i 0) (bit_xor (get_or a.low.now i 0) k)) (length part)) c.from.ensures in
    let m = one_more a.list.now a.low.now a.high.now part (chunks_exact_rest after) _ (enumerate_count l.q-iterator) l.off l.change
    c.apart_here-off.result c.flip-change.result (b.0, sym d.0.1.0 ∙ b.1, b.2, b.3, b.4, b.5) d.0.1.1 here
    (c.flip-change.ensures ∙ ap (flips a.high.now) d.1) (omega (arith, c.flip-change.type_inv)) in
    subst (λ (k : ℕ). before a.list.now a.low.now a.high.now (chunks_exact_size after) k (chunks_exact_rest after)
    (bit_or l.off c.apart_here-off.result) (bit_xor l.change c.flip-change.result))
    (sym d.2) (d.0.0 ∙ m.0, m.1, m.2, m.3, m.4, m.5)

pub returns : goal.returns
returns c =
    let a = c.args in
    let b = c.loop-q.invariant in
    let e = c.in-None.ensures.steps in
    let K = length a.low.now in
    let q = enumerate_count c.loop-q.q-iterator in
    let short : length a.list.now - q * K < K = omega (arith, e.0.1.0, b.0, ap length b.1, length-drop (q * K) a.list.now) in
    b.3 ∙ ap (all_bits (apart_in a.list.now a.low.now a.high.now)) (at_end q K (length a.list.now) b.2 short c.requires.1)
