-- `lists::apart::apart_from` meets its contract: the low targets, and the changes of the other columns. Assumes nothing.
use mathlib.Core.Path.{◌≡◌, sym, ap, subst, ◌∙◌}
use Prim.Native.Nat.{ℕ, ◌+◌, ◌%◌, ◌<◌, ◌-◌, ◌*◌, ◌≤◌, ◌^◌, min}
use native.Mathlib.Omega.{arith}
use lib.ListN.{length, replicate, take, drop}
use lib.Arith.{digits_mod}
use lib.Pow.{pow_mono, pow_pos}
use lib.Seq.{length-take-le}
use Rattle.algebra.proofs.Digits.{pow_split}
use Rattle.lists.specs.Apart.{LOW, LOW-BITS, apart_at}
use Rattle.lists.proofs.AllBits.{all-bits_ext}
use Rattle.lists.proofs.Parts.{apart_in, low_long, parts_whole}
use Rattle.lists.proofs.apart.apart_from.Goals as goal

-- the low bits are some of the n, and few enough for the array
some : (n h : ℕ) → h ≡ min n LOW-BITS → h ≤ n
some n h e = omega (arith, e)

places : (n h count : ℕ) → h ≡ min n LOW-BITS → count ≡ 2 ^ h → length {A = ℕ} (take count (replicate LOW 0)) ≡ 2 ^ h
places n h count e so_many =
    let upto : h ≤ LOW-BITS = omega (arith, e) in
    length-take-le {A = ℕ} count (replicate LOW 0) (omega (arith, so_many, pow_mono {i = h} {j = LOW-BITS} upto)) ∙ so_many

-- a product of k is nothing but parts of k
whole_parts : (long q k : ℕ) → 0 < k → long ≡ q * k → long % k ≡ 0
whole_parts long q k some e =
    let parts : long ≡ q * k + 0 = omega arith in
    ap (λ (l : ℕ). l % k) parts ∙ digits_mod q some

pub apart_parts-requires : goal.apart_parts-requires
apart_parts-requires c =
    let a = c.args in
    let n = length a.columns.now in
    let h = c.min-h.result in
    let upto = some n h c.min-h.ensures in
    let long = low_long a.columns.now c.fill_targets.new.low a.base h _ upto (places n h _ c.min-h.ensures c.power-count.ensures) c.fill_targets.ensures in
    let low = subst (λ (k : ℕ). 0 < k) (sym long) (pow_pos h) in
    (low, whole_parts _ (2 ^ (n - h)) _ low (c.requires.1 ∙ pow_split h n upto ∙ ap (λ (k : ℕ). 2 ^ (n - h) * k) (sym long)))

pub returns : goal.returns
returns c =
    let a = c.args in
    let n = length a.columns.now in
    let h = c.min-h.result in
    let low = c.fill_targets.new.low in
    c.apart_parts.ensures
    ∙ all-bits_ext (apart_in a.list.now low (take (n - h) (drop h a.columns.now))) (apart_at a.list.now a.base a.columns.now) (length a.list.now)
    (λ x l. parts_whole a.columns.now low a.base h _ (some n h c.min-h.ensures) (places n h _ c.min-h.ensures c.power-count.ensures)
    c.fill_targets.ensures a.list.now x)
