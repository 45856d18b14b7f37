-- `lists::apart::apart_here` meets its contract: the bits of the differences so far. Assumes nothing.
use mathlib.Core.Path.{◌≡◌, refl, ap, ap₂, sym, ◌∙◌}
use Prim.Native.Nat.{ℕ, min}
use native.Mathlib.Omega.{arith}
use lib.Bits.{bit_or, bit_xor}
use lib.ListN.{get_or, length}
use Rattle.std.proofs.lemmas.List.{length_push, take_all}
use Rattle.std.proofs.lemmas.Slice.Zip.{zip_turn, zip_end}
use Rattle.lists.specs.Apart.{all_bits}
use Rattle.lists.proofs.AllBits.{all-bits_next}
use Rattle.lists.proofs.apart.apart_here.Goals as goal

pub loop-entry-init : goal.loop-entry-init
unfolding all_bits
loop-entry-init c = refl

pub loop-entry-preserved : goal.loop-entry-preserved
loop-entry-preserved c =
    let a = c.args in
    let l = c.loop-entry in
    let f = λ (i : ℕ). bit_xor (get_or a.part.now i 0) (bit_xor (get_or a.low.now i 0) a.change) in
    let t = zip_turn a.part.now a.low.now l.yielded _ _ c.next.new.self _ (grind (arith, take_all)) (cc) l.yielded_by _ c.in-Some.is c.next.ensures.steps in
    ap₂ (λ (x y : ℕ). bit_or l.off (bit_xor x (bit_xor y a.change))) (t.2 0) (t.3 0)
    ∙ all-bits_next f (length l.yielded) l.off l.invariant ∙ ap (all_bits f) (sym (length_push l.yielded _))

pub returns : goal.returns
returns c =
    let a = c.args in
    let l = c.loop-entry in
    let f = λ (i : ℕ). bit_xor (get_or a.part.now i 0) (bit_xor (get_or a.low.now i 0) a.change) in
    let n : length l.yielded ≡ min (length a.part.now) (length a.low.now) = zip_end a.part.now a.low.now l.yielded _ _ c.next.new.self _ (grind (arith, take_all)) (cc) l.yielded_by c.in-None.is c.next.ensures.steps in
    let all : length l.yielded ≡ length a.part.now = omega arith in
    l.invariant ∙ ap (all_bits f) all
