-- `streams::fill` meets its contract: what one read gave stands after what came before.
use Rattle.std.proofs.Common.{◌≡◌, ℕ, ◌+◌, ◌≤◌, List, ◌++◌, length, take, drop, rules, sym, ap, subst, ◌∙◌, drop_at, length-take-le}
use Rattle.std.proofs.KnownBytes.{Consumes-trans}
use Rattle.std.specs.Io.KnownBytes.{Consumes}
use borrow.Rule.Slice.PartMut.{put_mid, post_of, take_put}
use lib.Seq.{take-add, take-append-le}
use Rattle.streams.proofs.fill.Goals as goal

-- the front is what it was, and n bytes of the part more
front_grown : (at k n : ℕ) (xs ys : List ℕ) → at ≤ length xs → n ≤ length ys → take at xs ++ take n ys ≡ take (at + n) (put_mid at k xs ys)
front_grown at k n xs ys within fits =
    let after = post_of at k xs in
    let whole = put_mid at k xs ys in
    let rest = ap (take n) (drop_at (take at xs) (ys ++ after) at (length-take-le at xs within)) ∙ take-append-le n ys after fits in
    sym (take-add at n whole ∙ ap (λ l. l ++ take n (drop at whole)) (take_put at k xs ys within) ∙ ap (λ l. take at xs ++ l) rest)

pub loop-done-preserved : goal.loop-done-preserved
loop-done-preserved g c =
    let read = c.read_some-came.ensures in
    let grown = front_grown _ _ _ _ _ c.loop-done.invariant.0 read.in_bounds in
    (search rules, subst (Consumes _ _) grown (Consumes-trans _ _ _ _ _ c.loop-done.invariant.1 read.bytes))
