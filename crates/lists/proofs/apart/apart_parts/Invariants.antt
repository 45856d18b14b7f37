-- `lists::apart::apart_parts` meets its contract: the parts before q are looked at, and the change is part q's. Assumes nothing.
use mathlib.Core.Path.{◌≡◌}
use Prim.Native.Nat.{◌*◌, ◌<◌, ◌≤◌, ◌^◌}
use lib.ListN.{length, drop}
use Rattle.std.specs.Iterator.Adapters.{enumerate_source, enumerate_count}
use Rattle.std.specs.Slice.Iter.{chunks_exact_rest, chunks_exact_size}
use Rattle.algebra.specs.Vector.{WORD}
use Rattle.algebra.specs.Carry.{place_by}
use Rattle.lists.specs.Apart.{all_bits}
use Rattle.lists.proofs.Parts.{apart_in}
use Rattle.lists.proofs.apart.apart_parts.Given as goal

abbrev pub invariant-loop-q : goal.invariant-loop-q
invariant-loop-q l =
    (chunks_exact_size (enumerate_source l.q-iterator) ≡ length l.low)
    × (chunks_exact_rest (enumerate_source l.q-iterator) ≡ drop (enumerate_count l.q-iterator * length l.low) l.list)
    × (enumerate_count l.q-iterator * length l.low ≤ length l.list)
    × (l.off ≡ all_bits (apart_in l.list l.low l.high) (enumerate_count l.q-iterator * length l.low)) × (l.change < 2 ^ WORD)
    × (l.change ≡ place_by 0 l.high (enumerate_count l.q-iterator))
