-- `lists::apart::apart_here` meets its contract: the bits of the differences so far. Assumes nothing.
use mathlib.Core.Path.{◌≡◌}
use lib.Bits.{bit_xor}
use lib.ListN.{get_or, length}
use Rattle.lists.specs.Apart.{all_bits}
use Rattle.lists.proofs.apart.apart_here.Given as goal

abbrev pub invariant-loop-entry : goal.invariant-loop-entry
invariant-loop-entry l = l.off ≡ all_bits (λ i. bit_xor (get_or l.part i 0) (bit_xor (get_or l.low i 0) l.change)) (length l.yielded)
