-- What has an elimination made of the columns that it has seen? Code eliminates; the pages before this one only search.
-- An entry is a vector, a set bit of it (the pivot), and a tag: the set of columns of which the vector is the sum. Assumes nothing.
-- What proofs and inner contracts go by; the rules need none of it.
use Rattle.std.specs.Prelude.{cond, List, ℕ, zero, suc, ◌+◌, ◌^◌, eqb, get_or, set, replicate}
use Rattle.std.specs.Int.Bits.{bit_xor}
use Rattle.std.specs.Int.Count.{count_trailing_zeros}
use Rattle.algebra.specs.Vector.{WORD, bit, unless_zero}

-- v after the first k entries: an entry's vector is added where v has the entry's pivot
unfoldable pub rest : List ℕ → List ℕ → ℕ → ℕ → ℕ
rest vectors pivots zero v = v
rest vectors pivots (suc k) v =
    bit_xor (rest vectors pivots k v) (unless_zero (bit (rest vectors pivots k v) (get_or pivots k 0)) (get_or vectors k 0))

-- the sum of the tags of the entries that were added to v, of the first k
unfoldable pub used : List ℕ → List ℕ → List ℕ → ℕ → ℕ → ℕ
used vectors pivots tags zero v = 0
used vectors pivots tags (suc k) v =
    bit_xor (used vectors pivots tags k v) (unless_zero (bit (rest vectors pivots k v) (get_or pivots k 0)) (get_or tags k 0))

-- the entries so far, in lists that have room for more
pub record Echelon : Type 0 where
  pub vectors : List ℕ
  pub pivots : List ℕ
  pub tags : List ℕ
  pub count : ℕ

-- no entries yet, and room for so many
abbrev pub no_entries : ℕ → Echelon
no_entries room = record { vectors = replicate room 0; pivots = replicate room 0; tags = replicate room 0; count = 0 }

-- one entry more, with its lowest set bit as the pivot; a vector has at most WORD bits
abbrev pub with_entry : Echelon → ℕ → ℕ → Echelon
with_entry e vector tag =
    record {
      vectors = set e.vectors e.count vector;
      pivots = set e.pivots e.count (count_trailing_zeros WORD vector);
      tags = set e.tags e.count tag;
      count = e.count + 1;
    }

-- column j is added: what is left of it becomes an entry, and nothing changes where nothing is left
unfoldable pub grown : Echelon → ℕ → ℕ → Echelon
grown e j column =
    cond (eqb (rest e.vectors e.pivots e.count column) 0) e
    (with_entry e (rest e.vectors e.pivots e.count column) (bit_xor (2 ^ j) (used e.vectors e.pivots e.tags e.count column)))

-- the entries after the first j columns
unfoldable pub built : ℕ → List ℕ → ℕ → Echelon
built room cols zero = no_entries room
built room cols (suc j) = grown (built room cols j) j (get_or cols j 0)
