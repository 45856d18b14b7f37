-- How large may a run be? Each limit is written here once. Assumes nothing.
use Rattle.std.specs.Prelude.{ℕ}

-- the most bits of an address, and so the most rows of a matrix
abbrev pub ROWS : ℕ
ROWS = 32

-- the most passes of a plan
abbrev pub PASSES : ℕ
PASSES = 17

-- the most bytes of a record
abbrev pub BYTES : ℕ
BYTES = 256
