-- What does a reader find at a place of a text? Assumes nothing.
-- What proofs and inner contracts go by; the rules need none of it.
use Rattle.std.specs.Prelude.{cond, List, ℕ, zero, suc, ◌+◌, ◌-◌, ◌*◌, ltb, eqb, length, get_or, Option, Some, None}
use Rattle.bank.specs.declared.Geometry.{Geometry}

-- the digit that a byte is, or none
unfoldable pub digit_of : ℕ → Option ℕ
digit_of x = cond (ltb x 48) None (cond (ltb 57 x) None (Some (x - 48)))

-- the digit at a place, or none
unfoldable pub digit_at : List ℕ → ℕ → Option ℕ
digit_at s at = digit_of (get_or s at 0)

-- a number of 1 to 3 digits with no leading zero but 0 itself, and the place past it: by the digits at a place and at the next two
abbrev pub number_from : ℕ → Option ℕ → Option ℕ → Option ℕ → Option (ℕ × ℕ)
number_from at None b c = None
number_from at (Some zero) b c = Some (0, at + 1)
number_from at (Some (suc a)) None c = Some (suc a, at + 1)
number_from at (Some (suc a)) (Some b) None = Some (suc a * 10 + b, at + 2)
number_from at (Some (suc a)) (Some b) (Some c) = Some (suc a * 100 + b * 10 + c, at + 3)

unfoldable pub number_at : List ℕ → ℕ → Option (ℕ × ℕ)
number_at s at = number_from at (digit_at s at) (digit_at s (at + 1)) (digit_at s (at + 2))

-- a number read, its end byte, and the place past that
abbrev pub ended : List ℕ → ℕ → Option (ℕ × ℕ) → Option (ℕ × ℕ)
ended s end None = None
ended s end (Some (v, k)) = cond (ltb k (length s)) (cond (eqb (get_or s k 0) end) (Some (v, k + 1)) None) None

unfoldable pub field_at : List ℕ → ℕ → ℕ → Option (ℕ × ℕ)
field_at s at end = ended s end (number_at s at)

-- what is read, and then what follows it
abbrev pub if_read : Option (ℕ × ℕ) → (ℕ → ℕ → Option (Geometry × ℕ)) → Option (Geometry × ℕ)
if_read None f = None
if_read (Some (v, k)) f = f v k

-- five numbers, a space after each but the last, LF after that: what is left to read once some are read
abbrev pub up_to_r : List ℕ → ℕ → ℕ → ℕ → ℕ → ℕ → Option (Geometry × ℕ)
up_to_r s n b d m at = if_read (field_at s at 10) (λ r e. Some (record { n = n; b = b; d = d; m = m; r = r }, e))

abbrev pub up_to_m : List ℕ → ℕ → ℕ → ℕ → ℕ → Option (Geometry × ℕ)
up_to_m s n b d at = if_read (field_at s at 32) (up_to_r s n b d)

abbrev pub up_to_d : List ℕ → ℕ → ℕ → ℕ → Option (Geometry × ℕ)
up_to_d s n b at = if_read (field_at s at 32) (up_to_m s n b)

abbrev pub up_to_b : List ℕ → ℕ → ℕ → Option (Geometry × ℕ)
up_to_b s n at = if_read (field_at s at 32) (up_to_d s n)

unfoldable pub first_line_at : List ℕ → Option (Geometry × ℕ)
first_line_at s = if_read (field_at s 0 32) (up_to_b s)
