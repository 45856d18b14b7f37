-- Which order is a list of targets, and by which number is another list refused? The checks in their order: 11, 12, 3. Assumes nothing.
use Rattle.std.specs.Prelude.{not, cond, ◌||◌, List, ◌++◌, ℕ, ◌-◌, eqb, length, replicate}
use Rattle.bank.specs.Limits.{ROWS}
use Rattle.bank.specs.Checks.{refuse, handed}
use Rattle.algebra.specs.Matrix.{kernel, singular}
use Rattle.lists.specs.Targets.{bits_for, wrong_length, stray_entry, rows_in, complement_in, is_given, giver}
use Rattle.lists.specs.declared.Recognised.{Recognised}

-- n, where the length of the list is 2 ^ n
abbrev pub bits_of : List ℕ → ℕ
bits_of list = bits_for (length list)

-- the rows and the complement that give the list
abbrev pub rows_of : List ℕ → List ℕ
rows_of list = rows_in (bits_of list) (giver (bits_of list) list)

abbrev pub complement_of : List ℕ → ℕ
complement_of list = complement_in (bits_of list) (giver (bits_of list) list)

-- 11, the length isn't 2 ^ n for n in 2..ROWS, or an entry is N or more; 12, no matrix and complement give the list;
-- 3, A is singular; 0, the list is an order's
unfoldable pub list_number : List ℕ → ℕ
list_number list =
    refuse (wrong_length list || stray_entry list) 11
    (refuse (not (is_given (bits_of list) list)) 12 (refuse (singular (bits_of list) (rows_of list)) 3 0))

-- the answer for a list: n, the rows and c that give it with 0, and zero everywhere with a refusal;
-- with 3, z, the least nonzero address that A sends to zero, and 0 with every other number
unfoldable pub recognised : List ℕ → Recognised
recognised list =
    record {
      number = list_number list;
      n = handed (list_number list) (bits_of list) 0;
      rows = handed (list_number list) (rows_of list ++ replicate (ROWS - bits_of list) 0) (replicate ROWS 0);
      complement = handed (list_number list) (complement_of list) 0;
      z = record { 0 = cond (eqb (list_number list) 3) (kernel (bits_of list) (rows_of list)) 0 };
    }
