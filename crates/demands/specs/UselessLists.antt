-- Which movers are of no use for a list of targets? Each is ours but for the answer that its name says. Assumes nothing.
use Rattle.std.specs.Prelude.{cond, List, ◌++◌, ℕ, ◌-◌, ◌^◌, eqb, get_or, take, replicate}
use Rattle.bank.specs.Limits.{ROWS}
use Rattle.bank.specs.Checks.{handed}
use Rattle.algebra.specs.Matrix.{columns}
use Rattle.algebra.specs.Search.{listed}
use Rattle.lists.specs.declared.Recognised.{Recognised}
use Rattle.lists.specs.Targets.{is_given, wrong_length}
use Rattle.lists.specs.Recognised.{bits_of, list_number, recognised, rows_of}
use Rattle.demands.specs.Mover.{Mover}
use Rattle.demands.specs.Ours.{ours}
use Rattle.demands.specs.Recognises.{Recognises, nothing_found}

-- ours but for the answer to a list
abbrev recognising : (List ℕ → Recognised) → Mover
recognising answer =
    record {
      judges = ours.judges;
      sends = ours.sends;
      finds = ours.finds;
      plans = ours.plans;
      total = ours.total;
      area = ours.area;
      fresh = ours.fresh;
      step = ours.step;
      run = ours.run;
      recognises = answer;
      reads = ours.reads;
      lists = ours.lists;
      leaves = ours.leaves;
    }

-- it finds no order in any list of a right length
abbrev pub finds_none : Mover
finds_none = recognising (λ list. nothing_found (cond (wrong_length list) 11 12) 0)

-- it gives 12 in place of 3
abbrev pub three_as_twelve : Mover
three_as_twelve = recognising (λ list. cond (eqb (list_number list) 3) (nothing_found 12 0) (recognised list))

-- it gives 12 before 11: a list that no matrix and complement give is never misshapen
abbrev pub twelve_first : Mover
twelve_first = recognising (λ list. cond (is_given (bits_of list) list) (recognised list) (nothing_found 12 0))

-- it shows no z
abbrev pub shows_no_z : Mover
shows_no_z = recognising (λ list. cond (eqb (list_number list) 3) (nothing_found 3 0) (recognised list))

-- it looks at the first four entries alone
abbrev pub looks_at_four : Mover
looks_at_four = recognising (λ list. recognised (take 4 list))

-- it hands back these rows in place of those found
abbrev with_rows : (List ℕ → List ℕ) → List ℕ → Recognised
with_rows other list =
    record {
      number = list_number list;
      n = (recognised list).n;
      rows = handed (list_number list) (other list ++ replicate (ROWS - bits_of list) 0) (replicate ROWS 0);
      complement = (recognised list).complement;
      z = (recognised list).z;
    }

-- it takes rows for columns
abbrev pub turns_rows : Mover
turns_rows = recognising (with_rows (λ list. columns (bits_of list) (rows_of list)))

-- it leaves c in the columns
abbrev pub keeps_c : Mover
keeps_c = recognising (with_rows (λ list. columns (bits_of list) (listed (λ j. get_or list (2 ^ j) 0) (bits_of list) 0)))

pub record BrokenLists : Type 0 where
  pub finds_none_fails : Recognises finds_none → ⊥
  pub three_as_twelve_fails : Recognises three_as_twelve → ⊥
  pub twelve_first_fails : Recognises twelve_first → ⊥
  pub shows_no_z_fails : Recognises shows_no_z → ⊥
  pub looks_at_four_fails : Recognises looks_at_four → ⊥
  pub turns_rows_fails : Recognises turns_rows → ⊥
  pub keeps_c_fails : Recognises keeps_c → ⊥
