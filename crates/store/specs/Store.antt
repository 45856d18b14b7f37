-- What is a plan with one pass more? Assumes nothing.
-- What proofs and inner contracts go by; the rules need none of it.
use Rattle.std.specs.Prelude.{List, ℕ, ◌+◌, ◌*◌, set}
use Rattle.std.proofs.Math.Seq.{paste}
use Rattle.bank.specs.Limits.{ROWS}
use Rattle.planning.specs.declared.Plan.{Plan}

-- the plan with rows in the places of pass p, its complement, and p + 1 passes
unfoldable pub with_pass : Plan → ℕ → List ℕ → ℕ → Plan
with_pass plan p rows complement =
    record {
      geometry = plan.geometry;
      blanks = plan.blanks;
      count = p + 1;
      rows = paste plan.rows (p * ROWS) rows ROWS;
      complements = set plan.complements p complement;
    }
