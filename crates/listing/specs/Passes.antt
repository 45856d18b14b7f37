-- Which lines has a pass of a plan, as it is stored? Assumes nothing.
-- What proofs and inner contracts go by; the rules need none of it.
use Rattle.std.specs.Prelude.{List, ℕ}
use Rattle.bank.specs.Limits.{ROWS}
use Rattle.planning.specs.declared.Plan.{Plan}
use Rattle.planning.specs.Stored.{stored_pass}
use Rattle.listing.specs.Listing.{pass_lines}

-- pass p of a plan, as it is stored
abbrev pub pass_at_lines : Plan → ℕ → List ℕ
pass_at_lines plan p = pass_lines plan.geometry.n p (stored_pass ROWS plan.geometry.n plan.rows plan.complements p)
