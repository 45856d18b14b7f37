-- `reading::rest_at` meets its contract: each refusal has its reason why no order's rest stands there. Assumes nothing.
use Rattle.reading.proofs.Rest.{rest_found, no_complement, more_follows}
use Rattle.reading.proofs.rest_at.Goals as goal

pub returns-in_err-complement : goal.returns-in_err-complement
returns-in_err-complement c =
    rw c.from_residual-in_err-complement.ensures (no_complement _ _ _ c.requires _ _ c.in_ok-rows.ensures c.in_err-complement.ensures)

pub returns-then-k-text : goal.returns-then-k-text
returns-then-k-text c = more_follows _ _ _ c.requires _ _ c.in_ok-rows.ensures _ _ c.in_ok-complement.ensures c.if-k-text.true

pub returns : goal.returns
returns c = rest_found _ _ _ _ _ _ _ c.in_ok-rows.ensures c.in_ok-complement.ensures c.if-k-text.false
