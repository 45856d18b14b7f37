-- `reading::number::field` meets its contract: each return has passed the tests before it. Assumes nothing.
use borrow.Author.Tests.{lt-ltb, le-ltb, eq-eqb, ne_eqb}
use Rattle.reading.specs.Parsing.{field_at}
use Rattle.reading.proofs.number.field.Goals as goal
use Rattle.reading.proofs.number.field.Goals.{else-k-text-via-then-k-text+else-text-k, else-k-text-via-else-k-text}

pub returns-in_err-v : goal.returns-in_err-v
unfolding field_at
returns-in_err-v c = rw (c.from_residual.ensures, ← c.in_err-v.ensures)

pub returns-then-text-k : goal.returns-then-text-k
unfolding field_at
returns-then-text-k c = rw (← c.in_ok-v.ensures, lt-ltb _ _ c.if-k-text.true, eq-eqb _ _ c.if-text-k.true)

pub returns : goal.returns
unfolding field_at
returns c =
    elim c.else-k-text.branch [
      | else-k-text-via-then-k-text+else-text-k w ↦ rw (← c.in_ok-v.ensures, lt-ltb _ _ w.if-k-text.true, ne_eqb _ _ w.if-text-k.false)
      | else-k-text-via-else-k-text w ↦ rw (← c.in_ok-v.ensures, le-ltb _ _ w.if-k-text.false)
    ]
