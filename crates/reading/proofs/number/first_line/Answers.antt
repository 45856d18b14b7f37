-- `reading::number::first_line` meets its contract: field by field, each by what the one before it gave. Assumes nothing.
use Rattle.reading.specs.Parsing.{first_line_at}
use Rattle.reading.proofs.number.first_line.Goals as goal

pub returns-in_err-n : goal.returns-in_err-n
unfolding first_line_at
returns-in_err-n c = rw (c.from_residual.ensures, ← c.in_err-n.ensures)

pub returns-in_err-b : goal.returns-in_err-b
unfolding first_line_at
returns-in_err-b c = rw (c.from_residual-in_err-b.ensures, ← c.in_ok-n.ensures, ← c.in_err-b.ensures)

pub returns-in_err-d : goal.returns-in_err-d
unfolding first_line_at
returns-in_err-d c = rw (c.from_residual-in_err-d.ensures, ← c.in_ok-n.ensures, ← c.in_ok-b.ensures, ← c.in_err-d.ensures)

pub returns-in_err-m : goal.returns-in_err-m
unfolding first_line_at
returns-in_err-m c =
    rw (c.from_residual-in_err-m.ensures, ← c.in_ok-n.ensures, ← c.in_ok-b.ensures, ← c.in_ok-d.ensures, ← c.in_err-m.ensures)

pub returns-in_err-r : goal.returns-in_err-r
unfolding first_line_at
returns-in_err-r c =
    rw (c.from_residual-in_err-r.ensures, ← c.in_ok-n.ensures, ← c.in_ok-b.ensures, ← c.in_ok-d.ensures, ← c.in_ok-m.ensures, ← c.in_err-r.ensures)

pub returns : goal.returns
unfolding first_line_at
returns c = rw (← c.in_ok-n.ensures, ← c.in_ok-b.ensures, ← c.in_ok-d.ensures, ← c.in_ok-m.ensures, ← c.in_ok-r.ensures)
