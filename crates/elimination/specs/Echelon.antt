-- Which elimination does the code's struct hold? Assumes nothing.
-- What proofs and inner contracts go by; the rules need none of it.
use Rattle.algebra.specs.Elimination.{Echelon}
use Rattle.elimination.specs.declared.echelon.Echelon.{Echelon as Entries}

abbrev pub echelon_of : Entries → Echelon
echelon_of e = record { vectors = e.vectors; pivots = e.pivots; tags = e.tags; count = e.count }
