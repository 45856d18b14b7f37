-- Do the definitions compute what the examples say? Assumes nothing.
use lib.Count.{ones}
use lib.Dec.{T}
use Rattle.algebra.specs.Search.{all_pass, least_from, least, any_below, first_passing}
use Rattle.algebra.specs.Vector.{parity, unless_zero, comb, unit_vectors}
use Rattle.algebra.specs.Matrix.{applied, target, columns, kills, kernel, singular, marked, rank, source}
use Rattle.algebra.specs.Examples.{as_expected, examples}

pub examples-right : T (all_pass as_expected examples)
unfolding ones least_from least any_below first_passing parity unless_zero comb unit_vectors applied target columns kills kernel singular marked rank source
examples-right = tt
