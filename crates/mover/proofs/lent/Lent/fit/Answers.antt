-- `mover::lent::Lent::fit` meets its contract: each length against its product. Assumes nothing.
use Rattle.bank.proofs.Limits.{limits→allowed}
use Rattle.mover.proofs.lent.Lent.fit.Goals as goal
use Rattle.tables.proofs.Sizes.{area_fits, memory_fits}

pub overflow_mul-area : goal.overflow_mul-area
overflow_mul-area c =
    record { fits = rw (c.power.ensures, c.from-r.ensures) (area_fits (limits→allowed c.args.g c.requires)) }

pub overflow_mul-memory : goal.overflow_mul-memory
overflow_mul-memory c =
    record { fits = rw (c.power-2.ensures, c.from-r.ensures) (memory_fits (limits→allowed c.args.g c.requires)) }
