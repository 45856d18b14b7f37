-- `plan::make::plan_made` meets its contract: each iteration stores one of the passes that are to come, and the last call what is left. Assumes nothing.
use Prim.Native.Nat.{◌-◌}
use lib.ListN.{take}
use Rattle.plan.proofs.Making.{Making, ahead}
use Rattle.plan.proofs.make.plan_made.Given as goal

abbrev pub invariant-rounds : goal.invariant-rounds
invariant-rounds l = Making l.initial.plan.geometry l.initial.plan.blanks l.n l.b l.m l.c (ahead l.m l.n l.b l.m (take l.n l.initial.cols) (take l.n l.initial.q) l.c) l.plan (take l.n l.cols) (take l.n l.q) l.p

abbrev pub decreases-rounds : goal.decreases-rounds
decreases-rounds l = l.m - l.p
