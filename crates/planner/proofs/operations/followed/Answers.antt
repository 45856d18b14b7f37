-- `planner::operations::followed` meets its contract: both lists are copied into an array of zeros. Assumes nothing.
use Rattle.bank.specs.Limits.{ROWS}
use Rattle.planner.proofs.Followed.{followed_is}
use Rattle.planner.proofs.operations.followed.Goals as goal

pub returns : goal.returns
returns c =
    let a = c.args in
    followed_is ROWS a.first.now a.second.now c.copy_from_slice.new.self c.copy_from_slice-2.new.self c.requires c.copy_from_slice.ensures.after
    c.copy_from_slice-2.ensures.after
