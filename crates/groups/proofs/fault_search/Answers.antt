-- `fault_search` meets its contract: a fault group is a commit group along the columns.
use Rattle.boards.specs.Boards.{fault_group}
use Rattle.groups.proofs.fault_search.Goals as goal

pub returns : goal.returns
unfolding fault_group
returns c = c.search.ensures
