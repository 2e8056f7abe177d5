-- The rows are those that the group brings.
use Rattle.volatile.specs.Volatile.{clear}
use Rattle.volatile.proofs.Records.{record_same}
use Rattle.volatile.proofs.Record.clear.Goals as goal

pub returns : goal.returns
unfolding clear
returns c = record_same c.requires c.left_open-commit.ensures
