-- The board's bit is added.
use Rattle.std.proofs.Common.{refl}
use Rattle.volatile.specs.Volatile.{acknowledge}
use Rattle.volatile.proofs.Records.{record_same, commit_same}
use Rattle.volatile.proofs.Record.acknowledge.Goals as goal

pub returns : goal.returns
unfolding acknowledge
returns c = record_same refl (commit_same c.with_board.ensures)
