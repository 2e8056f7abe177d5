-- The starter's bit alone is acknowledged.
use Rattle.std.proofs.Common.{refl}
use Rattle.volatile.specs.Volatile.{start, opened, acknowledge}
use Rattle.volatile.proofs.Records.{record_same, commit_same}
use Rattle.volatile.proofs.Record.start.Goals as goal

pub returns : goal.returns
unfolding start opened acknowledge
returns c = record_same refl (commit_same c.with_board.ensures)
