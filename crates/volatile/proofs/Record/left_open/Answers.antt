-- None is left if members meet the group.
use Rattle.std.proofs.Common.{rules}
use Rattle.volatile.specs.Volatile.{left_open, closed}
use Rattle.volatile.proofs.Record.left_open.Goals as goal

pub returns-then-meet : goal.returns-then-meet
unfolding left_open closed
returns-then-meet c = search rules

pub returns : goal.returns
unfolding left_open closed
returns c = search rules
