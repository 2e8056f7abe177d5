-- The open commit's members.
use Rattle.std.proofs.Common.{refl}
use Rattle.volatile.specs.Volatile.{engaged}
use Rattle.volatile.proofs.Record.engaged.Goals as goal

pub returns : goal.returns
unfolding engaged
returns c = refl
