-- The open commit.
use Rattle.std.proofs.Common.{refl}
use Rattle.volatile.specs.Volatile.{commit_of}
use Rattle.volatile.proofs.Record.commit_of.Goals as goal

pub returns : goal.returns
unfolding commit_of
returns c = refl
