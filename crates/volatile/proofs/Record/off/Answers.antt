-- All is zero.
use Rattle.std.proofs.Common.{arith}
use Rattle.std.proofs.lemmas.Grind.{common_steps}
use Rattle.volatile.specs.Volatile.{off, closed}
use Rattle.volatile.proofs.Record.off.Goals as goal

pub returns : goal.returns
unfolding off closed
returns c = grind (arith, common_steps)
