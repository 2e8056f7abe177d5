-- All but "on" is zero.
use Rattle.std.proofs.Common.{arith}
use Rattle.std.proofs.lemmas.Grind.{common_steps}
use Rattle.volatile.specs.Volatile.{fresh, closed}
use Rattle.volatile.proofs.Record.fresh.Goals as goal

pub returns : goal.returns
unfolding fresh closed
returns c = grind (arith, common_steps)
