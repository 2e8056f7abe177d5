-- The bits of either.
use Rattle.std.proofs.Common.{arith}
use Rattle.boards.proofs.Masks.{or_union}
use Rattle.boards.proofs.sets.union.Goals as goal

pub returns : goal.returns
returns c = or_union c.args.g c.args.h (omega arith) (omega arith)
