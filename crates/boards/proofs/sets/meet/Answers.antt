-- Common bits are common boards.
use Rattle.std.proofs.Common.{arith}
use Rattle.boards.proofs.Masks.{and_meets}
use Rattle.boards.proofs.sets.meet.Goals as goal

pub returns : goal.returns
returns c = and_meets c.args.g c.args.h (omega arith) (omega arith)
