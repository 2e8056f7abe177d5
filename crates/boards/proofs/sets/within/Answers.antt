-- All of g's bits are common.
use Rattle.std.proofs.Common.{arith}
use Rattle.boards.proofs.Masks.{and_within}
use Rattle.boards.proofs.sets.within.Goals as goal

pub returns : goal.returns
returns c = and_within c.args.g c.args.h (omega arith) (omega arith)
