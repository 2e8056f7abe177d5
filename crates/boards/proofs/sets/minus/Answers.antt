-- The bits of g that h has not.
use Rattle.std.proofs.Common.{arith}
use Rattle.boards.proofs.Masks.{and_minus}
use Rattle.boards.proofs.sets.minus.Goals as goal

pub returns : goal.returns
returns c = and_minus c.args.g c.args.h (omega arith) (omega arith)
