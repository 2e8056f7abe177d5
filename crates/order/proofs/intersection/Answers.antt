-- `intersection` meets its contract: the bits of both.
use native.Mathlib.Omega.{arith}
use Rattle.order.proofs.Next.{and_intersection}
use Rattle.order.proofs.intersection.Goals as goal

pub returns : goal.returns
returns c = and_intersection c.args.g c.args.h (omega arith) (omega arith)
