-- `store` makes its one store if the budget has one left, and is cut if not.
use native.Mathlib.Omega.{arith}
use Rattle.store.specs.Budget.{one}
use Rattle.store.proofs.Laws.{one_refused, one_made}
use Rattle.store.proofs.store.Goals as goal

pub returns-then-left-eq0 : goal.returns-then-left-eq0
returns-then-left-eq0 c =
    one_refused (one c.args.at c.args.byte) c.args.image.now c.if-left-eq0.true

pub returns : goal.returns
returns c =
    one_made (one c.args.at c.args.byte) c.args.image.now (omega arith)
