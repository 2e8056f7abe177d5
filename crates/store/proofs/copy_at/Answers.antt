-- `copy_at` makes the stores of `copy` in the part of the image that it lends.
use native.Mathlib.Omega.{arith}
use Rattle.store.specs.Runs.{copy_stores}
use Rattle.store.proofs.Runs.{makes_lent}
use Rattle.store.proofs.copy_at.Goals as goal

pub returns : goal.returns
returns c =
    makes_lent (λ part. copy_stores part c.args.from c.args.to c.args.count) c.args.base c.args.image.now
    (omega arith)
    c.copy.ensures
