-- `announce` meets its contract: three bytes past the mark, in this order.
use native.Mathlib.Omega.{arith}
use Rattle.protocol.specs.Image.{total}
use Rattle.decision.proofs.Laws.{announced}
use Rattle.decision.proofs.announce.Goals as goal

pub store-low-requires : goal.store-low-requires
unfolding total
store-low-requires c = omega arith

pub store-high-requires : goal.store-high-requires
unfolding total
store-high-requires c = omega arith

pub store-requires : goal.store-requires
unfolding total
store-requires c = omega arith

pub returns : goal.returns
returns c =
    announced _ _ c.store-low.ensures c.store-high.ensures c.store.ensures
