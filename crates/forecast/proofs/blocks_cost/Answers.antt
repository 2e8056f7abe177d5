-- `blocks_cost` meets its contract.
use native.Mathlib.Omega.{arith}
use borrow.Author.Rules.{rules}
use Rattle.protocol.specs.Image.{view}
use Rattle.costs.specs.Forecasts.{blocks_cost}
use Rattle.layout.proofs.Laws.{bounded}
use Rattle.forecast.proofs.Laws.{most_blocks}
use Rattle.forecast.proofs.blocks_cost.Goals as goal

pub overflow_add-result : goal.overflow_add-result
overflow_add-result c = omega (arith, (bounded c.requires.0).limits)

pub overflow_mul-result : goal.overflow_mul-result
unfolding blocks_cost
overflow_mul-result c =
    let few = most_blocks c.args.s c.requires.0 c.args.g (view c.args.s c.args.image.now) in
    rw c.tagged_count.ensures (omega (arith, few))

pub returns : goal.returns
unfolding blocks_cost
returns c = search rules
