-- `commit_cost` meets its contract.
use Prim.Native.Nat.{◌*◌, ◌≤◌}
use native.Mathlib.Omega.{arith}
use borrow.Author.Rules.{rules}
use Rattle.protocol.specs.Image.{view}
use Rattle.costs.specs.Forecasts.{commit_cost}
use Rattle.forecast.proofs.Laws.{most_contexts, most_blocks}
use Rattle.forecast.proofs.commit_cost.Goals as goal
use Rattle.forecast.proofs.commit_cost.Goals.{After-member_count, After-blocks_cost-blocks}

-- what the sum is made of
contexts : (c : After-member_count) → c.member_count.result * c.args.s.context ≤ 1024
contexts c = rw c.member_count.ensures (most_contexts c.args.s c.requires.0 c.args.g)

few : (c : After-blocks_cost-blocks) → (c.blocks_cost-blocks.result ≤ 66560)
    × (c.member_count.result * c.args.s.context ≤ 1024)
few c = (
  rw c.blocks_cost-blocks.ensures (most_blocks c.args.s c.requires.0 c.args.g (view c.args.s c.args.image.now)),
  rw c.member_count.ensures (most_contexts c.args.s c.requires.0 c.args.g),
)

pub overflow_mul-contexts : goal.overflow_mul-contexts
overflow_mul-contexts c = omega (arith, contexts (goal.at.overflow_mul-contexts c).After-member_count)

pub overflow_add-result : goal.overflow_add-result
overflow_add-result c = omega (arith, few (goal.at.overflow_add-result c).After-blocks_cost-blocks)

pub overflow_add-result-2 : goal.overflow_add-result-2
overflow_add-result-2 c = omega (arith, few (goal.at.overflow_add-result-2 c).After-blocks_cost-blocks)

pub overflow_add-result-3 : goal.overflow_add-result-3
overflow_add-result-3 c = omega (arith, few (goal.at.overflow_add-result-3 c).After-blocks_cost-blocks)

pub returns : goal.returns
unfolding commit_cost
returns c = search rules
