-- `inspect::recovery_context` meets its contract: each test that fails answers, and a board's context lies within the
-- image.
use Prim.Native.Nat.{◌+◌, ◌*◌, ◌≤◌, ◌<◌}
use native.Mathlib.Omega.{arith}
use borrow.Author.Rules.{rules}
use lib.ListN.{length}
use Rattle.protocol.specs.Calls.{first, context_tests}
use Rattle.inspect.proofs.Laws.{context_within, context_ends}
use Rattle.inspect.proofs.recovery_context.Goals as goal
use Rattle.inspect.proofs.recovery_context.Goals.{After-checkpoint_at}

-- the context ends within the image
ends : (c : After-checkpoint_at) →
    let end = c.checkpoint_at.result + c.args.board * c.in_ok-s.s.context + c.in_ok-s.s.context in
    (end ≤ length c.args.image.now) × (length c.args.image.now < 65536)
ends c = context_ends c.args.image.now c.args.board c.in_ok-s.ensures c.checkpoint_at.ensures c.if-board-s.false

pub returns-in_err-s : goal.returns-in_err-s
unfolding context_tests first
returns-in_err-s c = search rules

pub returns-then-board-s : goal.returns-then-board-s
unfolding context_tests first
returns-then-board-s c = search rules

pub overflow_mul-at : goal.overflow_mul-at
overflow_mul-at c = omega (arith, ends (goal.at.overflow_mul-at c).After-checkpoint_at)

pub overflow_add-at : goal.overflow_add-at
overflow_add-at c = omega (arith, ends (goal.at.overflow_add-at c).After-checkpoint_at)

pub overflow_add-end : goal.overflow_add-end
overflow_add-end c = omega (arith, ends (goal.at.overflow_add-end c).After-checkpoint_at)

pub slice_bounds-result-end : goal.slice_bounds-result-end
slice_bounds-result-end c = omega (arith, ends (goal.at.slice_bounds-result-end c).After-checkpoint_at)

pub returns : goal.returns
returns c =
    context_within c.args.image.now c.args.board c.in_ok-s.ensures c.checkpoint_at.ensures c.if-board-s.false
