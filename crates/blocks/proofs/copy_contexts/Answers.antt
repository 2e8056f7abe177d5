-- `copy_contexts` meets its contract: after i rounds the contexts of the members below i are saved, read off the entry.
use native.Mathlib.Omega.{arith}
use Rattle.boards.specs.Lists.{for}
use Rattle.blocks.proofs.Blocks.{contexts_again}
use Rattle.store.proofs.Chains.{puts_none}
use Rattle.blocks.proofs.copy_contexts.Goals as goal

pub loop-i-init : goal.loop-i-init
unfolding for
loop-i-init c = puts_none _ _ _

pub loop-i-preserved : goal.loop-i-preserved
loop-i-preserved c =
    contexts_again c.requires.1 c.requires.2 c.args.g c.loop-i.i (omega arith) c.loop-i.invariant
    c.copy_context-left.ensures
