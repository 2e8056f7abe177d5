-- `copy_blocks` meets its contract: at block b the puts of the first b blocks are made, read off the entry.
use Prim.Native.Nat.{◌+◌}
use mathlib.Core.Path.{◌≡◌, subst}
use native.Mathlib.Omega.{arith}
use Rattle.boards.specs.Lists.{for}
use Rattle.protocol.specs.Image.{view}
use Rattle.protocol.specs.Calls.{blocks_copied}
use Rattle.store.specs.Puts.{Puts}
use Rattle.blocks.specs.Banks.{block_puts}
use Rattle.blocks.proofs.Blocks.{blocks_again, blocks_skip}
use Rattle.store.proofs.Chains.{puts_none}
use Rattle.blocks.proofs.copy_blocks.Goals as goal

pub loop-b-init : goal.loop-b-init
unfolding for
loop-b-init c = (
  c.next_tagged-b.ensures.1,
  blocks_skip c.requires.1 c.requires.2 c.args.g c.args.how 0 c.next_tagged-b.result
      (omega arith) c.next_tagged-b.ensures.1
      c.next_tagged-b.ensures.2 (puts_none _ _ _),
)

pub loop-b-preserved : goal.loop-b-preserved
loop-b-preserved c = (
  c.next_tagged-b-in-loop-b.ensures.1,
  blocks_skip c.requires.1 c.requires.2 c.args.g c.args.how (c.loop-b.b + 1)
      c.next_tagged-b-in-loop-b.result
      c.next_tagged-b-in-loop-b.ensures.0 c.next_tagged-b-in-loop-b.ensures.1 c.next_tagged-b-in-loop-b.ensures.2
      (blocks_again c.requires.1 c.requires.2 c.args.g c.args.how c.loop-b.b
      c.loop-b-test.true c.loop-b.invariant.1 c.copy_block-left.ensures),
)

pub returns : goal.returns
unfolding blocks_copied
returns c =
    let done : c.loop-b.b ≡ c.args.s.blocks = omega (arith, c.loop-b-test.false, c.loop-b.invariant.0) in
    subst
    (λ n. Puts c.args.s (for n (block_puts c.args.s (view c.args.s c.args.image.now) c.args.g c.args.how))
    c.args.k
    c.args.image.now c.loop-b.left c.loop-b.image)
    done c.loop-b.invariant.1
