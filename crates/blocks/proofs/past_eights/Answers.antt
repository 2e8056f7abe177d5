-- `past_eights` meets its contract: a chunk more that is all 0.
use native.Mathlib.Omega.{arith}
use borrow.Author.Rules.{rules}
use Rattle.protocol.specs.Image.{total}
use Rattle.layout.proofs.Laws.{bounded}
use Rattle.blocks.proofs.Zeros.{eight_more}
use Rattle.blocks.proofs.past_eights.Goals as goal

pub overflow_add-b : goal.overflow_add-b
overflow_add-b c = omega (arith, bounded c.requires.0)

pub overflow_add-s : goal.overflow_add-s
overflow_add-s c = omega (arith, bounded c.requires.0)

pub slice_bounds-as_chunks-end : goal.slice_bounds-as_chunks-end
unfolding total
slice_bounds-as_chunks-end c = search rules

pub loop-i-preserved : goal.loop-i-preserved
unfolding total
loop-i-preserved c =
    eight_more c.args.image.now c.args.b _ c.requires.2 (omega arith) c.loop-i.i
    c.as_chunks.ensures.front (omega arith) c.loop-i.invariant (c.eight_zeros.ensures c.if-not-eight_zeros.false)
