-- `next_tagged` reads tags of the image alone.
use native.Mathlib.Omega.{arith}
use Rattle.protocol.specs.Image.{total}
use Rattle.layout.proofs.Laws.{bounded}
use Rattle.blocks.proofs.next_tagged.Goals as goal

pub overflow_add-i : goal.overflow_add-i
overflow_add-i c = omega (arith, bounded c.requires.0)

pub bounds-image-i : goal.bounds-image-i
unfolding total
bounds-image-i c = omega arith
