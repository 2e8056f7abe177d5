use Prim.Native.Nat.{◌-◌, ◌≤◌}
use Rattle.boards.specs.Lists.{for}
use Rattle.protocol.specs.Image.{view}
use Rattle.store.specs.Puts.{Puts}
use Rattle.blocks.specs.Banks.{block_puts}
use Rattle.blocks.proofs.copy_blocks.Given as goal

abbrev pub invariant-loop-b : goal.invariant-loop-b
invariant-loop-b l =
    (l.b ≤ l.s.blocks) × Puts l.s (for l.b (block_puts l.s (view l.s l.initial.image) l.g l.how)) l.initial.left
    l.initial.image l.left l.image

abbrev pub decreases-loop-b : goal.decreases-loop-b
decreases-loop-b l = l.s.blocks - l.b
