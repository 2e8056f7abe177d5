use Rattle.boards.specs.Lists.{for}
use Rattle.protocol.specs.Image.{view}
use Rattle.protocol.specs.Calls.{context_saved}
use Rattle.store.specs.Puts.{Puts}
use Rattle.blocks.proofs.copy_contexts.Given as goal

abbrev pub invariant-loop-i : goal.invariant-loop-i
invariant-loop-i l =
    Puts l.s (for l.i (context_saved l.s (view l.s l.initial.image) l.g)) l.initial.left l.initial.image l.left l.image
