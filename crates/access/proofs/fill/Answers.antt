-- `fill` meets its contract: the image's part, then the rest of the buffer.
use mathlib.Core.List.{List, ◌++◌}
use mathlib.Core.Path.{◌∙◌, ap}
use Prim.Native.Nat.{ℕ}
use lib.ListN.{drop}
use Rattle.access.specs.Leaves.{filled_from}
use Rattle.access.proofs.Laws.{part_read}
use Rattle.access.proofs.fill.Goals as goal

pub returns : goal.returns
unfolding filled_from
returns c =
    ap (λ (xs : List ℕ). xs ++ drop c.args.n c.args.buffer.now)
    (c.copy_from_slice.ensures.after ∙ part_read c.args.image.now c.args.at c.args.n c.requires.0)
