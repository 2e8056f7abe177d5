use Prim.Native.Nat.{◌+◌}
use mathlib.Core.Path.{◌≡◌}
use lib.ListN.{length, get_or}
use Rattle.boards.specs.Lists.{span}
use Rattle.store.specs.Budget.{Makes, one}
use Rattle.store.proofs.put_all.Given as goal

abbrev pub invariant-loop-x : goal.invariant-loop-x
invariant-loop-x l =
    (length l.image ≡ length l.initial.image)
    × Makes (span (λ i. one (l.at + i) (get_or l.bytes i 0)) 0 l.x) l.initial.b l.initial.image l.b l.image
