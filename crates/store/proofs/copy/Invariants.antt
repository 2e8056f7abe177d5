use mathlib.Core.Path.{◌≡◌}
use lib.ListN.{length}
use Rattle.store.specs.Budget.{Makes}
use Rattle.store.specs.Runs.{copy_stores}
use Rattle.store.proofs.copy.Given as goal

abbrev pub invariant-loop-x : goal.invariant-loop-x
invariant-loop-x l =
    (length l.part ≡ length l.initial.part)
    × Makes (copy_stores l.initial.part l.from l.to l.x) l.initial.b l.initial.part l.b l.part
