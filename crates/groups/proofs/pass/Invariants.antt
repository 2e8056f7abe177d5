use Prim.Native.Nat.{◌-◌, ◌^◌, ◌<◌}
use mathlib.Core.Path.{◌≡◌}
use Rattle.boards.specs.Rows.{minus}
use Rattle.groups.specs.Search.{followed, PassInvariant}
use Rattle.groups.proofs.pass.Given as goal

abbrev pub invariant-loop-left : goal.invariant-loop-left
invariant-loop-left l =
    PassInvariant (followed l.rows l.along) l.before.members l.progress × (l.progress.added < 2 ^ 16)
    × (l.left ≡ minus l.before.members l.progress.added)

abbrev pub decreases-loop-left : goal.decreases-loop-left
decreases-loop-left l = 16 - l.progress.count
