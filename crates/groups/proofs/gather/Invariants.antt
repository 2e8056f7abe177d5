use Prim.Native.Nat.{ℕ, ◌-◌, ◌≤◌}
use mathlib.Core.Path.{◌≡◌}
use Rattle.boards.specs.Boards.{single, passes}
use Rattle.groups.specs.Search.{followed, PassInvariant}
use Rattle.groups.proofs.gather.Given as goal

abbrev pub invariant-loop-progress : goal.invariant-loop-progress
invariant-loop-progress l =
    let d = followed l.rows l.along in
    PassInvariant d l.progress.members l.progress
    × ((n : ℕ) × (n ≤ l.progress.count) × (l.progress.members ≡ passes d n (single l.i)))

abbrev pub decreases-loop-progress : goal.decreases-loop-progress
decreases-loop-progress l = 16 - l.progress.count
