use Prim.Native.Nat.{ℕ, ◌+◌, ◌≤◌, ◌<◌}
use mathlib.Core.Path.{◌≡◌}
use lib.ListN.{get_or}
use Rattle.layout.specs.Headers.{tags_at}
use Rattle.blocks.proofs.next_tagged.Given as goal

abbrev pub invariant-loop-i : goal.invariant-loop-i
invariant-loop-i l =
    (l.b ≤ l.i) × ((j : ℕ) → l.b ≤ j → j < l.i → get_or l.image (tags_at + j) 0 ≡ 0)
