use Prim.Native.Nat.{◌<◌, ℕ}
use mathlib.Core.Path.{◌≡◌}
use mathlib.Core.Bool.{false}
use Rattle.boards.specs.Rows.{links_of}
use Rattle.components.specs.Components.{ready}
use Rattle.order.proofs.next_component.Given as goal

-- no board below i may go next
abbrev pub invariant-loop-i : goal.invariant-loop-i
invariant-loop-i l = (j : ℕ) → j < l.i → ready (links_of l.rows) l.left j ≡ false
