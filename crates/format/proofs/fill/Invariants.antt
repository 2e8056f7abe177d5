use Prim.Native.Nat.{ℕ, ◌-◌, ◌<◌}
use mathlib.Core.Path.{◌≡◌}
use lib.ListN.{length}
use Rattle.boards.specs.Lists.{span}
use Rattle.protocol.specs.Image.{Store}
use Rattle.store.specs.Budget.{Makes, one}
use Rattle.format.proofs.fill.Given as goal

abbrev pub invariant-loop-i : goal.invariant-loop-i
invariant-loop-i g l =
    (length l.image ≡ length l.initial.image)
    × ((f : ℕ → Store) → ((i y : ℕ) → i < l.to → goal.F-post g l.byte_at i y → one i y ≡ f i)
    → Makes (span f l.from (l.i - l.from)) l.initial.left l.initial.image l.left l.image)
