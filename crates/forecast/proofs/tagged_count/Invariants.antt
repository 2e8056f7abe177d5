use Prim.Native.Nat.{◌≤◌, ◌-◌}
use mathlib.Core.Path.{◌≡◌}
use lib.ListN.{length}
use Rattle.costs.specs.Forecasts.{those}
use Rattle.forecast.proofs.Laws.{chosen}
use Rattle.forecast.proofs.tagged_count.Given as goal

abbrev pub invariant-loop-b : goal.invariant-loop-b
invariant-loop-b l = (l.b ≤ l.s.blocks) × (l.n ≡ length (those l.b (chosen l.image l.s l.g)))

abbrev pub decreases-loop-b : goal.decreases-loop-b
decreases-loop-b l = l.s.blocks - l.b
