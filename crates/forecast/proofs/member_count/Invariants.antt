use mathlib.Core.Path.{◌≡◌}
use lib.ListN.{length}
use Rattle.boards.specs.Boards.{has}
use Rattle.costs.specs.Forecasts.{those}
use Rattle.forecast.proofs.member_count.Given as goal

abbrev pub invariant-loop-i : goal.invariant-loop-i
invariant-loop-i l = l.n ≡ length (those l.i (has l.g))
