use mathlib.Core.Path.{◌≡◌}
use Rattle.groups.specs.Search.{followed}
use Rattle.groups.specs.declared.Direction.TheVariants.{Columns}
use Rattle.groups.proofs.Passes.{remaining}
use Rattle.groups.proofs.column.Given as goal

abbrev pub invariant-loop-b : goal.invariant-loop-b
invariant-loop-b l = l.boards ≡ remaining (followed l.fn.rows Columns l.a) l.b
