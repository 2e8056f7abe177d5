-- `column` meets its contract: of the boards before b those are left that depend on a.
use mathlib.Core.Path.{◌∙◌, ap, ap₂}
use native.Mathlib.Omega.{arith}
use Rattle.boards.specs.Rows.{links_of}
use Rattle.groups.specs.Search.{followed, kept}
use Rattle.groups.specs.declared.Direction.TheVariants.{Columns}
use Rattle.groups.proofs.Passes.{remaining, remaining_first, remaining_next, remaining_last}
use Rattle.groups.proofs.column.Goals as goal

pub loop-b-init : goal.loop-b-init
loop-b-init c = remaining_first (followed c.args.rows Columns c.args.a)

pub loop-b-preserved : goal.loop-b-preserved
unfolding links_of
loop-b-preserved c =
    c.keep-boards.ensures
    ∙ ap₂ (λ t g. kept t c.loop-b.b g) c.has-linked.ensures c.loop-b.invariant
    ∙ remaining_next (followed c.args.rows Columns c.args.a) c.loop-b.b

pub returns : goal.returns
returns c =
    let linked = followed c.args.rows Columns c.args.a in
    c.loop-b.invariant ∙ ap (remaining linked) (omega arith) ∙ remaining_last linked
