-- `page` meets its contract: no totals are small, and those of the first page.
use mathlib.Core.Path.{◌∙◌, ap}
use Rattle.page.specs.declared.Totals.{Totals}
use Rattle.text.specs.Whole.{start}
use Rattle.reports.specs.Reports.{PageState}
use Rattle.reports.proofs.Task.page.Goals as goal

pub new-requires : goal.new-requires
new-requires c = c.no_totals.ensures.1

pub returns : goal.returns
returns c = (
  c.new.ensures.0,
  λ area.
      c.new.ensures.1 area
      ∙ ap (λ (t : Totals). PageState (record { run = start; totals = t })) c.no_totals.ensures.0,
)
