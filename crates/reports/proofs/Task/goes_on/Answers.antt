-- `goes_on` meets its contract.
use native.Mathlib.Omega.{arith}
use Rattle.runner.specs.OneLine.{run_of}
use Rattle.reports.proofs.Laws.{past_last, rows_go, page_goes_on, order_goes}
use Rattle.reports.proofs.Task.goes_on.Goals as goal

pub returns-then-self-ge-MOST_LINES : goal.returns-then-self-ge-MOST_LINES
returns-then-self-ge-MOST_LINES c =
    λ area.
    past_last (run_of c.args.self.run area) c.args.self.report (omega (arith, c.if-self-ge-MOST_LINES.true))

pub returns-in-Rows : goal.returns-in-Rows
returns-in-Rows c =
    λ area.
    rw c.in-Rows.is (rows_go (run_of c.args.self.run area) (omega (arith, c.if-self-ge-MOST_LINES.false)))

pub returns-in-Page : goal.returns-in-Page
returns-in-Page c =
    λ area.
    rw c.in-Page.is
    (page_goes_on (run_of c.args.self.run area) (omega (arith, c.if-self-ge-MOST_LINES.false))
    c.in-Page.totals)

pub returns-in-Order : goal.returns-in-Order
returns-in-Order c =
    λ area.
    rw c.in-Order.is (order_goes (run_of c.args.self.run area) (omega (arith, c.if-self-ge-MOST_LINES.false)))
