-- `print` meets its contract.
use mathlib.Core.Path.{refl, ap}
use native.Mathlib.Omega.{arith}
use Rattle.digits.proofs.Laws.{writes_none}
use Rattle.reports.specs.declared.Report.TheVariants as report
use Rattle.reports.proofs.print.Goals as goal

pub returns-in-Rows : goal.returns-in-Rows
returns-in-Rows c =
    rw c.in-Rows.is
    (record { written = c.put_rows.ensures.writes; next = refl; most = c.put_rows.ensures.room; small = tt })

pub returns-in-Page : goal.returns-in-Page
returns-in-Page c =
    let m = c.print_decided-totals.ensures in
    rw c.in-Page.is
    (record { written = m.written; next = ap report.Page m.totals; most = m.most; small = rw m.totals m.small })

pub returns-in-Order : goal.returns-in-Order
returns-in-Order c =
    rw c.in-Order.is (record { written = writes_none _ (omega arith); next = refl; most = omega arith; small = tt })
