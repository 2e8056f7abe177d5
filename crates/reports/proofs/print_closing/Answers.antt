-- `print_closing` meets its contract: nothing, the totals, or the order.
use native.Mathlib.Omega.{arith}
use Rattle.text.specs.Whole.{rsmrun}
use Rattle.page.specs.Page.{rsmpage}
use Rattle.listing.specs.Listing.{rsmorder}
use Rattle.digits.proofs.Laws.{writes_none}
use Rattle.reports.specs.Reports.{report_close}
use Rattle.reports.proofs.print_closing.Goals as goal

pub returns-in-Rows : goal.returns-in-Rows
unfolding report_close rsmrun
returns-in-Rows c = rw c.in-Rows.is (writes_none _ (omega arith))

pub returns-in-Page : goal.returns-in-Page
unfolding report_close rsmpage
returns-in-Page c = rw c.in-Page.is c.put_total.ensures

pub returns-in-Order : goal.returns-in-Order
unfolding report_close rsmorder
returns-in-Order c = rw c.in-Order.is c.put_order.ensures
