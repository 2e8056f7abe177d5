-- The code's tasks, and what playing and printing a line promises.
use Rattle.std.specs.Prelude.{ℕ, suc, ◌+◌, ◌≤◌, ◌≡◌, true, List, [], length, Option, Some, None}
use Rattle.text.specs.Events.{Event}
use Rattle.text.specs.Rows.{rows_text, rows_meant}
use Rattle.text.specs.Turns.{Player, play}
use Rattle.text.specs.Whole.{Run as Whole, run_after}
use Rattle.digits.specs.Append.{Appends, Writes}
use Rattle.digits.specs.declared.Output.{Output}
use Rattle.page.specs.Saving.{decided_by}
use Rattle.page.specs.Page.{totals_after, decided_text}
use Rattle.page.specs.declared.Saved.{Saved}
use Rattle.page.specs.declared.Totals.{Totals}
use Rattle.sheet.specs.Sums.{Small}
use Rattle.turns.specs.Turned.{area_size}
use Rattle.runner.specs.OneLine.{run_of}
use Rattle.runner.specs.declared.Played.{Played}
use Rattle.reports.specs.Reports.{State, RowsState, PageState, OrderState, goes}
use Rattle.reports.specs.declared.Report.{Report}
use Rattle.reports.specs.declared.Report.TheVariants as report
use Rattle.reports.specs.declared.Task.{Task}
use Rattle.reports.specs.declared.Stepped.{Stepped}

-- ---- tasks

-- the state of the definitions that a report of a run is; that a task with its area is
abbrev pub by_report : Report → Whole → State
by_report report.Rows w = RowsState w
by_report (report.Page t) w = PageState (record { run = w; totals = t })
by_report report.Order w = OrderState w

abbrev pub state_of : Task → List ℕ → State
state_of t area = by_report t.report (run_of t.run area)

-- the totals of a page are as large as its commits make them at most
abbrev pub SmallReport : Report → Type 0
SmallReport report.Rows = Unit {0}
SmallReport (report.Page t) = Small t
SmallReport report.Order = Unit {0}

-- the image is no larger than the largest
pub record Fits (t : Task) : Type 0 where
  pub image : t.run.session.length ≤ area_size
  pub report : SmallReport t.report

-- a task that plays a next line, and an area with room for the largest image
pub record Able (t : Task) (area : List ℕ) : Type 0 where
  pub fits : Fits t
  pub going : goes (state_of t area) ≡ true
  pub whole : area_size ≤ length area

-- ---- one line

-- what is printed of an event, and the state after it
unfoldable pub event_text : State → Event → List ℕ
event_text (RowsState w) e = rows_text (suc w.played) (play w.player e).rows
event_text (PageState p) e = decided_text p.totals (decided_by p.run.player e)
event_text (OrderState w) e = []

unfoldable pub state_after : State → Event → State
state_after (RowsState w) e = RowsState (run_after w e)
state_after (PageState p) e =
    let d = decided_by p.run.player e in
    PageState (record { run = run_after p.run e; totals = totals_after p.totals d })
state_after (OrderState w) e = OrderState (run_after w e)

-- the text of an event stands in the output from `at` on
pub record SteppedOn (v : State) (e : Event) (at : ℕ) (before : List ℕ) (r : Stepped) (area after : List ℕ) : Type 0
  where
    pub written : Appends (event_text v e) at before r.written after
    pub next : state_of r.task area ≡ state_after v e
    pub most : r.written ≤ at + 320
    pub fits : Fits r.task

-- ---- its parts

-- before it is played: the commit that it will decide, if a page is printed
abbrev pub ToBeDecided : Report → Player → Event → Option Saved → Type 0
ToBeDecided report.Rows p e d = Unit {0}
ToBeDecided (report.Page t) p e d = d ≡ decided_by p e
ToBeDecided report.Order p e d = Unit {0}

-- a decided commit has as many blocks and bytes as there can be at most
abbrev pub AmountsFit : Option Saved → Type 0
AmountsFit None = Unit {0}
AmountsFit (Some c) = (c.blocks ≤ 1024) × (c.bytes ≤ 17408)

-- the commit that a line decided, if it did, is printed and counted; r are the totals with it
pub record DecidedPrinted (t : Totals) (d : Option Saved) (r : Totals) (before after : Output) : Type 0 where
  pub written : Writes (decided_text t d) before after
  pub totals : r ≡ totals_after t d
  pub most : after.end ≤ before.end + 320
  pub small : Small (totals_after t d)

-- what can be printed: of a page, totals of few commits with one that fits
abbrev pub CanPrint : Report → Option Saved → Type 0
CanPrint report.Rows d = Unit {0}
CanPrint (report.Page t) d = Small t × (t.commits ≤ 9999) × AmountsFit d
CanPrint report.Order d = Unit {0}

-- what is printed of a line that was played: its rows under the number of lines that were played, the commit that it
-- decided, or nothing
abbrev pub printed_text : Report → Played → Option Saved → List ℕ → List ℕ
printed_text report.Rows p d buffer = rows_text p.run.played (rows_meant p.rows buffer)
printed_text (report.Page t) p d buffer = decided_text t d
printed_text report.Order p d buffer = []

-- and what is printed of the next
abbrev pub next_report : Report → Option Saved → Report
next_report report.Rows d = report.Rows
next_report (report.Page t) d = report.Page (totals_after t d)
next_report report.Order d = report.Order

pub record Printed (report : Report) (p : Played) (d : Option Saved) (buffer : List ℕ) (r : Report)
    (before after : Output) : Type 0 where
  pub written : Writes (printed_text report p d buffer) before after
  pub next : r ≡ next_report report d
  pub most : after.end ≤ before.end + 320
  pub small : SmallReport r
