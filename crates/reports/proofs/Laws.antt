-- The programs as one; what they make of a line that they play; commits counted and printed.
use Prim.Native.Nat.{ℕ, suc, ◌≤◌, ◌<◌}
use mathlib.Core.Path.{◌≡◌, refl, sym, ◌∙◌, ap, subst}
use mathlib.Core.Bool.{true, false}
use mathlib.Core.List.{List, [], ◌∷◌, ◌++◌}
use mathlib.Core.Logic.{◌≢◌}
use native.Mathlib.Omega.{arith}
use lib.Dec.{ltb, leb}
use lib.ListN.{length}
use borrow.Author.Tests.{lt-ltb, le-ltb, ltb-true, leb-true, eq-eqb, ne_eqb}
use Rattle.std.specs.Prelude.{Option, Some, None}
use Rattle.boards.proofs.Basics.{and_true, false_and}
use Rattle.text.specs.Events.{Event, taken}
use Rattle.text.specs.Whole.{Line, Step, Goes, Ends, Program, continued, output_by, Run as Whole, most_lines, line_rows}
use Rattle.text.specs.Whole.{line_text, next_run, line_step, rsmrun}
use Rattle.digits.specs.Append.{Appends, Writes}
use Rattle.digits.specs.declared.Output.{Output}
use Rattle.digits.proofs.Laws.{writes_none}
use Rattle.page.specs.Saving.{decided_by}
use Rattle.page.specs.Columns.{commit_line}
use Rattle.page.specs.Page.{full_status, added, totals_after, decided_text, page_goes, page_step, rsmpage}
use Rattle.page.specs.declared.Saved.{Saved}
use Rattle.page.specs.declared.Totals.{Totals}
use Rattle.page.proofs.Columns.{length_commit}
use Rattle.page.proofs.Bounds.{decided_fits}
use Rattle.sheet.specs.Sums.{Small}
use Rattle.text.specs.Turns.{Player}
use Rattle.listing.specs.Listing.{order_step, rsmorder}
use Rattle.runner.specs.OneLine.{run_of, EventPlayed}
use Rattle.runner.specs.declared.Played.{Played}
use Rattle.reports.specs.Reports.{State, RowsState, PageState, OrderState, lifted, report_step}
use Rattle.reports.specs.Reports.{report_close, reporting}
use Rattle.reports.specs.Reports.{EachItsOwn, goes}
use Rattle.reports.specs.Tasks.{by_report, state_of, event_text, state_after, AmountsFit, DecidedPrinted}
use Rattle.reports.specs.Tasks.{SteppedOn, SmallReport, ToBeDecided, CanPrint, Printed, printed_text}
use Rattle.reports.specs.Tasks.{next_report}
use Rattle.reports.specs.declared.Report.{Report}
use Rattle.reports.specs.declared.Report.TheVariants as report
use Rattle.reports.specs.declared.Task.{Task}
use Rattle.reports.specs.declared.Stepped.{Stepped}

-- ---- one program for all

-- a program whose states are some of theirs
module _ {A : Type 0} (q : Program A) (f : A → State)
    (steps : (a : A) (l : Line) → report_step (f a) l ≡ lifted f (q.step a l))
    (closes : (a : A) → report_close (f a) ≡ q.close a)
  where
    as_alone : (a : A) (ls : List Line) → output_by reporting (f a) ls ≡ output_by q a ls
    unfolding reporting output_by lifted continued
    as_alone a [] = closes a
    as_alone a (l ∷ ls) = rw (steps a l, closes a) (go (q.step a l) (λ b. as_alone b ls))
      where
        go : (x : Step A) → ((b : A) → output_by reporting (f b) ls ≡ output_by q b ls)
            → continued (lifted f x) (q.close a) (λ v. output_by reporting v ls)
            ≡ continued x (q.close a) (λ b. output_by q b ls)
        go (Goes text next) rest = ap (λ t. text ++ t) (rest next)
        go Ends rest = refl

pub each_its_own : EachItsOwn
unfolding report_step report_close
each_its_own =
    record {
      rows = as_alone rsmrun RowsState (λ a l. refl) (λ a. refl);
      page = as_alone rsmpage PageState (λ a l. refl) (λ a. refl);
      order = as_alone rsmorder OrderState (λ a l. refl) (λ a. refl);
    }

-- ---- the next line

module _ (w : Whole) where
  pub past_last : (report : Report) → most_lines ≤ w.played → false ≡ goes (by_report report w)
  unfolding goes page_goes
  past_last report.Rows l = sym (le-ltb w.played most_lines l)
  past_last (report.Page t) l = sym (false_and _ (le-ltb w.played most_lines l))
  past_last report.Order l = sym (le-ltb w.played most_lines l)

  module _ (l : w.played < most_lines) where
    pub rows_go : true ≡ goes (RowsState w)
    unfolding goes
    rows_go = sym (lt-ltb w.played most_lines l)

    pub order_goes : true ≡ goes (OrderState w)
    unfolding goes
    order_goes = sym (lt-ltb w.played most_lines l)

    pub page_goes_on : (t : Totals) → leb t.commits 9999 ≡ goes (PageState (record { run = w; totals = t }))
    unfolding goes page_goes
    page_goes_on t = rw (lt-ltb w.played most_lines l)

-- a state that goes on: what it was asked for
pub going_lines : (report : Report) (w : Whole) → goes (by_report report w) ≡ true → w.played < most_lines
unfolding goes page_goes
going_lines report.Rows w e = ltb-true w.played most_lines e
going_lines (report.Page t) w e =
    ltb-true w.played most_lines (and_true (ltb w.played most_lines) (leb t.commits 9999) e).0
going_lines report.Order w e = ltb-true w.played most_lines e

pub going_commits : (t : Totals) (w : Whole) → goes (by_report (report.Page t) w) ≡ true → t.commits ≤ 9999
unfolding goes page_goes
going_commits t w e =
    leb-true t.commits 9999 (and_true (ltb w.played most_lines) (leb t.commits 9999) e).1

-- its step, and that of one that does not
pub goes_steps : (v : State) (l : Line) → goes v ≡ true
    → reporting.step v l ≡ Goes (event_text v (taken l)) (state_after v (taken l))
unfolding reporting report_step lifted goes event_text state_after
    rsmrun line_step line_text line_rows next_run rsmpage page_step rsmorder order_step
goes_steps (RowsState r) l e = rw e
goes_steps (PageState p) l e = rw e
goes_steps (OrderState r) l e = rw e

pub ends_steps : (v : State) (l : Line) → goes v ≡ false → reporting.step v l ≡ Ends
unfolding reporting report_step lifted goes rsmrun line_step rsmpage page_step rsmorder order_step
ends_steps (RowsState r) l e = rw e
ends_steps (PageState p) l e = rw e
ends_steps (OrderState r) l e = rw e

-- ---- commits

pub decided_amounts : (p : Player) (e : Event) → AmountsFit (decided_by p e)
decided_amounts p e = go (decided_by p e) refl
  where
    go : (d : Option Saved) → decided_by p e ≡ d → AmountsFit d
    go None h = tt
    go (Some c) h = let f = decided_fits p e c h in (f.1, f.2)

module _ (t : Totals) {d : Option Saved} (out : Output) where
  pub none_printed : d ≡ None → out.end ≤ length out.buffer.now → Small t → DecidedPrinted t d t out out
  unfolding decided_text totals_after
  none_printed e l small =
      rw e (record { written = writes_none out l; totals = refl; most = omega arith; small = small })

  module _ {c : Saved} (e : d ≡ Some c) {totals : Totals} (same : totals ≡ added t c) (small : Small totals) where
    pub not_printed : full_status t ≢ 0 → out.end ≤ length out.buffer.now → DecidedPrinted t d totals out out
    unfolding decided_text totals_after
    not_printed full l =
        rw e
        (record {
          written = rw (ne_eqb (full_status t) 0 full) (writes_none out l);
          totals = same;
          most = omega arith;
          small = subst Small same small;
        })

    pub commit_printed : full_status t ≡ 0 → {after : Output}
        → Writes (commit_line totals.commits c) out after
        → DecidedPrinted t d totals out after
    unfolding decided_text totals_after added
    commit_printed room m =
        let open_page = eq-eqb (full_status t) 0 room in
        let count : totals.commits ≡ suc t.commits = ap (λ x. x.commits) same ∙ rw open_page in
        rw e
        (record {
          written = rw open_page (rw count at m);
          totals = same;
          most = omega (arith, m.appends.place, length_commit totals.commits c);
          small = subst Small same small;
        })

-- ---- a line looked at, played and printed

-- a state that goes on: its report can be printed
pub can_print : (report : Report) (w : Whole) (e : Event) (d : Option Saved) → SmallReport report
    → goes (by_report report w) ≡ true → ToBeDecided report w.player e d → CanPrint report d
can_print report.Rows w e d small going same = tt
can_print (report.Page t) w e d small going same =
    (small, going_commits t w going, rw same (decided_amounts w.player e))
can_print report.Order w e d small going same = tt

-- by what was decided before it and what was played: the text of an event, and the state after it
module _ (w : Whole) (e : Event) (d : Option Saved) {area buffer : List ℕ} {p : Played}
    (played : EventPlayed w e p area buffer)
  where
    text_printed : (report : Report) → ToBeDecided report w.player e d
        → printed_text report p d buffer ≡ event_text (by_report report w) e
    unfolding event_text
    text_printed report.Rows same = rw (played.rows, ap (λ (v : Whole). v.played) played.next)
    text_printed (report.Page t) same = rw same
    text_printed report.Order same = refl

    next_stepped : (report : Report) → ToBeDecided report w.player e d
        → by_report (next_report report d) (run_of p.run area) ≡ state_after (by_report report w) e
    unfolding state_after
    next_stepped report.Rows same = ap RowsState played.next
    next_stepped (report.Page t) same =
        rw same
        (ap (λ (v : Whole). PageState (record { run = v; totals = totals_after t (decided_by w.player e) }))
        played.next)
    next_stepped report.Order same = ap OrderState played.next

    pub stepped : (report : Report) → ToBeDecided report w.player e d
        → {next : Report} {before after : Output} → Printed report p d buffer next before after
        → {out now : List ℕ} → Appends (printed_text report p d buffer) before.end out after.end now
        → SteppedOn (by_report report w) e before.end out
        (record { task = record { run = p.run; report = next }; written = after.end }) area now
    stepped report same m written =
        record {
          written = rw (text_printed report same) at written;
          next = rw m.next (next_stepped report same);
          most = m.most;
          fits = record { image = played.fits; report = m.small };
        }

-- ---- one line more

-- how many lines were played
abbrev lines_played : State → ℕ
lines_played (RowsState w) = w.played
lines_played (PageState p) = p.run.played
lines_played (OrderState w) = w.played

task_played : (t : Task) (area : List ℕ) → lines_played (state_of t area) ≡ t.run.played
task_played t area = go t.report
  where
    go : (r : Report) → lines_played (by_report r (run_of t.run area)) ≡ t.run.played
    go report.Rows = refl
    go (report.Page totals) = refl
    go report.Order = refl

one_more : (v : State) (e : Event) → lines_played (state_after v e) ≡ suc (lines_played v)
unfolding state_after
one_more (RowsState w) e = refl
one_more (PageState p) e = refl
one_more (OrderState w) e = refl

-- one that goes on has not played all lines that a run takes
pub task_lines : (t : Task) (area : List ℕ) → goes (state_of t area) ≡ true → t.run.played < most_lines
task_lines t area e = going_lines t.report (run_of t.run area) e

pub stepped_more : (t : Task) (before : List ℕ) {e : Event} {at : ℕ} {out area x : List ℕ} {r : Stepped}
    → SteppedOn (state_of t before) e at out r area x → r.task.run.played ≡ suc t.run.played
stepped_more t before {e} {area = area} {r = r} m =
    sym (task_played r.task area) ∙ ap lines_played m.next ∙ one_more (state_of t before) e
    ∙ ap suc (task_played t before)
