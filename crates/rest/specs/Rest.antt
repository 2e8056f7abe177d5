-- What a task plays at the end.
use Rattle.std.specs.Prelude.{ℕ, ◌≤◌, ◌≡◌, List, [], ◌++◌, length, take, Option, Some, None, Result, Ok, Err}
use Rattle.std.specs.declared.io.Error.{Error}
use Rattle.text.specs.Whole.{lines, output_by}
use Rattle.reports.specs.Reports.{State, report_close, reporting}
use Rattle.reports.specs.Tasks.{state_of, Fits}
use Rattle.reports.specs.declared.Stepped.{Stepped}

-- the output still due when no text comes any more: at the input's end that of the last line and what the program
-- closes with, after a read that failed none
unfoldable pub still_due : Result (Option ℕ) Error → State → List ℕ → List ℕ
still_due (Ok (Some end)) w rest = []
still_due (Ok None) w rest = output_by reporting w (lines rest)
still_due (Err e) w rest = []

-- the last line was played: what the whole gives is what was written and what the program closes with
pub record LastStepped (w : State) (rest : List ℕ) (r : Stepped) (area out : List ℕ) : Type 0 where
  pub output : output_by reporting w (lines rest) ≡ take r.written out ++ report_close (state_of r.task area)
  pub written : r.written ≤ 320
  pub fits : Fits r.task

pub record Last (got : Result (Option ℕ) Error) (w : State) (rest : List ℕ) (r : ℕ) (out : List ℕ) : Type 0 where
  pub output : still_due got w rest ≡ take r out
  pub written : r ≤ length out
