-- What feeding a task a piece of input promises.
use Rattle.std.specs.Prelude.{ℕ, ◌+◌, ◌≤◌, ◌<◌, ◌≡◌, true, false, List, ◌++◌, length, take, drop}
use Rattle.text.specs.Whole.{lines, output_by}
use Rattle.pieces.specs.Pieces.{Unbroken, Broken, Output, Kept, Keeps}
use Rattle.pieces.specs.declared.Stop.{Stop}
use Rattle.pieces.specs.declared.Stop.TheVariants.{Unfinished, Full, Limit}
use Rattle.reports.specs.Reports.{State, reporting, goes}
use Rattle.reports.specs.Tasks.{state_of, Fits}
use Rattle.feeder.specs.declared.Progress.{Progress}
use Rattle.feeder.specs.declared.Fed.{Fed}

-- the longest output of one line
abbrev pub line_room : ℕ
line_room = 320

-- Why lines stopped, in a state v with a rest and an output written so far. Either it plays no next line; or it does,
-- and no line feed is left, or a line is left and less room than a line may take.
abbrev pub Stops : Stop → State → List ℕ → ℕ → List ℕ → Type 0
Stops Unfinished v rest written out = (goes v ≡ true) × Unbroken rest
Stops Full v rest written out = (goes v ≡ true) × Broken rest × (length out < written + line_room)
Stops Limit v rest written out = goes v ≡ false

-- the state w is fed a piece, of which the lines up to `read` were played and their output stands in `out`
pub record Progresses (w : State) (piece : List ℕ) (r : Progress) (area out : List ℕ) : Type 0 where
  pub output : Output reporting w piece (state_of r.task area) r.read (take r.written out)
  pub stops : Stops r.stop (state_of r.task area) (drop r.read piece) r.written out
  pub read : r.read ≤ length piece
  pub written : r.written ≤ length out
  pub fits : Fits r.task

-- The state w is fed a text. Whatever follows the text, the output of the whole is what was written and what the kept
-- characters and what follows give; the lines stopped for the reason told; what is kept is of the text behind what was
-- read of it.
pub record Feeds (w : State) (text : List ℕ) (r : Fed) (input area out : List ℕ) : Type 0 where
  pub output : (more : List ℕ) →
      output_by reporting w (lines (text ++ more))
      ≡ take r.progress.written out
      ++ output_by reporting (state_of r.progress.task area) (lines (take r.held input ++ more))
  pub stops : Stops r.progress.stop (state_of r.progress.task area) (take r.held input) r.progress.written out
  pub kept : Kept r.progress.stop r.held input
  pub read : r.progress.read ≤ length text
  pub keeps : Keeps r.progress.stop (drop r.progress.read text) r.held input
  pub written : r.progress.written ≤ length out
  pub fits : Fits r.progress.task
