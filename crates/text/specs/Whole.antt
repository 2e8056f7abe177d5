-- A whole input text, and the whole output text that a program makes of it; that of `rsmrun`.
use Rattle.std.specs.Prelude.{ℕ, suc, cond, List, [], ◌∷◌, ◌++◌, eqb, ltb}
use Rattle.text.specs.Fields.{line_feed}
use Rattle.text.specs.Events.{Event, taken}
use Rattle.text.specs.Rows.{Row, rows_text}
use Rattle.text.specs.Turns.{Player, unformatted, play}

-- ---- lines

abbrev pub Line : Type 0
Line = List ℕ

-- a character before the first line, or a line of its own where there is none
unfoldable pub grown : ℕ → List Line → List Line
grown c [] = (c ∷ []) ∷ []
grown c (l ∷ ls) = (c ∷ l) ∷ ls

-- lines end with a line feed or the input's end; nothing after the last line feed is no line
unfoldable pub lines : List ℕ → List Line
lines [] = []
lines (c ∷ s) = let rest = lines s in cond (eqb c line_feed) ([] ∷ rest) (grown c rest)

-- ---- programs that read lines

-- what a program makes of a line: a text and its next state; or it ends before that line
pub data Step (S : Type 0) : Type 0 where
  Goes : List ℕ → S → Step S
  Ends : Step S

-- its step from line to line, and the text that it closes with
pub record Program (S : Type 0) : Type 0 where
  pub step : S → Line → Step S
  pub close : S → List ℕ

-- the text of a step and what follows it, or the closing text
unfoldable pub continued : {S : Type 0} → Step S → List ℕ → (S → List ℕ) → List ℕ
continued (Goes text next) closing rest = text ++ rest next
continued Ends closing rest = closing

-- the output of a program from a state on
unfoldable pub output_by : {S : Type 0} → Program S → S → List Line → List ℕ
output_by p s [] = p.close s
output_by p s (l ∷ ls) = continued (p.step s l) (p.close s) (λ next. output_by p next ls)

-- ---- `rsmrun`

-- a run: how many lines were played, and the player
pub record Run : Type 0 where
  pub played : ℕ
  pub player : Player

unfoldable pub start : Run
start = record { played = 0; player = unformatted }

-- the lines that a run takes at most
abbrev pub most_lines : ℕ
most_lines = 99999

-- the rows of one line, their text; the run after an event, and after a line
unfoldable pub line_rows : Run → Line → List Row
line_rows r l = (play r.player (taken l)).rows

unfoldable pub line_text : Run → Line → List ℕ
line_text r l = rows_text (suc r.played) (line_rows r l)

abbrev pub run_after : Run → Event → Run
run_after r e = record { played = suc r.played; player = (play r.player e).next }

unfoldable pub next_run : Run → Line → Run
next_run r l = run_after r (taken l)

-- it stops after the last line that a run takes, and closes with nothing
unfoldable pub line_step : Run → Line → Step Run
line_step r l = cond (ltb r.played most_lines) (Goes (line_text r l) (next_run r l)) Ends

unfoldable pub rsmrun : Program Run
rsmrun = record { step = line_step; close = λ r. [] }

unfoldable pub output : List ℕ → List ℕ
output text = output_by rsmrun start (lines text)
