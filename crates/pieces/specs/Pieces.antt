-- An input that is read piece by piece: what its lines give, and what is kept of it.
use Rattle.std.specs.Prelude.{ℕ, ◌+◌, ◌-◌, ◌≤◌, ◌<◌, ◌≡◌, min, List, ◌++◌, length, take, drop, Option, Some, None}
use Rattle.text.specs.Fields.{line_feed, until, past}
use Rattle.text.specs.Whole.{Line, lines, Ends, Program, output_by}
use Rattle.pieces.specs.declared.Stop.{Stop}
use Rattle.pieces.specs.declared.Stop.TheVariants.{Unfinished, Full, Limit}

-- ---- lines of a piece

-- no line feed in a text; one or more
abbrev pub Unbroken : List ℕ → Type 0
Unbroken s = length (until line_feed s) ≡ length s

abbrev pub Broken : List ℕ → Type 0
Broken s = length (until line_feed s) < length s

-- the line from `read` to `end`, at its line feed, and what follows it
pub record WholeLine (piece : List ℕ) (read end : ℕ) : Type 0 where
  pub from : read ≤ end
  pub within : end < length piece
  pub line : take (end - read) (drop read piece) ≡ until line_feed (drop read piece)
  pub rest : drop (end + 1) piece ≡ past line_feed (drop read piece)
  pub broken : Broken (drop read piece)

abbrev pub IsNextLine : List ℕ → ℕ → Option ℕ → Type 0
IsNextLine piece read (Some end) = WholeLine piece read end
IsNextLine piece read None = Unbroken (drop read piece)

-- A program's state w became v by the lines of a piece up to `read`, which gave this text: whatever follows the piece,
-- what is still to be written is what the rest gives.
abbrev pub Output : {S : Type 0} → Program S → S → List ℕ → S → ℕ → List ℕ → Type 0
Output p w piece v read text = (more : List ℕ) →
    output_by p w (lines (piece ++ more)) ≡ text ++ output_by p v (lines (drop read piece ++ more))

-- ---- what is kept

-- how much is kept of a rest of n characters
unfoldable pub kept_length : Stop → ℕ → ℕ
kept_length Unfinished n = min n 161
kept_length Full n = n
kept_length Limit n = 0

-- that much of the rest stands at the input's start
pub record Keeps (stop : Stop) (rest : List ℕ) (held : ℕ) (input : List ℕ) : Type 0 where
  pub size : held ≡ kept_length stop (length rest)
  pub same : take held input ≡ take held rest

-- why a program may stop in a state with such a rest: for want of a line feed, or because it ends before any line
abbrev pub Stopped : {S : Type 0} → Program S → Stop → S → List ℕ → Type 0
Stopped p Unfinished v rest = Unbroken rest
Stopped p Full v rest = Unit {0}
Stopped p Limit v rest = (l : Line) → p.step v l ≡ Ends

-- a program to which all lines of more than 160 characters are the same
abbrev pub LongAlike : {S : Type 0} → Program S → Type 0
LongAlike {S} p = (s : S) (l m : Line) → 160 < length l → 160 < length m → p.step s l ≡ p.step s m

-- what the next turn counts on: behind a line that is not finished a buffer of 162 has room to read on
abbrev pub Kept : Stop → ℕ → List ℕ → Type 0
Kept Unfinished held input = (held ≤ 161) × (held ≤ length input) × Unbroken (take held input)
Kept Full held input = held ≤ length input
Kept Limit held input = held ≡ 0
