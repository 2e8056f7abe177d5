-- A text written into a buffer from a place on.
use Rattle.std.specs.Prelude.{ℕ, ◌+◌, ◌≤◌, ◌≡◌, List, ◌++◌, length, take, drop}
use Rattle.digits.specs.declared.Output.{Output}

unfoldable pub placed : ℕ → List ℕ → List ℕ → List ℕ
placed at text buffer = take at buffer ++ (text ++ drop (at + length text) buffer)

-- the text stands in the buffer, which has room for it, from `at` on, all else is as it was, and r is the place
-- after it
pub record Appends (text : List ℕ) (at : ℕ) (before : List ℕ) (r : ℕ) (after : List ℕ) : Type 0 where
  pub place : r ≡ at + length text
  pub room : r ≤ length before
  pub buffer : after ≡ placed at text before

-- n characters more
abbrev pub HasRoom : ℕ → Output → Type 0
HasRoom n out = out.end + n ≤ length out.buffer.now

-- the text is appended to what is written in a lent buffer, which is the same one and as long
pub record Writes (text : List ℕ) (before after : Output) : Type 0 where
  pub same : after.buffer.ghost_name ≡ before.buffer.ghost_name
  pub appends : Appends text before.end before.buffer.now after.end after.buffer.now
  pub long : length after.buffer.now ≡ length before.buffer.now
