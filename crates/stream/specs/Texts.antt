-- The text for the next turn of a run over a reader.
use Rattle.std.specs.Prelude.{ℕ, ◌≤◌, ◌≡◌, List, length, take, Option, Some, Result, Ok}
use Rattle.std.specs.declared.io.Error.{Error}
use Rattle.pieces.specs.Answers.{Over}

-- the text to be played next lies within the input, of which `held` characters were kept
pub record Next (got : Result (Option ℕ) Error) (held : ℕ) (input : List ℕ) : Type 0 where
  pub within : (end : ℕ) → got ≡ Ok (Some end) → end ≤ length input
  pub over : Over got (take held input)

-- a read leaves the held characters alone
pub record Reads (got : Result (Option ℕ) Error) (held : ℕ) (before after : List ℕ) : Type 0 where
  pub same : take held after ≡ take held before
  pub within : (end : ℕ) → got ≡ Ok (Some end) → end ≤ length after
