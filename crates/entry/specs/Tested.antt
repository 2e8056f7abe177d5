-- What tests answer, and what a call of a board knows once it passed the first of them.
use Rattle.std.specs.Prelude.{ℕ, ◌<◌, ◌≡◌, false, List, Result, MatchResult}
use Rattle.volatile.specs.Volatile.{bad_record}
use Rattle.protocol.specs.Replies.{refusal_number}
use Rattle.protocol.specs.declared.Refusal.{Refusal}
use Rattle.protocol.specs.declared.Shape.{Shape}
use Rattle.volatile.specs.declared.Record.{Record}
use Rattle.layout.specs.Headers.{Shaped}

-- no test holds, and of what was tested this is known
pub record Passed {T : Type 0} (n : ℕ) (Known : T → Type 0) (t : T) : Type 0 where
  pub none : n ≡ 0
  pub known : Known t

-- What tests answered, n being the number of the first that holds: a refusal with that number, or, where none holds,
-- something of which more is known.
abbrev pub Tested : {T : Type 0} → ℕ → (T → Type 0) → Result T Refusal → Type 0
Tested n Known r = MatchResult r (Passed n Known) (λ e. n ≡ refusal_number e)

-- the image has its shape, which is allowed, and its exact length; the record is in order, the board below P
pub record EntryPassed (image : List ℕ) (r : Record) (i : ℕ) (s : Shape) : Type 0 where
  pub shaped : Shaped image s
  pub recorded : bad_record s.boards r ≡ false
  pub board : i < s.boards
