-- How a start and an acknowledgement begin.
use Rattle.std.specs.Prelude.{ℕ, ◌≡◌, List, [], ◌∷◌, ◌++◌}
use Rattle.protocol.specs.Image.{shape_of}
use Rattle.protocol.specs.Calls.{Test, entry_tests, context_test}
use Rattle.protocol.specs.declared.Shape.{Shape}
use Rattle.volatile.specs.declared.Record.{Record}
use Rattle.entry.specs.Tested.{EntryPassed}

-- the tests that both make first: those of every board's call, then 3 for a context of n bytes
abbrev pub begin_tests : List ℕ → Record → ℕ → ℕ → List Test
begin_tests image r i n = entry_tests image r i ++ context_test (shape_of image) n ∷ []

-- what is then known
pub record Offered (image : List ℕ) (r : Record) (i n : ℕ) (s : Shape) : Type 0 where
  pub entry : EntryPassed image r i s
  pub full : n ≡ s.context
