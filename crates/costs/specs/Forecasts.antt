-- The forecasts of a commit and of a fault, read off image and record (document 02, Req 02).
use Rattle.std.specs.Prelude.{ℕ, ◌+◌, ◌*◌, Bool, not, cond, List, [], ◌∷◌, ◌++◌, eqb, length, Result, Ok, Err}
use Rattle.boards.specs.Lists.{for}
use Rattle.boards.specs.Boards.{has, tagged_in, commit_group, fault_group}
use Rattle.volatile.specs.Volatile.{depends, engaged}
use Rattle.volatile.specs.declared.Record.{Record}
use Rattle.protocol.specs.Image.{Memory, Tags, shape_of, view}
use Rattle.protocol.specs.Calls.{Test, test, first, entry_tests}
use Rattle.protocol.specs.Replies.{refusal_number}
use Rattle.protocol.specs.declared.Refusal.{Refusal}
use Rattle.protocol.specs.declared.Shape.{Shape}
use Rattle.costs.specs.declared.Forecast.{Forecast as Taken}

-- a forecast in the numbers of the documents: 0 or the number of its refusal; the members of the commit or the boards
-- to be rolled back; how many bytes will be stored
pub record Forecast : Type 0 where
  pub status : ℕ
  pub group : ℕ
  pub stores : ℕ

-- the numbers below n of which p holds, ascending
unfoldable pub those : ℕ → (ℕ → Bool) → List ℕ
those n p = for n (λ i. cond (p i) (i ∷ []) [])

-- the boards of a group, and the blocks that they tagged; document 01 calls the numbers of them g and m
unfoldable pub boards_of : Shape → ℕ → List ℕ
boards_of s g = those s.boards (has g)

unfoldable pub tagged_blocks : Shape → Memory → ℕ → List ℕ
tagged_blocks s m g = those s.blocks (λ b. tagged_in g (m Tags b))

-- the stores that copy these blocks: S bytes and the tag of each
unfoldable pub blocks_cost : Shape → Memory → ℕ → ℕ
blocks_cost s m g = length (tagged_blocks s m g) * (s.size + 1)

-- the stores of a whole commit: every member's context given; bytes 10, 11 and 9 at the decision, the blocks, every
-- member's context saved, byte 9
unfoldable pub commit_cost : Shape → Memory → ℕ → ℕ
commit_cost s m g =
    let contexts = length (boards_of s g) * s.context in
    contexts + (4 + blocks_cost s m g + contexts)

-- a refusal: its number, zero for the rest
abbrev pub refused : ℕ → Forecast
refused n = record { status = n; group = 0; stores = 0 }

-- what the code's forecast is in these numbers
abbrev pub forecast_says : Result Taken Refusal → Forecast
forecast_says (Ok f) = record { status = 0; group = f.group; stores = f.stores }
forecast_says (Err e) = refused (refusal_number e)

-- what is answered if n is the number of the refusal, 0 for none
unfoldable pub answered : ℕ → ℕ → ℕ → Forecast
answered n group stores = cond (eqb n 0) (record { status = 0; group = group; stores = stores }) (refused n)

-- the tests of a start by board i, but for 3: a forecast has no context
abbrev pub commit_tests : List ℕ → Record → ℕ → List Test
commit_tests image r i = entry_tests image r i ++ test (not (eqb (engaged r) 0)) 14 ∷ []

unfoldable pub commit_forecast : List ℕ → Record → ℕ → Forecast
commit_forecast image r i =
    let s = shape_of image in
    let g = commit_group (depends r) i in
    answered (first (commit_tests image r i)) g (commit_cost s (view s image) g)

-- with the tests of a fault of board i
unfoldable pub fault_forecast : List ℕ → Record → ℕ → Forecast
fault_forecast image r i =
    let s = shape_of image in
    let g = fault_group (depends r) i in
    answered (first (entry_tests image r i)) g (blocks_cost s (view s image) g)
