-- An access by the port beside the same access by board P − 1 (document 02, Req 03), for any image, record, arguments
-- and budget; and that a board's access is noted for that board.
use Rattle.std.specs.Prelude.{ℕ, ◌-◌, ◌≡◌, Bool, ◌&&◌, cond, List, [], ◌∷◌, ◌++◌, map, ◌≢◌, eqb, ltb, length}
use Rattle.protocol.specs.Image.{shape_of}
use Rattle.protocol.specs.Calls.{Request, Read, Write, Test, test, first, entry_tests, bad_range}
use Rattle.protocol.specs.Calls.{refused, perform}
use Rattle.protocol.specs.Ledger.{Verdict, done, Ledger, update}
use Rattle.protocol.specs.declared.Shape.{Shape}
use Rattle.protocol.specs.declared.Requester.{Requester}
use Rattle.protocol.specs.declared.Requester.TheVariants.{Board, Port}
use Rattle.volatile.specs.declared.Record.{Record}

-- P − 1; not by `board_of`, so that a slip there shows
abbrev pub last_board : Shape → ℕ
last_board s = s.boards - 1

-- what comes before 17 for board i's access of n cells from a on: 11 for the header, 12, 1, 2; whether it passes them
abbrev pub before_17 : List ℕ → Record → ℕ → ℕ → ℕ → List Test
before_17 image r i a n = entry_tests image r i ++ test (bad_range (shape_of image) a n) 2 ∷ []

abbrev pub passes_to_17 : List ℕ → Record → ℕ → ℕ → ℕ → Bool
passes_to_17 image r i a n = eqb (first (before_17 image r i a n)) 0

-- the boards of the notes, newest first; a done access of board i is noted for i, so that a slip in `board_of` shows
abbrev pub boards_noted : Ledger → List ℕ
boards_noted l = map (λ note. note.board) l.notes

abbrev pub NotedForBoard : (Requester → Request) → ℕ → Type 0
NotedForBoard by k =
    (s : Shape) (i : ℕ) (l : Ledger) → boards_noted (update s (by (Board i)) k done l) ≡ i ∷ boards_noted l

-- A read or a write of n cells from a on, as a function `by` of who makes it.
pub record AsLastBoard (a n : ℕ) (by : Requester → Request) (image : List ℕ) (r : Record) (k : ℕ) : Type 0 where
  -- If board P − 1 passes to 17 and n is above 4, the port is refused 17 and nothing is changed. Else its access is in
  -- everything that of board P − 1.
  pub port : perform image r (by Port) k
      ≡ cond (passes_to_17 image r (last_board (shape_of image)) a n && ltb 4 n) (refused 17 image r)
      (perform image r (by (Board (last_board (shape_of image)))) k)
  -- no board is refused 17, so that is exactly when the port is; the port is never refused 1
  pub boards_never_17 : (i : ℕ) → (perform image r (by (Board i)) k).reply.answer.status ≢ 17
  pub port_never_1 : (perform image r (by Port) k).reply.answer.status ≢ 1
  -- the ledger notes a board's access for that board, and takes the port's for one of board P − 1
  pub own_note : NotedForBoard by k
  pub ledger : (s : Shape) (v : Verdict) (l : Ledger)
      → update s (by Port) k v l ≡ update s (by (Board (last_board s))) k v l

pub record PortAsLastBoard : Type 0 where
  pub reads : (a n room : ℕ) (image : List ℕ) (r : Record) (k : ℕ)
      → AsLastBoard a n (λ who. Read who a n room) image r k
  pub writes : (a : ℕ) (bytes image : List ℕ) (r : Record) (k : ℕ)
      → AsLastBoard a (length bytes) (λ who. Write who a bytes) image r k
