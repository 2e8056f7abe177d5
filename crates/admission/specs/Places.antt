-- Where an access lies, and what its tests answer.
use Rattle.std.specs.Prelude.{ℕ, ◌+◌, ◌-◌, ◌/◌, ◌≤◌, ◌≡◌, false, List}
use Rattle.protocol.specs.Image.{Current, byte, base, shape_of}
use Rattle.protocol.specs.Accesses.{board_of}
use Rattle.protocol.specs.Calls.{bad_range}
use Rattle.protocol.specs.declared.Shape.{Shape}
use Rattle.protocol.specs.declared.Requester.{Requester}
use Rattle.volatile.specs.declared.Record.{Record}
use Rattle.layout.specs.Headers.{tags_at}
use Rattle.entry.specs.Tested.{EntryPassed}
use Rattle.admission.specs.declared.Block.{Block}
use Rattle.admission.specs.declared.Place.{Place}

-- block b with its tag
abbrev pub block_at : List ℕ → ℕ → Block
block_at image b = record { number = b; tag = byte image (tags_at + b) }

-- where board i's access of n cells from a on lies
abbrev pub place_at : Shape → List ℕ → ℕ → ℕ → ℕ → Place
place_at s image i a n =
    record {
      board = i;
      at = base s Current + a;
      first = block_at image (a / s.size);
      last = block_at image ((a + n - 1) / s.size);
      size = s.size;
    }

-- What an access of n cells from a on knows that passed its tests: what every board's call does; its range, and that it
-- fits the room for its bytes; its place, which has its board; that both tags are in order.
pub record Placed (image : List ℕ) (r : Record) (who : Requester) (a n room : ℕ) (p : Place) : Type 0 where
  pub entry : EntryPassed image r (board_of (shape_of image) who) (shape_of image)
  pub range : bad_range (shape_of image) a n ≡ false
  pub fits : n ≤ room
  pub place : p ≡ place_at (shape_of image) image (board_of (shape_of image) who) a n
  pub first_known : p.first.tag ≤ (shape_of image).boards
  pub last_known : p.last.tag ≤ (shape_of image).boards
