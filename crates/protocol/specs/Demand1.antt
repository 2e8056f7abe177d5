-- Every single call, for any image, record and arguments: a refused call changes nothing, any other makes its first
-- min (k, L) stores, a done one leaves image and record in order.
use Rattle.std.specs.Prelude.{ℕ, ◌^◌, ◌≤◌, ◌<◌, ◌≡◌, Bool, false, true, List, [], ◌≢◌, leb, length, take}
use Rattle.boards.specs.Lists.{any_of}
use Rattle.protocol.specs.Image.{shape_of, in_order, view, Store, made}
use Rattle.volatile.specs.Volatile.{off, bad_record}
use Rattle.protocol.specs.Calls.{Request, PowerUp, bad_tags, Outcome, decides, perform, format}
use Rattle.protocol.specs.Ledger.{done}
use Rattle.protocol.specs.Claim.{verdict}
use Rattle.protocol.specs.declared.Shape.{Shape}
use Rattle.volatile.specs.declared.Record.{Record}

-- status, decided, group, count of stores, next record, image, bytes
abbrev pub ends_as : ℕ → Bool → ℕ → ℕ → Record → List ℕ → List ℕ → Outcome
ends_as status decided group count next image bytes =
    record {
      reply =
          record { answer = record { status = status; decided = decided; group = group; stores = count }; next = next };
      image = image;
      bytes = bytes;
    }

-- A call, by its budget k. Refused whatever it is: the image as it was, this record handed back, no byte, zeros and no.
-- Or there is one list of L stores within the image: if k < L the first k are made and counted and the call is cut,
-- else all are, and the call is done.
pub data Proper (image : List ℕ) (r : Record) (call : ℕ → Outcome) : Type 0 where
  refusing : (n : ℕ) → n ≢ 0 → n ≢ 9 → ((k : ℕ) → call k ≡ ends_as n false 0 0 r image []) → Proper image r call
  storing : (stores : List Store) (group : ℕ) (next : Record) (bytes : List ℕ)
      → any_of (λ x. leb (length image) x.at) stores ≡ false
      → ((k : ℕ) → k < length stores
      → call k ≡ ends_as 9 (any_of decides (take k stores)) 0 k off (made (take k stores) image) [])
      → ((k : ℕ) → length stores ≤ k
      → call k ≡ ends_as 0 (any_of decides stores) group (length stores) next (made stores image) bytes)
      → Proper image r call

-- The second half of demand 1. A refused power-up answers the off record.
pub record Demand1 : Type 0 where
  pub requests : (image : List ℕ) (r : Record) (request : Request) → request ≢ PowerUp
      → Proper image r (perform image r request)
  pub power_ups : (image : List ℕ) (r : Record) → Proper image off (perform image r PowerUp)
  pub formats : (s : Shape) (image : List ℕ) (r : Record) → Proper image r (format s image r)

-- What a done call leaves: the shape, a header in order with byte 9 at 0, a record that passes test 12, no tag above P
-- where there was none, and acknowledged boards that are a number of sixteen bits, if they were, as in the code.
pub record LeftInOrder (s : Shape) (image : List ℕ) (o : Outcome) : Type 0 where
  pub same_shape : shape_of o.image ≡ s
  pub header : in_order 0 o.image ≡ true
  pub state : bad_record s.boards o.reply.next ≡ false
  pub small : o.reply.next.commit.acknowledged < 2 ^ 16
  pub tags : bad_tags s (view s image) ≡ false → bad_tags s (view s o.image) ≡ false

abbrev pub OrderKept : Type 0
OrderKept =
    (image : List ℕ) (r : Record) (request : Request) (k : ℕ) → r.commit.acknowledged < 2 ^ 16
    → verdict (perform image r request k) ≡ done → LeftInOrder (shape_of image) image (perform image r request k)
