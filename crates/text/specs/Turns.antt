-- An event played on image, record and pending allowance (document 01, "Event lines and `rsmrun`").
use Rattle.std.specs.Prelude.{ℕ, cond, List, [], ◌∷◌, ◌≢◌, eqb, replicate}
use Rattle.protocol.specs.Image.{allowed, total}
use Rattle.volatile.specs.Volatile.{off}
use Rattle.protocol.specs.Calls.{Request, Read, Write, Start, Acknowledge, Fault, PowerUp, Outcome, perform, format}
use Rattle.protocol.specs.declared.Shape.{Shape}
use Rattle.volatile.specs.declared.Record.{Record}
use Rattle.protocol.specs.Replies.{refusal_answer}
use Rattle.text.specs.Letters.{format_letter, read_letter, write_letter, start_letter, acknowledge_letter}
use Rattle.text.specs.Letters.{fault_letter, power_up_letter, allow_letter, unknown_letter}
use Rattle.text.specs.Events.{Event, Format, Make, Allow, Refused}
use Rattle.text.specs.Rows.{Row}

-- k is the allowance of the next line
pub record Player : Type 0 where
  pub image : List ℕ
  pub state : Record
  pub k : ℕ

-- an allowance that no call uses up: the longest has 35,853 stores
abbrev pub uncut : ℕ
uncut = 65535

-- before the first F the image is empty, the record off
abbrev pub unformatted : Player
unformatted = record { image = []; state = off; k = uncut }

-- what a line gives: its output, and the player for the next line
pub record Turn : Type 0 where
  pub rows : List Row
  pub next : Player

abbrev pub row : ℕ → Outcome → Row
row letter o = record { letter = letter; answer = o.reply.answer; bytes = o.bytes }

-- the player after a call
abbrev pub moved : Outcome → Player
moved o = record { image = o.image; state = o.reply.next; k = uncut }

-- after a cut the program powers up, uncut, and prints that too
unfoldable pub ended : ℕ → Outcome → Turn
ended letter o =
    let u = perform o.image o.reply.next PowerUp uncut in
    cond (eqb o.reply.answer.status 9)
    (record { rows = row letter o ∷ row power_up_letter u ∷ []; next = moved u })
    (record { rows = row letter o ∷ []; next = moved o })

-- a line that makes no call: 0 for Z, the refusal for one that can't be taken apart
abbrev pub told : ℕ → ℕ → Player → Turn
told letter status next =
    record { rows = record { letter = letter; answer = refusal_answer status; bytes = [] } ∷ []; next = next }

-- the letter of a request's line
unfoldable pub request_letter : Request → ℕ
request_letter (Read who cell n room) = read_letter
request_letter (Write who cell bytes) = write_letter
request_letter (Start board context) = start_letter
request_letter (Acknowledge board context) = acknowledge_letter
request_letter (Fault board) = fault_letter
request_letter PowerUp = power_up_letter

-- an F within the limits first makes the image that length, all zero
unfoldable pub play : Player → Event → Turn
play p (Format s) =
    let image = cond (allowed s) (replicate (total s) 0) p.image in
    ended format_letter (format s image p.state p.k)
play p (Make request) = ended (request_letter request) (perform p.image p.state request p.k)
play p (Allow k) = told allow_letter 0 (record { image = p.image; state = p.state; k = k })
play p (Refused n) = told unknown_letter n (record { image = p.image; state = p.state; k = uncut })

-- With the allowance `uncut` no call is cut: no line without a Z before it, nor the power-up after a cut.
pub record NothingCut : Type 0 where
  pub calls : (image : List ℕ) (r : Record) (request : Request)
      → (perform image r request uncut).reply.answer.status ≢ 9
  pub formats : (s : Shape) (image : List ℕ) (r : Record) → (format s image r uncut).reply.answer.status ≢ 9
