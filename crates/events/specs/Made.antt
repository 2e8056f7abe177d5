-- What the numbers of a line, and its bytes, make of its letter.
use Rattle.std.specs.Prelude.{ℕ, Bool, true, false, List, get_or}
use Rattle.protocol.specs.Calls.{Read, Write, Start, Acknowledge, Fault, PowerUp}
use Rattle.protocol.specs.declared.Requester.TheVariants.{Board}
use Rattle.text.specs.Events.{Event, Format, Make, Allow, room}
use Rattle.text.specs.declared.Letter.{Letter}
use Rattle.text.specs.declared.Letter.TheVariants as letter

-- whether the last field of a letter's lines is bytes
unfoldable pub bytes_last : Letter → Bool
bytes_last letter.Write = true
bytes_last letter.Start = true
bytes_last letter.Acknowledge = true
bytes_last _ = false

-- F, R, X, U, else Z
unfoldable pub of_numbers : Letter → List ℕ → Event
of_numbers letter.Format vs =
    Format (record { boards = get_or vs 0 0; size = get_or vs 1 0; blocks = get_or vs 2 0; context = get_or vs 3 0 })
of_numbers letter.Read vs = Make (Read (Board (get_or vs 0 0)) (get_or vs 1 0) (get_or vs 2 0) room)
of_numbers letter.Fault vs = Make (Fault (get_or vs 0 0))
of_numbers letter.PowerUp vs = Make PowerUp
of_numbers _ vs = Allow (get_or vs 0 0)

-- W, C, else A
unfoldable pub of_bytes : Letter → List ℕ → List ℕ → Event
of_bytes letter.Write vs bytes = Make (Write (Board (get_or vs 0 0)) (get_or vs 1 0) bytes)
of_bytes letter.Start vs bytes = Make (Start (get_or vs 0 0) bytes)
of_bytes _ vs bytes = Make (Acknowledge (get_or vs 0 0) bytes)
