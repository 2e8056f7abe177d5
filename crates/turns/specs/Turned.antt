-- The code's player: its image stands at the start of a larger area. What playing an event promises.
use Rattle.std.specs.Prelude.{ℕ, ◌≤◌, ◌≡◌, List, [], ◌∷◌, Result, Ok, Err, length, take}
use Rattle.protocol.specs.Replies.{refusal_number}
use Rattle.protocol.specs.declared.Refusal.{Refusal}
use Rattle.protocol.specs.Calls.{Outcome}
use Rattle.text.specs.Events.{room}
use Rattle.text.specs.Letters.{power_up_letter, unknown_letter, character_of}
use Rattle.text.specs.declared.Letter.{Letter}
use Rattle.text.specs.Rows.{following, rows_meant}
use Rattle.text.specs.Turns.{Player, Turn, moved}
use Rattle.text.specs.declared.Row.{Row}
use Rattle.turns.specs.declared.Session.{Session}
use Rattle.turns.specs.declared.Turned.{Turned}

-- the bytes of the largest image
abbrev pub area_size : ℕ
area_size = 35852

-- the player that a session and the area are
abbrev pub player_of : Session → List ℕ → Player
player_of p area = record { image = take p.length area; state = p.state; k = p.k }

-- the area has room for the largest image, and the image is no larger
pub record Ready (p : Session) (area : List ℕ) : Type 0 where
  pub whole : area_size ≤ length area
  pub fits : p.length ≤ area_size

-- the rows, with the bytes that stand in the buffer, are those of the turn, and the next session is its next player
pub record Turns (t : Turn) (r : Turned) (area buffer : List ℕ) : Type 0 where
  pub rows : rows_meant r.rows buffer ≡ t.rows
  pub next : player_of r.next area ≡ t.next
  pub fits : r.next.length ≤ area_size
  pub few : r.rows.first.count ≤ room

-- after a row, that of the power-up o, and the player after it
pub record Powered (o : Outcome) (size : ℕ) (first : Row) (r : Turned) (area : List ℕ) : Type 0 where
  pub first_row : r.rows.first ≡ first
  pub second_row : following r.rows.after
      ≡ record { letter = power_up_letter; answer = o.reply.answer; bytes = [] } ∷ []
  pub next : player_of r.next area ≡ moved o
  pub same : r.next.length ≡ size

-- the letter of a line that makes no call, `?` for one that can't be taken apart; 0, or the number of its refusal
abbrev pub character_told : Result Letter Refusal → ℕ
character_told (Ok letter) = character_of letter
character_told (Err why) = unknown_letter

abbrev pub status_told : Result Letter Refusal → ℕ
status_told (Ok letter) = 0
status_told (Err why) = refusal_number why
