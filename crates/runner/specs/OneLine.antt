-- What playing a line promises.
use Rattle.std.specs.Prelude.{ℕ, ◌≤◌, ◌≡◌, List}
use Rattle.text.specs.Events.{Event, room}
use Rattle.text.specs.Rows.{rows_meant}
use Rattle.text.specs.Turns.{play}
use Rattle.text.specs.Whole.{Run as Whole, run_after}
use Rattle.turns.specs.Turned.{player_of, area_size}
use Rattle.runner.specs.declared.Run.{Run}
use Rattle.runner.specs.declared.Played.{Played}

-- the run of the definitions that the code's run and the area are
abbrev pub run_of : Run → List ℕ → Whole
run_of r area = record { played = r.played; player = player_of r.session area }

-- the rows, with the bytes that stand in the buffer, are those of the event, and the run is the one after it
pub record EventPlayed (w : Whole) (event : Event) (r : Played) (area buffer : List ℕ) : Type 0 where
  pub rows : rows_meant r.rows buffer ≡ (play w.player event).rows
  pub next : run_of r.run area ≡ run_after w event
  pub fits : r.run.session.length ≤ area_size
  pub few : r.rows.first.count ≤ room
