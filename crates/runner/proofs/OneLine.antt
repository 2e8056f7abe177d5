-- From a turn of the player to one of a run; a run before its first line.
use Prim.Native.Nat.{ℕ, ◌+◌}
use mathlib.Core.List.{List}
use native.Mathlib.Numerals.{add-one}
use Rattle.text.specs.Events.{Event}
use Rattle.text.specs.Turns.{play}
use Rattle.turns.specs.Turned.{player_of, Turns}
use Rattle.turns.specs.declared.Turned.{Turned}
use Rattle.runner.specs.OneLine.{run_of, EventPlayed}
use Rattle.runner.specs.declared.Run.{Run}

-- a turn of the player is one of the run
pub played : (run : Run) (area : List ℕ) {event : Event} {t : Turned} {x buffer : List ℕ} →
    Turns (play (player_of run.session area) event) t x buffer →
    EventPlayed (run_of run area) event
    (record { run = record { played = run.played + 1; session = t.next }; rows = t.rows }) x buffer
played run area m =
    record { rows = m.rows; next = rw (m.next, add-one run.played); fits = m.fits; few = m.few }
