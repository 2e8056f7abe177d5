-- A line that was taken apart, whatever it is refused by.
use Rattle.std.specs.Prelude.{ℕ, List, Result, Ok, Err}
use Rattle.text.specs.Events.{Event, Refused, meant, counted}
use Rattle.text.specs.declared.Event.{Event as Parsed}

-- the event of a line, or that it is refused, by the number that its refusal has
unfoldable pub meant_by : {E : Type 0} → (E → ℕ) → Result Parsed E → List ℕ → Event
meant_by number (Ok event) b = meant (Ok event) b
meant_by number (Err why) b = Refused (number why)

-- how many bytes it stands for
unfoldable pub counted_by : {E : Type 0} → Result Parsed E → ℕ
counted_by (Ok event) = counted (Ok event)
counted_by (Err why) = 0
