-- Lines that are refused by a refusal.
use Prim.Native.Nat.{ℕ}
use mathlib.Core.Path.{◌≡◌, refl}
use mathlib.Core.List.{List}
use Rattle.std.specs.Prelude.{Result, Ok, Err}
use Rattle.protocol.specs.Replies.{refusal_number}
use Rattle.protocol.specs.declared.Refusal.{Refusal}
use Rattle.text.specs.Events.{meant, counted}
use Rattle.text.specs.declared.Event.{Event}
use Rattle.saving.specs.Lines.{meant_by, counted_by}

pub meant_by_refusal : (line : Result Event Refusal) (b : List ℕ) → meant_by refusal_number line b ≡ meant line b
unfolding meant_by meant
meant_by_refusal (Ok event) b = refl
meant_by_refusal (Err why) b = refl

pub counted_by_refusal : (line : Result Event Refusal) → counted_by line ≡ counted line
unfolding counted_by counted
counted_by_refusal (Ok event) = refl
counted_by_refusal (Err why) = refl
