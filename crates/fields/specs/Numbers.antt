-- What reading the numbers of a line promises.
use Rattle.std.specs.Prelude.{ℕ, zero, suc, ◌+◌, ◌≤◌, ◌<◌, ◌≡◌, List, [], ◌∷◌, length, get_or, drop, Option, None, Some}
use Rattle.std.specs.Prelude.{Result, Ok, Err}
use Rattle.protocol.specs.declared.Refusal.{Refusal}
use Rattle.protocol.specs.declared.Refusal.TheVariants.{Unreadable}
use Rattle.text.specs.Fields.{comma, after, field, commas, number_of}
use Rattle.fields.specs.declared.Number.{Number}
use Rattle.fields.specs.declared.Values.{Values}

-- a field read as a number, with its length
unfoldable pub measured : Option ℕ → ℕ → Option Number
measured (Some v) n = Some (record { value = v; length = n })
measured None n = None

-- a line from its field i on
unfoldable pub from_field : ℕ → List ℕ → List ℕ
from_field zero s = s
from_field (suc i) s = after (from_field i s)

-- field i of a line ends at `end`: a comma or the line's end, with i commas before it and the next field behind it
pub record FieldEnds (s : List ℕ) (i end : ℕ) : Type 0 where
  pub within : end ≤ length s
  pub at_comma : end < length s → get_or s end 0 ≡ comma
  pub before_it : commas s ≡ i + commas (drop end s)
  pub behind_it : from_field (suc i) s ≡ drop (suc end) s

abbrev pub values_of : Values → List ℕ
values_of v = v.first ∷ v.second ∷ v.third ∷ v.fourth ∷ []

-- fields 1 to `due` are numbers, and field `due` ends at `v.end`; or one of them is none, and the line is refused 6
abbrev pub Numbered : List ℕ → ℕ → Result Values Refusal → Type 0
Numbered s due (Ok v) =
    FieldEnds s due v.end × ((j : ℕ) → j < due → number_of (field (suc j) s) ≡ Some (get_or (values_of v) j 0))
Numbered s due (Err why) = (why ≡ Unreadable) × ((j : ℕ) × (j < due) × (number_of (field (suc j) s) ≡ None))
