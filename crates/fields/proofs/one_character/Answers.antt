-- `one_character` meets its contract.
use Rattle.fields.proofs.Laws.{before_of_two}
use Rattle.fields.proofs.one_character.Goals as goal

pub returns : goal.returns
returns c = rw c.find.ensures (before_of_two _ _ c.min.ensures)
