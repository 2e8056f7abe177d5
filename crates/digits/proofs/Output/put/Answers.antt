-- `put` meets its contract: a store is a text of one character.
use mathlib.Core.Path.{refl}
use native.Mathlib.Omega.{arith}
use Rattle.digits.proofs.Laws.{appends_one, writes}
use Rattle.digits.proofs.Output.put.Goals as goal

pub returns : goal.returns
returns c = writes refl (appends_one _ _ _ (omega arith) refl)
