-- `tell` meets its contract.
use native.Mathlib.Omega.{arith}
use mathlib.Core.Path.{refl}
use borrow.Author.Rules.{rules}
use Rattle.text.specs.Rows.{following, rows_meant}
use Rattle.turns.proofs.tell.Goals as goal

pub returns : goal.returns
unfolding rows_meant following
returns c area buffer =
    let told = c.told_row-first.ensures in
    record { rows = rw (told.letter, told.answer, told.count); next = refl; fits = search rules; few = omega arith }
