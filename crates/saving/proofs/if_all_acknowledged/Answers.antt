-- `if_all_acknowledged` meets its contract.
use mathlib.Core.Path.{◌∙◌, ap}
use native.Mathlib.Omega.{arith}
use Rattle.layout.proofs.Laws.{bounded}
use Rattle.std.specs.Prelude.{Some}
use Rattle.saving.proofs.Laws.{not_all, too_short, all_of_them}
use Rattle.saving.proofs.if_all_acknowledged.Goals as goal

pub returns-then-open-g : goal.returns-then-open-g
returns-then-open-g c =
    not_all _ _ _ _ _ (rw c.commit_of-open.ensures at c.if-open-g.true)

pub overflow_add-s : goal.overflow_add-s
overflow_add-s c = omega (arith, (bounded c.requires.0).limits)

pub returns-then-k-s : goal.returns-then-k-s
returns-then-k-s c = too_short _ _ _ _ _ c.if-k-s.true

pub returns : goal.returns
returns c =
    ap Some c.saved-amounts.ensures
    ∙ rw c.commit_of-open.ensures (all_of_them _ _ _ _ _ (rw c.commit_of-open.ensures at c.if-open-g.false)
    (omega (arith, c.if-k-s.false)))
