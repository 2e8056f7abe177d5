-- `digit_or_blank` meets its contract.
use mathlib.Core.Path.{sym}
use borrow.Author.Tests.{eq-eqb, ne_eqb}
use Rattle.boards.proofs.Basics.{if_true, if_false}
use Rattle.sheet.proofs.digit_or_blank.Goals as goal

pub returns-then-n-eq0 : goal.returns-then-n-eq0
returns-then-n-eq0 c = sym (if_true _ _ (eq-eqb _ 0 c.if-n-eq0.true))

pub returns : goal.returns
returns c = sym (if_false _ _ (ne_eqb _ 0 c.if-n-eq0.false))
