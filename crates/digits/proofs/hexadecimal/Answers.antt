-- `hexadecimal` meets its contract.
use mathlib.Core.Path.{sym}
use borrow.Author.Tests.{lt-ltb, le-ltb}
use Rattle.boards.proofs.Basics.{if_true, if_false}
use Rattle.text.specs.Rows.{hexadecimal}
use Rattle.digits.proofs.hexadecimal.Goals as goal

pub returns-then-d-lt10 : goal.returns-then-d-lt10
unfolding hexadecimal
returns-then-d-lt10 c = sym (if_true _ _ (lt-ltb _ _ c.if-d-lt10.true))

pub returns : goal.returns
unfolding hexadecimal
returns c = sym (if_false _ _ (le-ltb _ _ c.if-d-lt10.false))
