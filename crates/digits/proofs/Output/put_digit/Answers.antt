-- `put_digit` meets its contract: no character, or one.
use native.Mathlib.Omega.{arith}
use Rattle.digits.proofs.Laws.{writes_none, digit_none, digit_some}
use Rattle.digits.proofs.Output.put_digit.Goals as goal

pub returns-then-n-place : goal.returns-then-n-place
returns-then-n-place c = rw (digit_none _ _ c.if-n-place.true) (writes_none _ (omega arith))

pub returns : goal.returns
returns c = rw (digit_some _ _ c.if-n-place.false) c.put.ensures
