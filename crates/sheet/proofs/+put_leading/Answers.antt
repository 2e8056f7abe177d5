-- `put_leading` meets its contract: the digits before the last, then the last.
use native.Mathlib.Omega.{arith}
use Rattle.page.specs.Columns.{leading}
use Rattle.digits.proofs.Laws.{writes_none, writes_then}
use Rattle.sheet.proofs.Laws.{leading_last}
use Rattle.sheet.proofs.+put_leading.Goals as goal

pub returns-then-w-eq0 : goal.returns-then-w-eq0
unfolding leading
returns-then-w-eq0 t c = rw c.if-w-eq0.true (writes_none _ (omega arith))

pub returns : goal.returns
returns t c =
    rw (leading_last c.args.w c.args.n (omega (arith, c.if-w-eq0.false)))
    (rw c.digit_or_blank.ensures at (writes_then c.put_leading.ensures c.put.ensures))
