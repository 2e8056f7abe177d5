-- `put_decimal` meets its contract: one digit, or digit after digit.
use Rattle.text.specs.Rows.{decimal}
use Rattle.digits.proofs.Laws.{writes_then, decimal_small}
use Rattle.digits.proofs.Output.put_decimal.Goals as goal

pub returns-then-n-lt10 : goal.returns-then-n-lt10
returns-then-n-lt10 c =
    rw (decimal_small _ c.if-n-lt10.true) c.put.ensures

pub returns : goal.returns
unfolding decimal
returns c =
    writes_then c.put_digit.ensures
    (writes_then c.put_digit-2.ensures
    (writes_then c.put_digit-3.ensures (writes_then c.put_digit-4.ensures c.put-2.ensures)))
