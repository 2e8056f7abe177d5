-- `put_head` meets its contract: number, letter, status.
use Rattle.printing.specs.Parts.{head_text}
use Rattle.digits.proofs.Laws.{writes_then}
use Rattle.printing.proofs.put_head.Goals as goal

pub returns : goal.returns
unfolding head_text
returns c =
    writes_then c.put_decimal.ensures (writes_then c.put_between.ensures c.put_decimal-2.ensures)
