-- `put_tail` meets its contract: stores, bytes, line feed.
use Rattle.printing.specs.Parts.{tail_text}
use Rattle.digits.proofs.Laws.{writes_then}
use Rattle.printing.proofs.put_tail.Goals as goal

pub returns : goal.returns
unfolding tail_text
returns c =
    writes_then c.put.ensures
    (writes_then c.put_decimal.ensures
    (writes_then c.put-2.ensures (writes_then c.put_bytes.ensures c.put-3.ensures)))
