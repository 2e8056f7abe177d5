-- `put_total` meets its contract.
use Rattle.page.specs.Columns.{total_head, total_line}
use Rattle.digits.proofs.Laws.{writes_then}
use Rattle.sheet.proofs.put_total.Goals as goal

pub returns : goal.returns
unfolding total_line total_head
returns c = writes_then c.put_text.ensures c.put_amounts.ensures
