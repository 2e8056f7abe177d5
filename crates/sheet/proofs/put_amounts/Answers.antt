-- `put_amounts` meets its contract: two columns, a blank before each.
use Rattle.page.specs.Columns.{amounts_text}
use Rattle.digits.proofs.Laws.{writes_then}
use Rattle.sheet.proofs.put_amounts.Goals as goal

pub returns : goal.returns
unfolding amounts_text
returns c =
    writes_then c.put.ensures
    (writes_then c.put_padded.ensures
    (writes_then c.put-2.ensures (writes_then c.put_padded-2.ensures c.put-3.ensures)))
