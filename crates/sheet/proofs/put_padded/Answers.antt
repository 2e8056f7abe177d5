-- `put_padded` meets its contract: the digits before the last, then the last.
use Rattle.digits.proofs.Laws.{writes_then}
use Rattle.sheet.proofs.Laws.{padded_last}
use Rattle.sheet.proofs.put_padded.Goals as goal

pub returns : goal.returns
returns c =
    rw (padded_last c.args.w c.args.n c.requires.0) (writes_then c.put_leading.ensures c.put.ensures)
