-- `put_commit` meets its contract: count, members, amounts.
use Rattle.page.specs.Columns.{commit_line}
use Rattle.digits.proofs.Laws.{writes_then}
use Rattle.sheet.proofs.put_commit.Goals as goal

pub returns : goal.returns
unfolding commit_line
returns c =
    writes_then c.put_padded.ensures
    (writes_then c.put.ensures (writes_then c.put_group.ensures c.put_amounts.ensures))
