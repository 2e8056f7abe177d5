-- `put_rows` meets its contract: one row, or two.
use Rattle.printing.proofs.Laws.{rows_alone, rows_both}
use Rattle.printing.proofs.put_rows.Goals as goal

pub returns-in_default-clause-writes : goal.returns-in_default-clause-writes
returns-in_default-clause-writes c =
    let first = rw c.character.ensures at c.put_row.ensures.writes in
    rows_alone c.args.number c.args.rows c.args.buffer.now first c.in_default.is

pub returns-clause-writes : goal.returns-clause-writes
returns-clause-writes c =
    let first = rw c.character.ensures at c.put_row.ensures.writes in
    let second = rw c.character-2.ensures at c.put_row-2.ensures.writes in
    rows_both c.args.number c.args.rows c.args.buffer.now first c.in-Some.is second
