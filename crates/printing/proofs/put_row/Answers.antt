-- `put_row` meets its contract: the three parts in a row.
use native.Mathlib.Omega.{arith}
use Rattle.protocol.specs.Replies.{answer_says}
use Rattle.digits.proofs.Laws.{writes_then}
use Rattle.printing.proofs.Laws.{length_row, row_parts}
use Rattle.printing.proofs.put_row.Goals as goal

pub returns : goal.returns
returns c =
    let said = answer_says c.args.answer in
    let shown = c.shown-shown.ensures in
    let head = rw c.status_of.ensures at c.put_head.ensures in
    let middle = rw (shown.decided, shown.group) at c.put_middle.ensures in
    let tail = rw shown.stores at c.put_tail.ensures in
    let whole = rw (row_parts c.args.number c.args.letter said c.args.bytes.now) at
    (writes_then head (writes_then middle tail)) in
    record {
      writes = whole;
      room = omega (arith, whole.appends.place, length_row c.args.number c.args.letter said c.args.bytes.now);
    }
