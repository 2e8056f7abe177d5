-- `next_line` meets its contract: the first line feed that is not read.
use native.Mathlib.Omega.{arith}
use Rattle.text.specs.Fields.{line_feed}
use Rattle.fields.proofs.Laws.{find_within}
use Rattle.pieces.proofs.Pieces.{none_left, one_left}
use Rattle.pieces.proofs.next_line.Goals as goal

pub overflow_add-end : goal.overflow_add-end
overflow_add-end c =
    omega (arith, find_within line_feed c.args.piece.now c.args.read c.requires c.find.ensures)

pub returns-then-end-piece : goal.returns-then-end-piece
returns-then-end-piece c =
    none_left c.args.piece.now c.args.read c.find.result c.requires c.find.ensures
    c.if-end-piece.true

pub returns : goal.returns
returns c =
    one_left c.args.piece.now c.args.read c.find.result c.requires c.find.ensures
    c.if-end-piece.false
