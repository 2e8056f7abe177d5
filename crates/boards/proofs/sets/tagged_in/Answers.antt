-- A tag of a board below 16 names that board, one past the boards and one of nobody no member.
use Rattle.std.proofs.Common.{◌∙◌, ap, arith}
use Rattle.boards.specs.Boards.{tag_of}
use Rattle.boards.proofs.Masks.{tagged_none, tagged_past, tagged_board}
use Rattle.boards.proofs.sets.tagged_in.Goals as goal

pub returns-in-Some : goal.returns-in-Some
returns-in-Some c = c.has.ensures ∙ tagged_board c.args.g _ (c.writer_of.ensures ∙ ap tag_of c.in-Some.is)

pub returns-in_default : goal.returns-in_default
returns-in_default c =
    tagged_past c.args.g _ (omega arith) c.if-j-lt16.false (c.writer_of.ensures ∙ ap tag_of c.in-Some.is)

pub returns-in_default-2 : goal.returns-in_default-2
returns-in_default-2 c = tagged_none c.args.g (c.writer_of.ensures ∙ ap tag_of c.in_default.is)
