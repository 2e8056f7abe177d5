-- A member's row is empty, another loses the members' bits.
use Rattle.std.proofs.Common.{◌∙◌, sym, arith}
use Rattle.boards.proofs.Masks.{emptied_member, emptied_other}
use Rattle.boards.proofs.rows.emptied_row.Goals as goal

pub returns-then-has : goal.returns-then-has
returns-then-has c = emptied_member c.args.row c.args.a c.args.g (sym c.has.ensures ∙ c.if-has.true)

pub returns-else-has : goal.returns-else-has
returns-else-has c =
    emptied_other c.args.row c.args.a c.args.g (omega arith) (omega arith) (sym c.has.ensures ∙ c.if-has.false)
