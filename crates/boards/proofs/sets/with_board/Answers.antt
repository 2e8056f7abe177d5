-- The board's bit is or-ed in.
use Rattle.std.proofs.Common.{◌∙◌, ap, arith, bit_or}
use Rattle.boards.proofs.Masks.{or_with}
use Rattle.boards.proofs.sets.with_board.Goals as goal

pub returns : goal.returns
returns c = ap (bit_or c.args.g) c.single.ensures ∙ or_with c.args.g _ (omega arith)
