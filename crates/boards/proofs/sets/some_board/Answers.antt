-- The number of trailing zeros is a board.
use Rattle.std.proofs.Common.{arith}
use Rattle.boards.proofs.Groups.{has_below}
use Rattle.boards.proofs.Masks.{has_lowest}
use Rattle.boards.proofs.sets.some_board.Goals as goal

pub returns : goal.returns
returns c =
    let lowest = has_lowest 16 c.args.g c.requires (omega arith) in
    (has_below 16 c.args.g _ (omega arith) lowest, lowest)
