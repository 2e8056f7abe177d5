-- `board_of` meets its contract: an allowed shape has a last board.
use native.Mathlib.Omega.{arith}
use Rattle.protocol.specs.Accesses.{board_of}
use Rattle.layout.proofs.Laws.{bounded}
use Rattle.entry.proofs.board_of.Goals as goal

pub overflow_sub-result : goal.overflow_sub-result
overflow_sub-result c = omega (arith, (bounded c.requires).limits.some_boards)

pub returns-in-Board : goal.returns-in-Board
unfolding board_of
returns-in-Board c = rw c.in-Board.is

pub returns-in-Port : goal.returns-in-Port
unfolding board_of
returns-in-Port c = rw c.in-Port.is
