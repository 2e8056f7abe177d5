-- The measure is the number of boards left.
use Rattle.boards.specs.Boards.{has}
use Rattle.boards.specs.Lists.{count}
use Rattle.order.proofs.+order_from.Given as goal

abbrev pub decreases-order_from : goal.decreases-order_from
decreases-order_from l = count 16 (has l.left)
