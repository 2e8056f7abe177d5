-- `all_boards` meets its contract: ones without the highest 16 - p.
use Rattle.order.proofs.Next.{ones_shift}
use Rattle.order.proofs.all_boards.Goals as goal

pub returns : goal.returns
returns c = ones_shift c.args.p c.requires.1
