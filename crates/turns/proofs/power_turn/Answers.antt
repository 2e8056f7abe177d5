-- `power_turn` meets its contract.
use borrow.Author.Rules.{rules}
use Rattle.turns.proofs.Turning.{powered}
use Rattle.turns.proofs.power_turn.Goals as goal

pub returns : goal.returns
returns c state =
    powered state c.args.area.now c.args.size c.args.first (search rules) (c.power_up-up.ensures state)
