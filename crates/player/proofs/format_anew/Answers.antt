-- `format_anew` meets its contract.
use Rattle.turns.proofs.Turning.{formatted_anew}
use borrow.Author.Rules.{rules}
use Rattle.player.proofs.format_anew.Goals as goal

pub returns : goal.returns
returns c =
    formatted_anew c.args.s c.args.area.now c.args.size c.args.k c.args.state (search rules)
    (c.fill.ensures.after (λ y e. e))
    c.format.ensures
