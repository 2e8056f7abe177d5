-- `finish` answers by whether the budget refused a store.
use Rattle.store.proofs.Ends.{reply_cut, reply_done}
use Rattle.store.proofs.answers.finish.Goals as goal

pub returns-then-left : goal.returns-then-left
returns-then-left c =
    reply_cut c.args.k c.args.left c.args.decided c.args.group c.args.next _ c.if-left.true
    c.off-none.ensures

pub returns : goal.returns
returns c =
    reply_done c.args.k c.args.left c.args.decided c.args.group c.args.next c.if-left.false
