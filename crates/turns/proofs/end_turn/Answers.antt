-- `end_turn` meets its contract: the row of the call, and after a cut that of the power-up.
use mathlib.Core.Path.{sym, ◌∙◌}
use lib.ListN.{take}
use borrow.Author.Tests.{eqb-true, eqb-false}
use Rattle.turns.proofs.Turning.{cut_turn, done_turn}
use Rattle.turns.proofs.end_turn.Goals as goal

pub returns-then-was_cut : goal.returns-then-was_cut
returns-then-was_cut c buffer =
    cut_turn c.args.letter c.args.reply (take c.args.size c.args.area.now) buffer c.requires.2 c.requires.0
    (eqb-true _ _ (sym c.was_cut.ensures ∙ c.if-was_cut.true)) (c.power_turn.ensures c.args.reply.next)

pub returns : goal.returns
returns c buffer =
    done_turn c.args.letter c.args.reply c.args.size c.args.area.now buffer c.requires.2 c.requires.0
    (eqb-false _ _ (sym c.was_cut.ensures ∙ c.if-was_cut.false))
