-- `bad_row` meets its contract, test by test.
use mathlib.Core.Path.{◌∙◌, sym}
use borrow.Author.Tests.{lt-leb}
use Rattle.volatile.specs.Volatile.{bad_row}
use Rattle.boards.proofs.Basics.{false_and}
use Rattle.entry.proofs.Chains.{or_stop, or_pass, row_above}
use Rattle.entry.proofs.checks.bad_row.Goals as goal

pub returns-then-beyond : goal.returns-then-beyond
unfolding bad_row
returns-then-beyond c = or_stop _ (sym c.beyond.ensures ∙ c.if-beyond.true)

pub returns-then-p-i : goal.returns-then-p-i
unfolding bad_row
returns-then-p-i c =
    or_pass (sym c.beyond.ensures ∙ c.if-beyond.false) (row_above c.args.p c.args.i c.args.row c.if-p-i.true)

pub returns : goal.returns
unfolding bad_row
returns c =
    or_pass (sym c.beyond.ensures ∙ c.if-beyond.false)
    (or_pass (false_and _ (lt-leb _ _ c.if-p-i.false)) c.has.ensures)
