-- `bad_commit` meets its contract, test by test.
use mathlib.Core.Path.{◌∙◌, sym}
use borrow.Author.Tests.{eq-eqb, ne_eqb}
use Rattle.volatile.specs.Volatile.{bad_commit}
use Rattle.boards.proofs.Basics.{if_true, if_false}
use Rattle.entry.proofs.Chains.{or_stop, or_pass}
use Rattle.entry.proofs.checks.bad_commit.Goals as goal

pub returns-then-beyond : goal.returns-then-beyond
unfolding bad_commit
returns-then-beyond c = or_stop _ (sym c.beyond.ensures ∙ c.if-beyond.true)

pub returns-then-beyond-2 : goal.returns-then-beyond-2
unfolding bad_commit
returns-then-beyond-2 c =
    or_pass (sym c.beyond.ensures ∙ c.if-beyond.false)
    (or_stop _ (sym c.beyond-2.ensures ∙ c.if-beyond-2.true))

pub returns-then-c-eq0 : goal.returns-then-c-eq0
unfolding bad_commit
returns-then-c-eq0 c =
    or_pass (sym c.beyond.ensures ∙ c.if-beyond.false)
    (or_pass (sym c.beyond-2.ensures ∙ c.if-beyond-2.false)
    (c.bad_closed.ensures ∙ sym (if_true _ _ (eq-eqb _ _ c.if-c-eq0.true))))

pub returns : goal.returns
unfolding bad_commit
returns c =
    or_pass (sym c.beyond.ensures ∙ c.if-beyond.false)
    (or_pass (sym c.beyond-2.ensures ∙ c.if-beyond-2.false)
    (c.bad_open.ensures ∙ sym (if_false _ _ (ne_eqb _ _ c.if-c-eq0.false))))
