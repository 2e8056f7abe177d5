-- `put_last_tag` meets its contract: nothing if the last block is the first, else its tag.
use mathlib.Core.Path.{sym}
use native.Mathlib.Omega.{arith}
use borrow.Author.Tests.{eq-eqb, ne_eqb}
use Rattle.store.proofs.Laws.{makes_none}
use Rattle.access.specs.Leaves.{last_tag_store}
use Rattle.access.proofs.put_last_tag.Goals as goal

pub returns-then-last-p : goal.returns-then-last-p
unfolding last_tag_store
returns-then-last-p c =
    rw (eq-eqb c.args.p.first.number c.args.p.last.number (omega (arith, c.if-last-p.true))) (makes_none _ _)

pub returns : goal.returns
unfolding last_tag_store
returns c =
    rw (ne_eqb _ _ (λ e. c.if-last-p.false (sym e))) c.put_tag.ensures
