-- `bad_closed` meets its contract, test by test.
use mathlib.Core.Path.{ap, refl}
use mathlib.Core.Bool.{not}
use borrow.Author.Tests.{eq-eqb, ne_eqb}
use Rattle.volatile.specs.Volatile.{bad_closed}
use Rattle.entry.proofs.Chains.{or_stop, or_pass}
use Rattle.entry.proofs.checks.bad_closed.Goals as goal

pub returns-then-c-ne0 : goal.returns-then-c-ne0
unfolding bad_closed
returns-then-c-ne0 c = or_stop _ (ap not (ne_eqb _ _ c.if-c-ne0.true))

pub returns : goal.returns
unfolding bad_closed
returns c = or_pass (ap not (eq-eqb _ _ c.if-c-ne0.false)) refl
