-- `bad_open` meets its contract, test by test; a starter of 16 or more is in no set.
use mathlib.Core.Path.{◌∙◌, sym, ap}
use mathlib.Core.Bool.{not}
use native.Mathlib.Omega.{arith}
use borrow.Author.Tests.{eq-eqb, ne_eqb}
use Rattle.volatile.specs.Volatile.{bad_open}
use Rattle.boards.proofs.Groups.{has_small}
use Rattle.entry.proofs.Chains.{or_stop, or_pass}
use Rattle.entry.proofs.checks.bad_open.Goals as goal

pub returns-then-not-within : goal.returns-then-not-within
unfolding bad_open
returns-then-not-within c = or_stop _ (ap not (sym c.within.ensures ∙ c.if-not-within.true))

pub returns-then-c : goal.returns-then-c
unfolding bad_open
returns-then-c c =
    or_pass (ap not (sym c.within.ensures ∙ c.if-not-within.false)) (or_stop _ (eq-eqb _ _ c.if-c.true))

pub returns-then-c-ge16 : goal.returns-then-c-ge16
unfolding bad_open
returns-then-c-ge16 c =
    or_pass (ap not (sym c.within.ensures ∙ c.if-not-within.false))
    (or_pass (ne_eqb _ _ c.if-c.false)
    (sym (ap not (has_small 16 c.args.c.acknowledged c.args.c.starter (omega arith) c.if-c-ge16.true))))

pub returns : goal.returns
unfolding bad_open
returns c =
    or_pass (ap not (sym c.within.ensures ∙ c.if-not-within.false))
    (or_pass (ne_eqb _ _ c.if-c.false) (ap not c.has.ensures))
