-- `bad_decision` meets its contract: a group that is decided, tested.
use mathlib.Core.Path.{◌∙◌}
use native.Mathlib.Omega.{arith}
use borrow.Author.Tests.{eq-eqb, ne_eqb}
use Rattle.protocol.specs.Image.{total}
use Rattle.layout.proofs.Laws.{bounded}
use Rattle.recovery.proofs.Laws.{nothing_bad, group_bad}
use Rattle.recovery.proofs.bad_decision.Goals as goal

pub read_decision-requires : goal.read_decision-requires
unfolding total
read_decision-requires c = omega arith

pub returns-in_default : goal.returns-in_default
returns-in_default c = nothing_bad _ _ c.read_decision.ensures c.in_default.is

pub overflow_cast-s : goal.overflow_cast-s
overflow_cast-s c = omega (arith, (bounded c.requires.0).limits.most_boards)

pub returns-then-g-eq0 : goal.returns-then-g-eq0
returns-then-g-eq0 c =
    let none = eq-eqb _ _ c.if-g-eq0.true in
    none ∙ group_bad _ _ c.read_decision.ensures c.in-Some.is none

pub returns-else-g-eq0 : goal.returns-else-g-eq0
returns-else-g-eq0 c =
    c.beyond.ensures ∙ group_bad _ _ c.read_decision.ensures c.in-Some.is (ne_eqb _ _ c.if-g-eq0.false)
