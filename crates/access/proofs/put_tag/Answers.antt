-- `put_tag` meets its contract: nothing for the writer's own block, else one store.
use native.Mathlib.Omega.{arith}
use borrow.Author.Tests.{eq-eqb, ne_eqb}
use Rattle.store.proofs.Laws.{makes_none}
use Rattle.access.specs.Leaves.{tag_store}
use Rattle.access.proofs.put_tag.Goals as goal

pub returns-then-block-own : goal.returns-then-block-own
unfolding tag_store
returns-then-block-own c =
    rw (eq-eqb c.args.block.tag c.args.own (omega (arith, c.if-block-own.true))) (makes_none _ _)

pub returns : goal.returns
unfolding tag_store
returns c =
    rw (ne_eqb _ _ c.if-block-own.false) c.store.ensures
