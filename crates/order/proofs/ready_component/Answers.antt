-- `ready_component` meets its contract: the board is left, and its group without the boards gone is its component.
use mathlib.Core.Path.{◌≡◌, sym, ◌∙◌, ap}
use Rattle.boards.specs.Boards.{fault_group}
use Rattle.boards.specs.Rows.{links_of}
use Rattle.components.specs.Components.{intersection}
use Rattle.order.proofs.Next.{not_left, not_ready, is_ready}
use Rattle.order.proofs.ready_component.Goals as goal
use Rattle.order.proofs.ready_component.Goals.{After-intersection}

pub returns-then-not-has : goal.returns-then-not-has
returns-then-not-has c =
    not_left (links_of c.args.rows) c.args.left c.args.i (sym c.has.ensures ∙ c.if-not-has.true)

-- the boards that it depends on and that depend on it
own : (c : After-intersection) → c.intersection-own.result
    ≡ intersection c.commit_closure-needed.result.members (fault_group (links_of c.args.rows) c.args.i)
own c =
    c.intersection-own.ensures ∙ ap (intersection c.commit_closure-needed.result.members)
    c.fault_closure-dependents.ensures.members

pub returns-then-intersection-own : goal.returns-then-intersection-own
returns-then-intersection-own c =
    not_ready (links_of c.args.rows) c.args.left c.args.i c.commit_closure-needed.ensures.members
    (own (goal.at.returns-then-intersection-own c).After-intersection) c.intersection.ensures c.if-intersection-own.true

pub returns : goal.returns
returns c =
    is_ready (links_of c.args.rows) c.args.left c.args.i c.commit_closure-needed.ensures.members
    (own (goal.at.returns c).After-intersection) c.intersection.ensures
    (sym c.has.ensures ∙ c.if-not-has.false) c.if-intersection-own.false
