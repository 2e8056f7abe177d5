-- `next_component` meets its contract: no board before the first that is ready may go next, and one may.
use mathlib.Core.Path.{◌∙◌, sym, ap}
use native.Mathlib.Omega.{arith}
use borrow.Author.Rules.{rules}
use Rattle.boards.specs.Rows.{links_of}
use Rattle.boards.proofs.Groups.{Bounded}
use Rattle.components.specs.Components.{component}
use Rattle.order.proofs.Next.{rows_bounded, answered_ready, first_lowest, one_ready}
use Rattle.order.proofs.next_component.Goals as goal
use Rattle.order.proofs.next_component.Goals.{Start}

-- the rows are sixteen numbers of sixteen bits
bounded : (c : Start) → Bounded 16 (links_of c.args.rows)
bounded c = rows_bounded (record { long = search rules; small = λ a. search rules })

pub returns-in-Some : goal.returns-in-Some
returns-in-Some c =
    let b = bounded (goal.at.returns-in-Some c).Start in
    let found = answered_ready b c.args.left c.loop-i.i (sym c.in-Some.is ∙ c.ready_component.ensures) in
    found.1
    ∙ ap (component (links_of c.args.rows))
    (first_lowest b c.args.left c.loop-i.i (omega (arith, c.loop-i-test.true)) found.0 c.loop-i.invariant)

pub returns : goal.returns
returns c =
    absurd (one_ready (bounded (goal.at.returns c).Start) c.args.left (omega arith) c.requires.0 c.requires.1
    (λ j k. c.loop-i.invariant j (omega arith)))
