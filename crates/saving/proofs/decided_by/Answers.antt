-- `decided_by` meets its contract.
use native.Mathlib.Nat.{sub-zero}
use borrow.Author.Rules.{rules}
use Rattle.text.specs.Events.{meant, counted}
use Rattle.saving.specs.Lines.{meant_by, counted_by}
use Rattle.saving.proofs.Laws.{refused_line_nothing, others_nothing}
use Rattle.saving.proofs.decided_by.Goals as goal

pub slice_bounds-by_start-end : goal.slice_bounds-by_start-end
unfolding counted counted_by
slice_bounds-by_start-end g c = let h = rw (c.in-Ok.is, c.in-Start.is) at c.requires in search (rules, h)

pub slice_bounds-by_acknowledgement-end : goal.slice_bounds-by_acknowledgement-end
unfolding counted counted_by
slice_bounds-by_acknowledgement-end g c =
    let h = rw (c.in-Ok.is, c.in-Acknowledge.is) at c.requires in search (rules, h)

pub returns-in-Start : goal.returns-in-Start
unfolding meant meant_by
returns-in-Start g c = λ number. rw (c.in-Ok.is, c.in-Start.is) (rw sub-zero at c.by_start.ensures)

pub returns-in-Acknowledge : goal.returns-in-Acknowledge
unfolding meant meant_by
returns-in-Acknowledge g c =
    λ number. rw (c.in-Ok.is, c.in-Acknowledge.is) (rw sub-zero at c.by_acknowledgement.ensures)

pub returns-in_default : goal.returns-in_default
unfolding meant_by
returns-in_default g c = λ number. rw c.in_default.is (refused_line_nothing _ _ _ _)

pub returns-in_default-event : goal.returns-in_default-event
unfolding meant_by
returns-in_default-event g c =
    λ number.
    rw c.in-Ok.is (others_nothing _ _ _ _ _ c.in_default-event.not-Start c.in_default-event.not-Acknowledge)
