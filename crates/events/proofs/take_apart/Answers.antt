-- `take_apart` meets its contract.
use mathlib.Core.Path.{sym, ◌∙◌}
use native.Mathlib.Omega.{arith}
use Rattle.text.specs.Events.{meant, counted, with_letter}
use Rattle.text.proofs.Steps.{taken_long}
use Rattle.events.proofs.Laws.{taken_as}
use Rattle.events.proofs.take_apart.Goals as goal

pub returns-then-line-gt-LONGEST : goal.returns-then-line-gt-LONGEST
unfolding meant counted
returns-then-line-gt-LONGEST c = (sym (taken_long _ c.if-line-gt-LONGEST.true), omega arith)

pub returns-in_default : goal.returns-in_default
unfolding meant counted with_letter
returns-in_default c =
    (taken_as _ c.if-line-gt-LONGEST.false c.first_letter.ensures c.in_default.is, omega arith)

pub returns-then-ends_in_bytes : goal.returns-then-ends_in_bytes
returns-then-ends_in_bytes c =
    let same = taken_as _ c.if-line-gt-LONGEST.false c.first_letter.ensures c.in-Some.is in
    (c.take_bytes.ensures.0 ∙ same, c.take_bytes.ensures.1)

pub returns : goal.returns
returns c =
    let same = taken_as _ c.if-line-gt-LONGEST.false c.first_letter.ensures c.in-Some.is in
    (c.take_numbers.ensures.0 _ ∙ same, c.take_numbers.ensures.1)
