-- `take_numbers` meets its contract.
use mathlib.Core.Path.{sym, ◌∙◌}
use native.Mathlib.Omega.{arith}
use Rattle.text.specs.Events.{meant, counted}
use Rattle.events.proofs.Laws.{alone, numbers_none, numbers_more, numbers_made}
use Rattle.events.proofs.take_numbers.Goals as goal

pub read_numbers-requires : goal.read_numbers-requires
read_numbers-requires c = alone c.args.line.now c.requires.0

pub returns-in_default : goal.returns-in_default
unfolding meant counted
returns-in_default c =
    (λ b. sym (numbers_none _ c.requires.0 c.requires.1 c.in_default.is c.read_numbers.ensures), omega arith)

pub returns-then-values-line : goal.returns-then-values-line
unfolding meant counted
returns-then-values-line c = (
  λ b. sym (numbers_more _ c.requires.0 c.requires.1 c.in-Ok.is c.read_numbers.ensures c.if-values-line.true),
  omega arith,
)

pub returns : goal.returns
returns c =
    let made = numbers_made _ c.requires.0 c.requires.1 c.in-Ok.is c.read_numbers.ensures c.if-values-line.false in
    (λ b. c.with_values.ensures.0 b ∙ sym made, c.with_values.ensures.1)
