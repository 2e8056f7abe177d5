-- `read_number` meets its contract: the digits passed made v, and those still to come go on from it.
use mathlib.Core.Path.{sym, ◌∙◌}
use native.Mathlib.Omega.{arith}
use Rattle.text.specs.Fields.{comma}
use Rattle.fields.proofs.Laws.{until_stop, until_more, until_end, number_more, number_done, number_stopped}
use Rattle.fields.proofs.read_number.Goals as goal

pub without_zeros-requires : goal.without_zeros-requires
without_zeros-requires c =
    let none = until_stop c.args.s.now c.loop-i.i (omega arith) comma c.if-c-eq44.true in
    (omega arith, sym c.loop-i.invariant.1 ∙ number_done c.loop-i.v _ none)

pub returns-then-not-is_ascii_digit : goal.returns-then-not-is_ascii_digit
returns-then-not-is_ascii_digit c =
    number_stopped _ c.loop-i.i (omega arith) c.loop-i.v c.loop-i.invariant.1 c.if-c-eq44.false
    (λ a b m. let other = c.if-not-is_ascii_digit.ensures.cases in omega (arith, other))

pub returns-then-v-gt65535 : goal.returns-then-v-gt65535
returns-then-v-gt65535 c =
    number_stopped _ c.loop-i.i (omega arith) c.loop-i.v c.loop-i.invariant.1 c.if-c-eq44.false (λ a b m. omega arith)

pub loop-i-preserved : goal.loop-i-preserved
loop-i-preserved c =
    let digit = c.if-not-is_ascii_digit.ensures.cases in
    let next = number_more c.args.s.now c.loop-i.i (omega arith) c.loop-i.v c.if-c-eq44.false (omega (arith, digit))
    (omega (arith, digit)) (omega arith) in
    let longer = until_more c.args.s.now c.loop-i.i (omega arith) comma c.if-c-eq44.false in
    (omega arith, sym next ∙ c.loop-i.invariant.1, omega arith)

pub without_zeros-requires-2 : goal.without_zeros-requires-2
without_zeros-requires-2 c =
    let none = until_end c.args.s.now c.loop-i.i (omega arith) comma in
    (omega arith, sym c.loop-i.invariant.1 ∙ number_done c.loop-i.v _ none)
