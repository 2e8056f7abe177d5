-- `first_letter` meets its contract.
use mathlib.Core.Path.{◌≡◌, sym, ◌∙◌}
use native.Mathlib.Omega.{arith}
use borrow.Author.Tests.{eqb-true, eqb-false}
use lib.ListN.{length}
use Rattle.text.specs.Fields.{before}
use Rattle.fields.proofs.Laws.{before_fits, letter_none, letter_one}
use Rattle.fields.proofs.first_letter.Goals as goal

pub returns-then-not-one_character : goal.returns-then-not-one_character
returns-then-not-one_character c =
    let other = sym c.one_character.ensures ∙ c.if-not-one_character.true in
    sym (letter_none _ (eqb-false _ 1 other))

pub bounds-s-0 : goal.bounds-s-0
bounds-s-0 c =
    let alone = sym c.one_character.ensures ∙ c.if-not-one_character.false in
    let one : length (before c.args.s.now) ≡ 1 = eqb-true _ 1 alone in
    omega (arith, before_fits c.args.s.now)

pub returns : goal.returns
returns c =
    let one = eqb-true _ 1 (sym c.one_character.ensures ∙ c.if-not-one_character.false) in
    c.look_up.ensures ∙ sym (letter_one c.args.s.now one)
