-- `read_numbers` meets its contract: the fields passed are numbers, and `end` is where the last of them ends.
use mathlib.Core.Path.{◌≡◌, refl, sym, ◌∙◌, ap}
use native.Mathlib.Omega.{arith}
use lib.ListN.{get_or, length-set}
use lib.Seq.{get_or-set_same, get_or-set_other}
use borrow.Author.Count.{below_none, below_more}
use Rattle.std.specs.Prelude.{Some}
use Rattle.fields.proofs.Laws.{missing, read_value, read_none, ends_first, ends_next, four}
use Rattle.fields.proofs.read_numbers.Goals as goal

pub loop-i-init : goal.loop-i-init
loop-i-init c = (refl, ends_first c.args.s.now c.requires.0, below_none _)

pub returns-then-end-s : goal.returns-then-end-s
returns-then-end-s c =
    (refl, (c.loop-i.i, omega arith, missing c.loop-i.invariant.1 (omega arith)))

pub returns-in_default : goal.returns-in_default
returns-in_default c =
    (refl, (c.loop-i.i, omega arith, read_none c.loop-i.invariant.1 c.read_number.ensures c.in_default.is))

pub overflow_add-end : goal.overflow_add-end
overflow_add-end c =
    let read = read_value c.loop-i.invariant.1 c.read_number.ensures c.in-Some.is in
    omega (arith, (ends_next c.loop-i.invariant.1 (omega arith) read.1).within)

pub loop-i-preserved : goal.loop-i-preserved
loop-i-preserved c =
    let read = read_value c.loop-i.invariant.1 c.read_number.ensures c.in-Some.is in (
      length-set c.loop-i.values c.loop-i.i _ ∙ c.loop-i.invariant.0,
      ends_next c.loop-i.invariant.1 (omega arith) read.1,
      below_more _ c.loop-i.i
          (λ j l. c.loop-i.invariant.2 j l ∙ ap Some
          (sym (get_or-set_other c.loop-i.values c.loop-i.i j c.in-Some.number.value 0 (λ e. omega arith))))
          (read.0 ∙ ap Some
          (sym (get_or-set_same c.loop-i.values c.loop-i.i c.in-Some.number.value 0 (omega arith)))),
    )

pub returns : goal.returns
returns c =
    let all : c.loop-i.i ≡ c.args.due = omega arith in
    let four = sym (four c.loop-i.values c.loop-i.invariant.0) in (
      rw (← all) c.loop-i.invariant.1,
      λ j l. c.loop-i.invariant.2 j (omega arith) ∙ ap (λ vs. Some (get_or vs j 0)) four,
    )
