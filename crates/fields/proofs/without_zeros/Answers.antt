-- `without_zeros` meets its contract: the tests are those of the definition.
use mathlib.Core.Path.{◌≡◌, sym, ◌∙◌}
use native.Mathlib.Omega.{arith}
use Rattle.text.specs.Fields.{before, number_from, number_of}
use Rattle.fields.specs.Numbers.{measured}
use Rattle.fields.proofs.Laws.{before_fits, first_of, number_none, number_led, number_whole}
use Rattle.fields.proofs.without_zeros.Goals as goal
use Rattle.fields.proofs.without_zeros.Goals.{else-n-gt1-via-then-n-gt1+else-s-eq48, else-n-gt1-via-else-n-gt1}

pub returns-then-n-eq0 : goal.returns-then-n-eq0
unfolding measured
returns-then-n-eq0 c = rw (number_none (before c.args.s.now) (omega arith))

pub bounds-s-0 : goal.bounds-s-0
bounds-s-0 c = omega (arith, before_fits c.args.s.now)

pub returns-then-s-eq48 : goal.returns-then-s-eq48
unfolding measured
returns-then-s-eq48 c =
    rw (number_led (before c.args.s.now) (omega arith) (first_of c.args.s.now (omega arith) ∙ c.if-s-eq48.true))

pub returns : goal.returns
unfolding measured
returns c =
    let t = before c.args.s.now in
    let whole : number_of t ≡ number_from 0 t =
    elim c.else-n-gt1.branch [
      | else-n-gt1-via-then-n-gt1+else-s-eq48 w ↦
          number_whole t (omega arith) (λ l e. w.if-s-eq48.false (sym (first_of c.args.s.now (omega arith)) ∙ e))
      | else-n-gt1-via-else-n-gt1 w ↦ number_whole t (omega arith) (λ l e. omega arith)
    ] in
    rw (whole, c.requires.1, ← c.requires.0)
