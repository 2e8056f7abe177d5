-- `keep` meets its contract: the set as it is, or without one board.
use mathlib.Core.Path.{◌∙◌, sym, ap}
use native.Mathlib.Omega.{arith}
use Rattle.boards.specs.Rows.{minus}
use Rattle.groups.specs.Search.{kept}
use Rattle.groups.proofs.Passes.{kept_all, kept_others}
use Rattle.groups.proofs.keep.Goals as goal

pub returns-then-test : goal.returns-then-test
returns-then-test c =
    kept_all c.args.b c.args.g (omega arith)
    ∙ ap (λ t. kept t c.args.b c.args.g) (sym c.if-test.true)

pub returns : goal.returns
returns c =
    c.minus.ensures ∙ ap (minus c.args.g) c.single-own.ensures
    ∙ kept_others c.args.b c.args.g
    ∙ ap (λ t. kept t c.args.b c.args.g) (sym c.if-test.false)
