-- `member_count` meets its contract: the members before i are counted.
use mathlib.Core.Path.{sym, ◌∙◌, ap}
use lib.ListN.{length}
use native.Mathlib.Omega.{arith}
use Rattle.boards.specs.Boards.{has}
use Rattle.layout.proofs.Laws.{bounded}
use Rattle.costs.specs.Forecasts.{those, boards_of}
use Rattle.costs.proofs.Counted.{those_none, those_most}
use Rattle.forecast.proofs.Laws.{one_more, test_small}
use Rattle.forecast.proofs.member_count.Goals as goal

pub loop-i-init : goal.loop-i-init
loop-i-init c = sym (those_none (has c.args.g))

pub overflow_cast-i : goal.overflow_cast-i
overflow_cast-i c = omega (arith, (bounded c.requires).limits.most_boards)

pub has-requires : goal.has-requires
has-requires c = omega (arith, (bounded c.requires).limits.most_boards)

pub overflow_add-n : goal.overflow_add-n
overflow_add-n c =
    omega (
      arith,
      (bounded c.requires).limits.most_boards,
      those_most c.loop-i.i (has c.args.g),
      test_small c.has.result,
      c.from-n.ensures,
    )

pub loop-i-preserved : goal.loop-i-preserved
loop-i-preserved c = one_more c.loop-i.i (has c.args.g) c.loop-i.invariant c.has.ensures c.from-n.ensures

pub returns : goal.returns
unfolding boards_of
returns c =
    c.loop-i.invariant ∙ ap (λ n. length (those n (has c.args.g))) (omega arith)
