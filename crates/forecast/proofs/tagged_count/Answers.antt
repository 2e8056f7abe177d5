-- `tagged_count` meets its contract: the blocks before b that a board of the group tagged are counted.
use mathlib.Core.Path.{sym, ◌∙◌, ap}
use native.Mathlib.Omega.{arith}
use lib.ListN.{length}
use Rattle.boards.specs.Boards.{tagged_in}
use Rattle.protocol.specs.Image.{Tags, base, size, total}
use Rattle.protocol.proofs.Bridge.{view_at}
use Rattle.layout.proofs.Laws.{bounded}
use Rattle.costs.specs.Forecasts.{those, tagged_blocks}
use Rattle.costs.proofs.Counted.{those_none, those_most}
use Rattle.forecast.proofs.Laws.{chosen, one_more, test_small, untagged_passed}
use Rattle.forecast.proofs.tagged_count.Goals as goal

pub next_tagged-b-requires : goal.next_tagged-b-requires
next_tagged-b-requires c = (c.requires.0, c.requires.1, omega arith)

pub loop-b-init : goal.loop-b-init
loop-b-init c = (
  c.next_tagged-b.ensures.1,
  sym (those_none (chosen c.args.image.now c.args.s c.args.g))
      ∙ untagged_passed c.args.image.now c.args.s c.args.g 0 c.next_tagged-b.result c.next_tagged-b.ensures.0
      c.next_tagged-b.ensures.1 c.next_tagged-b.ensures.2,
)

pub bounds-image-b : goal.bounds-image-b
unfolding total
bounds-image-b c = omega arith

pub overflow_add-n : goal.overflow_add-n
overflow_add-n c =
    omega (
      arith,
      (bounded c.requires.0).limits,
      those_most c.loop-b.b (chosen c.args.image.now c.args.s c.args.g),
      test_small c.tagged_in.result,
      c.from-n.ensures,
    )

pub overflow_add-b : goal.overflow_add-b
overflow_add-b c =
    omega (arith, (bounded c.requires.0).limits)

pub next_tagged-b-requires-in-loop-b : goal.next_tagged-b-requires-in-loop-b
next_tagged-b-requires-in-loop-b c =
    (c.requires.0, c.requires.1, omega arith)

pub loop-b-smaller : goal.loop-b-smaller
loop-b-smaller c = omega (arith, c.next_tagged-b-in-loop-b.ensures.0, c.loop-b-test.true)

pub loop-b-preserved : goal.loop-b-preserved
unfolding base size
loop-b-preserved c =
    let seen = view_at c.args.s c.args.image.now Tags c.loop-b.b (omega arith) in
    let one = one_more c.loop-b.b (chosen c.args.image.now c.args.s c.args.g) c.loop-b.invariant.1
    (c.tagged_in.ensures ∙ ap (tagged_in c.args.g) (sym seen)) c.from-n.ensures in (
      c.next_tagged-b-in-loop-b.ensures.1,
      one ∙ untagged_passed c.args.image.now c.args.s c.args.g _
          c.next_tagged-b-in-loop-b.result c.next_tagged-b-in-loop-b.ensures.0 c.next_tagged-b-in-loop-b.ensures.1
          c.next_tagged-b-in-loop-b.ensures.2,
    )

pub returns : goal.returns
unfolding tagged_blocks
returns c =
    c.loop-b.invariant.1 ∙ ap (λ n. length (those n (chosen c.args.image.now c.args.s c.args.g))) (omega arith)
