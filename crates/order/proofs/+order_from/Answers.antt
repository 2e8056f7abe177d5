-- `order_from` meets its contract: the next component, and then those of the boards that are still left.
use Prim.Native.Nat.{ℕ, ◌<◌}
use mathlib.Core.Path.{◌≡◌, refl, subst}
use lib.ListN.{length, length-set}
use native.Mathlib.Omega.{arith}
use borrow.Author.Rules.{rules}
use Rattle.boards.specs.Boards.{has}
use Rattle.boards.specs.Lists.{count}
use Rattle.boards.specs.Rows.{links_of, minus}
use Rattle.boards.proofs.Groups.{Bounded}
use Rattle.order.proofs.Next.{rows_bounded}
use Rattle.order.proofs.Masks.{put_none, put_more, others_fewer, others_dependents}
use Rattle.order.proofs.+order_from.Goals as goal
use Rattle.order.proofs.+order_from.Goals.{After-next_component-own}

-- the rows are sixteen numbers of sixteen bits
bounded : {t : ℕ} (c : After-next_component-own t) → Bounded 16 (links_of c.args.rows)
bounded c = rows_bounded (record { long = search rules; small = λ a. search rules })

-- without the next component fewer boards are left
fewer : {t : ℕ} (c : After-next_component-own t) {others : ℕ} → others ≡ minus c.args.left c.next_component-own.result
    → count 16 (has others) < count 16 (has c.args.left)
fewer c same =
    others_fewer (bounded c) c.ranges.left.fits (omega (arith, c.if-left-eq0.false)) c.requires.0
    c.next_component-own.ensures same

pub returns-then-left-eq0 : goal.returns-then-left-eq0
returns-then-left-eq0 t c =
    put_none (links_of c.args.rows) c.args.left c.args.at c.args.masks.now c.if-left-eq0.true

pub bounds-masks-at : goal.bounds-masks-at
bounds-masks-at t c = omega (arith, fewer c refl, c.requires.1)

pub order_from-requires : goal.order_from-requires
order_from-requires t c =
    let here = (goal.at.order_from-requires t c).After-next_component-own in
    let less = fewer here c.minus-others.ensures in
    let long = length-set c.args.masks.now c.args.at c.next_component-own.result in (
      subst (λ n. count 16 (has c.minus-others.result) < n) c.decreases less,
      (
        others_dependents (bounded here) c.ranges.left.fits (omega (arith, c.if-left-eq0.false)) c.requires.0
            c.next_component-own.ensures c.minus-others.ensures,
        omega (arith, long, c.requires.1, less),
      ),
    )

pub returns : goal.returns
returns t c =
    let here = (goal.at.returns t c).After-next_component-own in
    let less = fewer here c.minus-others.ensures in
    let room : c.args.at < length c.args.masks.now = omega (arith, less, c.requires.1) in
    put_more (bounded here) c.ranges.left.fits (omega (arith, c.if-left-eq0.false)) c.requires.0
    c.next_component-own.ensures c.minus-others.ensures c.args.at c.args.masks.now
    c.order_from.result c.order_from.new.masks room c.order_from.ensures
