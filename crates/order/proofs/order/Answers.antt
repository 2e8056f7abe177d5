-- `order` meets its contract: refused by 11, 12 or 14, or the order of all boards in the masks.
use mathlib.Core.Path.{sym, ap, subst}
use native.Mathlib.Omega.{arith}
use borrow.Author.Rules.{rules}
use Rattle.std.proofs.lemmas.Result.{err_from_is_err_and}
use Rattle.boards.specs.Boards.{has}
use Rattle.boards.specs.Lists.{count}
use Rattle.boards.specs.Rows.{links_of}
use Rattle.boards.proofs.Masks.{Sixteen}
use Rattle.protocol.specs.declared.Refusal.TheVariants.{CommitOpen}
use Rattle.layout.proofs.Laws.{bounded, Bounded}
use Rattle.order.specs.Call.{WithDependents, PutFrom}
use Rattle.order.proofs.Answers.{entry_stops, commit_open, all_passed, refused_so, all_dependents, few_boards}
use Rattle.order.proofs.Answers.{taken_so}
use Rattle.order.proofs.order.Goals as goal
use Rattle.order.proofs.order.Goals.{After-engaged, After-all_boards-all}

-- the bounds of the shape, once 11 and 12 are passed
shape : (c : After-engaged) → Bounded c.in_ok-s.s
shape c = bounded c.in_ok-s.ensures.known.shaped.allowed_shape

-- the rows of the record are sixteen numbers of sixteen bits
sixteen : (c : After-all_boards-all) → Sixteen c.args.state.rows
sixteen c = record { long = search rules; small = λ a. search rules }

pub returns-in_err-s : goal.returns-in_err-s
returns-in_err-s c =
    let p = err_from_is_err_and c.from_residual.result c.from_residual.ensures.1 in
    rw (p.1, p.2)
    (refused_so c.args.image.now c.args.state _ (entry_stops c.args.image.now c.args.state _ c.in_err-s.ensures))

pub returns-then-engaged-ne0 : goal.returns-then-engaged-ne0
returns-then-engaged-ne0 c =
    refused_so c.args.image.now c.args.state CommitOpen
    (commit_open c.args.image.now c.args.state c.in_ok-s.ensures.none
    (λ z. omega (arith, c.if-engaged-ne0.true, c.engaged.ensures, z)))

pub overflow_cast-s : goal.overflow_cast-s
overflow_cast-s c = omega (arith, (shape (goal.at.overflow_cast-s c).After-engaged).limits.most_boards)

pub all_boards-all-requires : goal.all_boards-all-requires
all_boards-all-requires c =
    let l = (shape (goal.at.all_boards-all-requires c).After-engaged).limits in
    (omega (arith, l.some_boards), l.most_boards)

pub order_from-requires : goal.order_from-requires
order_from-requires c =
    let rows = sixteen (goal.at.order_from-requires c).After-all_boards-all in
    let known = c.in_ok-s.ensures.known in
    let most = (shape (goal.at.order_from-requires c).After-engaged).limits.most_boards in
    let few = few_boards c.args.image.now c.args.state rows known.shaped.shape most known.recorded in (
      subst (WithDependents (links_of c.args.state.rows)) (sym c.all_boards-all.ensures)
          (all_dependents c.args.image.now c.args.state rows known.shaped.shape most known.recorded),
      omega (arith, few, ap (λ g. count 16 (has g)) c.all_boards-all.ensures),
    )

pub returns : goal.returns
returns c =
    let known = c.in_ok-s.ensures.known in
    let none =
    all_passed c.args.image.now c.args.state c.in_ok-s.ensures.none
    (omega (arith, c.if-engaged-ne0.false, c.engaged.ensures)) in
    taken_so c.args.image.now c.args.state (sixteen (goal.at.returns c).After-all_boards-all) known.shaped.shape
    (shape (goal.at.returns c).After-engaged).limits.most_boards known.recorded none
    (subst (λ g. PutFrom (links_of c.args.state.rows) g 0 c.args.masks.now c.order_from.result
    c.order_from.new.masks)
    c.all_boards-all.ensures c.order_from.ensures)
