-- `pass` meets its contract: the boards that joined have their rows added one by one, till none is left.
use Prim.Native.Nat.{◌^◌, ◌<◌}
use mathlib.Core.Path.{◌≡◌, ◌∙◌, sym, ap, subst}
use mathlib.Core.Bool.{true, false}
use mir.Syntax.{w16}
use mir.Val.{Fits}
use native.Mathlib.Omega.{arith}
use borrow.Author.Rules.{rules}
use Rattle.boards.specs.Boards.{has, pass}
use Rattle.boards.proofs.Groups.{mask_below, count_le}
use Rattle.groups.specs.Search.{followed, with_rows, PassInvariant}
use Rattle.groups.proofs.Passes.{none_left, left_board, one_added}
use Rattle.groups.proofs.pass.Goals as goal
use Rattle.groups.proofs.pass.Goals.{After-some_board-a, After-add-progress}

-- the board whose turn it is: a member when the pass began, whose row was not added
next_board : (c : After-some_board-a) → (has c.args.before.members c.some_board-a.result ≡ true)
    × (has c.loop-left.progress.added c.some_board-a.result ≡ false)
next_board c =
    let (below, left) = c.some_board-a.ensures in
    left_board c.loop-left.progress.added c.args.before.members c.some_board-a.result below
    (ap (λ g. has g c.some_board-a.result) (sym c.loop-left.invariant.2) ∙ left)

pub loop-left-init : goal.loop-left-init
loop-left-init c =
    let small : Fits w16 c.args.before.added = search rules in
    (c.requires, small.fits, c.minus-left.ensures)

pub add-progress-requires : goal.add-progress-requires
add-progress-requires c =
    let next = next_board (goal.at.add-progress-requires c).After-some_board-a in
    (c.some_board-a.ensures.0, next.1, c.loop-left.invariant.0.counted)

-- its row is added
again : (c : After-add-progress) →
    PassInvariant (followed c.args.rows c.args.along) c.args.before.members c.add-progress.result
again c =
    let next = next_board c.before in
    let (members, added, one_more) = c.add-progress.ensures in
    one_added (followed c.args.rows c.args.along) c.args.before.members
    c.some_board-a.result c.some_board-a.ensures.0 next.0 next.1 c.loop-left.invariant.0 members added one_more

pub loop-left-smaller : goal.loop-left-smaller
loop-left-smaller c =
    let more = again (goal.at.loop-left-smaller c).After-add-progress in
    omega (arith, more.counted, c.add-progress.ensures.2, count_le 16 (has c.add-progress.result.added))

pub loop-left-preserved : goal.loop-left-preserved
loop-left-preserved c =
    let more = again (goal.at.loop-left-preserved c).After-add-progress in
    let small = subst (λ g. g < 2 ^ 16) (sym c.add-progress.ensures.1) (mask_below 16 _) in
    (more, small, c.minus-left-in-loop-left.ensures)

pub returns : goal.returns
unfolding pass with_rows
returns c =
    let small : Fits w16 c.args.before.members = search rules in
    let whole = none_left c.loop-left.progress.added c.args.before.members c.loop-left.invariant.1 small.fits
    c.loop-left.invariant.0.inside
    (sym c.loop-left-test.false ∙ c.loop-left.invariant.2) in (
      c.loop-left.invariant.0.covered ∙ ap (with_rows (followed c.args.rows c.args.along) c.args.before.members) whole,
      whole,
      c.loop-left.invariant.0.counted,
    )
