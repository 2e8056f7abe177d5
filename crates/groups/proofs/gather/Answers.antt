-- `gather` meets its contract: n passes are made, each adds a row at least, and the last has added all.
use Prim.Native.Nat.{suc, ◌<◌}
use mathlib.Core.Path.{◌≡◌, refl, ◌∙◌, sym, ap}
use mir.Syntax.{w16}
use mir.Val.{Fits}
use native.Mathlib.Omega.{arith}
use borrow.Author.Rules.{rules}
use Rattle.boards.specs.Lists.{count}
use Rattle.boards.specs.Boards.{has, pass, passes}
use Rattle.boards.proofs.Groups.{count_le}
use Rattle.groups.specs.Search.{followed, with_rows}
use Rattle.groups.proofs.Passes.{begun, passed, fewer, found_early}
use Rattle.groups.proofs.gather.Goals as goal
use Rattle.groups.proofs.gather.Goals.{After-pass-progress}

pub loop-progress-init : goal.loop-progress-init
unfolding passes
loop-progress-init c =
    (begun (followed c.args.rows c.args.along) (omega arith) refl refl, (0, omega arith, c.single-first.ensures))

-- a pass adds a row at least
more : (c : After-pass-progress) → c.loop-progress.progress.count < c.pass-progress.result.count
more c =
    let members : Fits w16 c.loop-progress.progress.members = search rules in
    let added : Fits w16 c.loop-progress.progress.added = search rules in
    let less = fewer c.loop-progress.progress.added c.loop-progress.progress.members added.fits members.fits
    c.loop-progress.invariant.0.inside c.loop-progress-test.true in
    omega (
      arith,
      less,
      c.loop-progress.invariant.0.counted,
      c.pass-progress.ensures.2
          ∙ ap (λ g. count 16 (has g)) c.pass-progress.ensures.1,
    )

pub loop-progress-smaller : goal.loop-progress-smaller
loop-progress-smaller c =
    let more = more (goal.at.loop-progress-smaller c).After-pass-progress in
    omega (arith, more, c.pass-progress.ensures.2, count_le 16 (has c.pass-progress.result.added))

pub loop-progress-preserved : goal.loop-progress-preserved
unfolding passes
loop-progress-preserved c =
    let more = more (goal.at.loop-progress-preserved c).After-pass-progress in
    let small : Fits w16 c.loop-progress.progress.members = search rules in
    let d = followed c.args.rows c.args.along in
    let (members, added, counted) = c.pass-progress.ensures in
    let (n, few, reached) = c.loop-progress.invariant.1 in (
      passed d c.loop-progress.progress.members small.fits members added counted,
      (suc n, omega (arith, more), members ∙ ap (pass d) reached),
    )

pub returns : goal.returns
unfolding pass with_rows
returns c =
    let d = followed c.args.rows c.args.along in
    let (n, few, reached) = c.loop-progress.invariant.1 in
    let whole : c.loop-progress.progress.added ≡ c.loop-progress.progress.members = c.loop-progress-test.false in
    let most = count_le 16 (has c.loop-progress.progress.added) in (
      found_early d c.args.i n c.loop-progress.progress.members
          (omega (arith, c.loop-progress.invariant.0.counted, most)) reached
          (sym (c.loop-progress.invariant.0.covered ∙ ap (with_rows d c.loop-progress.progress.members) whole)),
      c.loop-progress.invariant.0.counted ∙ ap (λ g. count 16 (has g)) whole,
    )
