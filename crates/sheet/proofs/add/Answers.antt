-- `add` meets its contract: counted, and summed if it is printed.
use mathlib.Core.Path.{refl}
use native.Mathlib.Omega.{arith}
use native.Mathlib.Numerals.{add-one}
use borrow.Author.Tests.{le-ltb, lt-ltb}
use Rattle.page.specs.Page.{most_commits, full_status, added}
use Rattle.sheet.proofs.add.Goals as goal

pub returns-then-totals-gt-MOST_COMMITS : goal.returns-then-totals-gt-MOST_COMMITS
unfolding full_status added
returns-then-totals-gt-MOST_COMMITS c =
    let t = c.args.totals.now in
    rw (le-ltb t.commits most_commits (omega (arith, c.if-totals-gt-MOST_COMMITS.true)), add-one t.commits)
    (refl, refl, record { commits = omega arith; blocks = omega arith; bytes = omega arith })

pub returns : goal.returns
unfolding full_status added
returns c =
    let t = c.args.totals.now in
    rw (lt-ltb t.commits most_commits (omega (arith, c.if-totals-gt-MOST_COMMITS.false)), add-one t.commits)
    (refl, refl, record { commits = omega arith; blocks = omega arith; bytes = omega arith })
