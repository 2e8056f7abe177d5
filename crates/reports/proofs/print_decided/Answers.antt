-- `print_decided` meets its contract.
use mathlib.Core.Path.{sym, ◌∙◌}
use native.Mathlib.Omega.{arith}
use Rattle.sheet.proofs.Laws.{status_zero, status_some}
use Rattle.reports.proofs.Laws.{none_printed, not_printed, commit_printed}
use Rattle.reports.proofs.print_decided.Goals as goal

pub returns-in_default : goal.returns-in_default
returns-in_default c = none_printed c.args.t c.args.out.now c.in_default.is (omega arith) c.requires.0

pub returns-then-is_err : goal.returns-then-is_err
returns-then-is_err c =
    let some = status_some c.add.result (cc) in
    not_printed c.args.t c.args.out.now c.in-Some.is c.add.ensures.1 c.add.ensures.2
    (omega (arith, some, c.add.ensures.0)) (omega arith)

pub returns : goal.returns
returns c =
    commit_printed c.args.t c.args.out.now c.in-Some.is c.add.ensures.1 c.add.ensures.2
    (sym c.add.ensures.0 ∙ status_zero c.add.result (cc)) c.put_commit.ensures
